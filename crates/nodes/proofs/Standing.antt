-- What stands at a place, by the bytes that decide it.
use Rattle.std.proofs.Common.{◌≡◌, ℕ, zero, suc, ◌+◌, ◌≤◌, max, Bool, true, false, cond, eqb, leb, List, [], ◌∷◌, ◌++◌, length, get_or, take, drop, Some, None, sym, refl, ap, ◌∙◌, subst, arith}
use Rattle.std.proofs.lemmas.List.{get_or_append_left, length-append, length-map, length-take-le, take-append-drop, take_at, take-take}
use Rattle.std.proofs.lemmas.Bool.{leb-true, le-leb, cond-true, cond-false}
use Rattle.std.proofs.lemmas.Bool.Decides.{nat_tests}
use Rattle.crc32.specs.Sum.{sum}
use Rattle.flash.specs.Cells.{Cell, byte, lost, front, cells}
use Rattle.nodes.specs.Fields.{le16, le32, padded, all}
use Rattle.nodes.specs.Items.{Item, totlen, is_word, reach, header, passes, offered, stands, size}

-- an item that passes at the first of the cells
pub record Reads (cs : List Cell) (it : Item) : Type 0 where
  pub rest : List Cell
  pub starts : cs ≡ cells it ++ rest
  pub whole : reach it ≡ length it
  pub good : passes (length cs) it ≡ true

front_cells : (it : Item) (r : List Cell) → front (cells it ++ r) ≡ it ++ front r
unfolding front
front_cells [] r = refl
front_cells (b ∷ it) r = ap (λ l. b ∷ l) (front_cells it r)

cells_front : (n : ℕ) (cs : List Cell) → n ≤ length (front cs) → cs ≡ cells (take n (front cs)) ++ drop n cs
unfolding front
cells_front zero cs h = refl
cells_front (suc n) [] h = absurd (omega arith)
cells_front (suc n) (lost ∷ cs) h = absurd (omega arith)
cells_front (suc n) (byte b ∷ cs) h = ap (λ l. byte b ∷ l) (cells_front n cs (omega arith))

le32_front : (a r : List ℕ) (i : ℕ) → i + 4 ≤ length a → le32 (a ++ r) i ≡ le32 a i
unfolding le32
le32_front a r i h =
    cc (get_or_append_left a r 0 i (omega arith), get_or_append_left a r 0 (i + 1) (omega arith), get_or_append_left a r 0 (i + 2) (omega arith), get_or_append_left a r 0 (i + 3) (omega arith))

le16_front : (a r : List ℕ) (i : ℕ) → i + 2 ≤ length a → le16 (a ++ r) i ≡ le16 a i
unfolding le16
le16_front a r i h = cc (get_or_append_left a r 0 i (omega arith), get_or_append_left a r 0 (i + 1) (omega arith))

pub reach_word : (bs : List ℕ) → is_word bs ≡ true → reach bs ≡ 4
unfolding reach
reach_word bs e = cond-true _ _ _ e

pub reach_more : (bs : List ℕ) → is_word bs ≡ false → 12 ≤ reach bs
unfolding reach
reach_more bs e = grind (arith, nat_tests)

pub reach_least : (bs : List ℕ) → 4 ≤ reach bs
unfolding reach
reach_least bs = grind (arith, nat_tests)

-- the bytes that decide do not depend on those behind
module _ (a r : List ℕ) (four : 4 ≤ length a) where
  same_word : is_word (a ++ r) ≡ is_word a
  same_word = ap (λ n. eqb n 0) (le32_front a r 0 four)

  reach_front : (b : Bool) → is_word a ≡ b → (b ≡ false → 12 ≤ length a) → reach (a ++ r) ≡ reach a
  unfolding reach
  reach_front true e h = reach_word (a ++ r) (same_word ∙ e) ∙ sym (reach_word a e)
  reach_front false e h =
      let l : 12 ≤ length a = h refl in
      simp (le32_front a r 0 four, le16_front a r 2 (omega arith), le32_front a r 4 (omega arith))

chosen : (b c : Bool) (x it : Item) → cond b (cond c (Some x) None) None ≡ Some it → (b ≡ true) × (c ≡ true) × (x ≡ it)
chosen true true x it e = (refl, refl, cc)
chosen true false x it e = cc
chosen false c x it e = cc

split_reach : (a r : List ℕ) → reach (a ++ r) ≡ length a → reach a ≡ length a
split_reach a r e =
    let four : 4 ≤ length a = omega (arith, reach_least (a ++ r)) in
    sym (reach_front a r four (is_word a) refl (λ f. omega (arith, reach_more (a ++ r) (same_word a r four ∙ f)))) ∙ e

join_reach : (a r : List ℕ) → reach a ≡ length a → reach (a ++ r) ≡ length a
join_reach a r e =
    let four : 4 ≤ length a = omega (arith, reach_least a) in
    reach_front a r four (is_word a) refl (λ f. omega (arith, reach_more a f)) ∙ e

pub stands_reads : (cs : List Cell) (it : Item) → stands cs ≡ Some it → Reads cs it
unfolding stands offered
stands_reads cs it e =
    let t = chosen (leb (reach (front cs)) (length (front cs))) (passes (length cs) (take (reach (front cs)) (front cs))) _ it e in
    let l : reach (front cs) ≤ length (front cs) = leb-true _ _ t.0 in
    let n : length (take (reach (front cs)) (front cs)) ≡ reach (front cs) = length-take-le _ _ l in
    let w : reach (take (reach (front cs)) (front cs)) ≡ length (take (reach (front cs)) (front cs)) =
    split_reach _ (drop (reach (front cs)) (front cs)) (ap reach (take-append-drop _ _) ∙ sym n) in
    subst (Reads cs) t.2 (record { rest = drop (reach (front cs)) cs; starts = cells_front _ cs l; whole = w; good = t.1 })

pub reads_stands : (cs : List Cell) (it : Item) → Reads cs it → stands cs ≡ Some it
unfolding stands offered
reads_stands cs it r =
    let f : front cs ≡ it ++ front r.rest = ap front r.starts ∙ front_cells it r.rest in
    let n : reach (it ++ front r.rest) ≡ length it = join_reach it _ r.whole in
    let l : length it ≤ length (it ++ front r.rest) = omega (arith, length-append it (front r.rest)) in
    ap (offered (length cs)) f
    ∙ ap (λ k. cond (leb k (length (it ++ front r.rest))) (cond (passes (length cs) (take k (it ++ front r.rest))) (Some (take k (it ++ front r.rest))) None) None) n
    ∙ ap (λ b. cond b (cond (passes (length cs) (take (length it) (it ++ front r.rest))) (Some (take (length it) (it ++ front r.rest))) None) None) (le-leb _ _ l)
    ∙ ap (λ x. cond (passes (length cs) x) (Some x) None) (take_at it (front r.rest) (length it) refl)
    ∙ ap (λ b. cond b (Some it) None) r.good

pub at_all : (bs : List Bool) → all bs ≡ true → (k : ℕ) → get_or bs k true ≡ true
at_all [] e k = refl
at_all (true ∷ bs) e zero = refl
at_all (true ∷ bs) e (suc k) = at_all bs e k
at_all (false ∷ bs) e k = cc

second : (a b c : Bool) → a ≡ false → cond a true (cond b c false) ≡ true → b ≡ true
second a true c f e = refl
second true false c f e = cc
second false false c f e = cc

-- the header of what is no zero word passes
pub headed : (room : ℕ) (it : Item) → is_word it ≡ false → passes room it ≡ true → all (header room it) ≡ true
unfolding passes
headed room it f e = second (is_word it) (all (header room it)) _ f e

reach_most : (bs : List ℕ) → is_word bs ≡ false → reach bs ≤ max 12 (totlen bs)
unfolding reach
reach_most bs e = grind (arith, nat_tests)

-- an item takes four cells at least, those that decide it among them, and no more than there is room for
pub shaped : (room : ℕ) (it : Item) → reach it ≡ length it → passes room it ≡ true → length it ≤ room → (4 ≤ size it) × (length it ≤ size it) × (size it ≤ room)
unfolding size
shaped room it w g long = go (is_word it) refl
  where
    go : (b : Bool) → is_word it ≡ b → (4 ≤ size it) × (length it ≤ size it) × (size it ≤ room)
    go true e =
        let s : size it ≡ 4 = cond-true _ _ _ e in
        let n = reach_word it e in
        (omega (arith, s), omega (arith, s, n, w), omega (arith, s, n, w, long))
    go false e =
        let s : size it ≡ padded (totlen it) = cond-false _ _ _ e in
        let a = headed room it e g in
        let low = leb-true 12 (totlen it) (at_all (header room it) a 3) in
        let high = leb-true (padded (totlen it)) room (at_all (header room it) a 4) in
        let most = reach_most it e in
        (omega (arith, s, low), omega (arith, s, most, w, low), omega (arith, s, high))

pub sized : (cs : List Cell) (it : Item) → Reads cs it → (4 ≤ size it) × (length it ≤ size it) × (size it ≤ length cs)
sized cs it r =
    shaped (length cs) it r.whole r.good (omega (arith, ap length r.starts, length-append (cells it) r.rest, length-map it byte))

last_test : (a b c d e f : Bool) → all (a ∷ b ∷ c ∷ d ∷ e ∷ []) ≡ true → f ≡ true → all (a ∷ b ∷ c ∷ d ∷ f ∷ []) ≡ true
last_test true true true true e f p q = ap (λ x. cond x true false) q
last_test false b c d e f p q = cc
last_test true false c d e f p q = cc
last_test true true false d e f p q = cc
last_test true true true false e f p q = cc

swap_test : (w h k c : Bool) → (w ≡ false → h ≡ true → k ≡ true) → cond w true (cond h c false) ≡ true → cond w true (cond k c false) ≡ true
swap_test true h k c f e = refl
swap_test false true k c f e = ap (λ x. cond x c false) (f refl refl) ∙ e
swap_test false false k c f e = cc

-- what passes passes where there is more room
pub roomier : (m n : ℕ) (it : Item) → m ≤ n → passes m it ≡ true → passes n it ≡ true
unfolding passes
roomier m n it l g =
    swap_test (is_word it) (all (header m it)) (all (header n it)) _
    (λ w h. last_test (eqb (get_or it 0 0) 0x85) (eqb (get_or it 1 0) 0x19) (eqb (le32 it 8) (sum (take 8 it))) (leb 12 (totlen it)) (leb (padded (totlen it)) m) (leb (padded (totlen it)) n) h
    (le-leb (padded (totlen it)) n (let k = leb-true (padded (totlen it)) m (at_all (header m it) h 4) in omega arith))) g

-- what passes goes by the cells that decide, and by how many there are
pub moved : (xs ys : List Cell) (it : Item) (n : ℕ) → length xs ≡ length ys → length it ≤ n → take n xs ≡ take n ys → Reads xs it → Reads ys it
moved xs ys it n e l t r =
    let m : length (cells it) ≡ length it = length-map it byte in
    let s : take (length it) ys ≡ cells it =
    sym (take-take (length it) n ys l) ∙ ap (take (length it)) (sym t) ∙ take-take (length it) n xs l
    ∙ ap (take (length it)) r.starts ∙ take_at (cells it) r.rest (length it) m in
    record {
      rest = drop (length it) ys;
      starts = sym (take-append-drop (length it) ys) ∙ ap (λ l. l ++ drop (length it) ys) s;
      whole = r.whole;
      good = subst (λ k. passes k it ≡ true) e r.good;
    }
