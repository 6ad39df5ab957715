-- A reader's start and its steps, against the walk.
use Rattle.std.proofs.Common.{◌≡◌, ℕ, ◌+◌, ◌-◌, ◌<◌, ◌≤◌, Bool, true, false, cond, List, [], ◌∷◌, length, map, take, drop, Some, None, Option, sym, refl, ap, ◌∙◌, arith, length-drop}
use Rattle.std.proofs.lemmas.List.{take_rest}
use Rattle.std.proofs.lemmas.Iterator.{YieldsList}
use Rattle.std.proofs.lemmas.Iterator.Consumers.{YieldsList-from_shown}
use Rattle.flash.specs.Cells.{Cell}
use Rattle.nodes.specs.Items.{Item, stands, size}
use Rattle.nodes.specs.Seen.{seen, seen_from}
use Rattle.nodes.specs.Views as views
use Rattle.nodes.specs.Views.{View, view}
use Rattle.nodes.specs.Walk.{walk, walk_from, marked}
use Rattle.nodes.specs.declared.reader.Reader.{Reader}
use Rattle.nodes.specs.Reading.{rest, found_at, to_find, first_of, behind, found_as, HandsOut}
use Rattle.nodes.proofs.Standing.{stands_reads, sized}
use Rattle.nodes.proofs.Walks.{item_at, none_at}
use Rattle.nodes.proofs.Marks.{walk_marked, walk_bare}
use Rattle.nodes.proofs.Cuts.{drop_seen}

-- what is left of a block, as the code has its bytes
pub tail_seen : (fs : List Bool) (bs : List ℕ) (p : ℕ) → seen_from fs p (take (length bs - p) (drop p bs)) ≡ drop p (seen fs bs)
tail_seen fs bs p =
    sym (drop_seen fs 0 p bs ∙ ap (λ k. seen_from fs k (drop p bs)) (let z : 0 + p ≡ p = omega arith in z) ∙ ap (seen_from fs p) (sym (take_rest bs p)))

-- nothing is left at the end of a block
walk_end : (xs : List Cell) (p : ℕ) → length xs ≤ p → walk_from xs p ≡ []
walk_end xs p h = go (stands (drop p xs)) refl
  where
    go : (o : Option Item) → stands (drop p xs) ≡ o → walk_from xs p ≡ []
    go None e = none_at xs p e
    go (Some it) e = absurd (omega (arith, sized (drop p xs) it (stands_reads (drop p xs) it e), length-drop p xs))

-- a step of the reader at p, over n cells, at which it finds v
pub record Step (xs : List Cell) (p : ℕ) (v : View) (n : ℕ) : Type 0 where
  pub some : 0 < n
  pub fits : p + n ≤ length xs
  pub first : (b : ℕ) → Some (record { block = b; offset = p }, v) ≡ first_of b (walk_from xs p)
  pub others : walk_from xs (p + n) ≡ behind (walk_from xs p)
  pub finds : (b : ℕ) → map (found_at b) (walk_from xs p) ≡ (record { block = b; offset = p }, v) ∷ map (found_at b) (walk_from xs (p + n))

-- where cs are the cells from p on
pub step : (xs : List Cell) (p : ℕ) {v : View} {n : ℕ} {cs : List Cell} → cs ≡ drop p xs → Some (v, n) ≡ views.sized (stands cs) → Step xs p v n
step xs p {v = v} {n = n} c e = go (stands (drop p xs)) refl (e ∙ ap (λ l. views.sized (stands l)) c)
  where
    go : (o : Option Item) → stands (drop p xs) ≡ o → Some (v, n) ≡ views.sized o → Step xs p v n
    go None s e = cc
    go (Some it) s e =
        let r = sized (drop p xs) it (stands_reads (drop p xs) it s) in
        let q : ◌≡◌ {A = View × ℕ} (v, n) (view it, size it) = cc in
        let m : n ≡ size it = ap (λ x. x.1) q in
        let w : walk_from xs p ≡ (p, it) ∷ walk_from xs (p + n) = item_at xs p it s ∙ ap (λ k. (p, it) ∷ walk_from xs (p + k)) (sym m) in
        let found : (b : ℕ) → found_at b (p, it) ≡ (record { block = b; offset = p }, v) = λ b. ap (λ x. (record { block = b; offset = p }, x)) (sym (ap (λ x. x.0) q)) in
        record {
          some = omega (arith, m, r);
          fits = omega (arith, m, r, length-drop p xs);
          first = λ b. sym (ap (first_of b) w ∙ ap (λ f. Some f) (found b));
          others = sym (ap behind w);
          finds = λ b. ap (map (found_at b)) w ∙ ap (λ f. f ∷ map (found_at b) (walk_from xs (p + n))) (found b);
        }

pub stop : (xs : List Cell) (p : ℕ) {cs : List Cell} → cs ≡ drop p xs → None ≡ views.sized (stands cs) → walk_from xs p ≡ []
stop xs p c e = go (stands (drop p xs)) refl (e ∙ ap (λ l. views.sized (stands l)) c)
  where
    go : (o : Option Item) → stands (drop p xs) ≡ o → None ≡ views.sized o → walk_from xs p ≡ []
    go None s e = none_at xs p s
    go (Some it) s e = cc

-- a reader's start: at the marker, or at the end
pub start : (xs : List Cell) (b : Bool) (p : ℕ) → b ≡ marked xs → p ≡ cond b 0 (length xs) → walk_from xs p ≡ walk xs
start xs true p m e = ap (walk_from xs) e ∙ sym (walk_marked xs (sym m))
start xs false p m e = walk_end xs p (omega arith) ∙ sym (walk_bare xs (sym m))

-- a reader with nothing left
pub none_left : (r : Reader) → rest r ≡ [] → HandsOut r None r
none_left r e =
    let none : to_find r ≡ [] = ap (map (found_at r.block)) e in
    record { yields = (none, none); first = sym (ap (first_of r.block) e); others = e ∙ sym (ap behind e); block = refl; image = refl }

-- what a reader hands out up to the end
pub finds_all : (r : Reader) → YieldsList HandsOut found_as r (to_find r)
finds_all r = YieldsList-from_shown HandsOut found_as to_find (λ s t h. ap length h.yields.0) (λ s f t h. h.yields) r
