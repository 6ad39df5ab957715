-- What stands at a place of a block, decided by its bytes from there on and by how many of them can be read.
use Rattle.std.proofs.Common.{◌≡◌, ℕ, ◌+◌, ◌<◌, ◌≤◌, max, Bool, true, false, cond, eqb, leb, List, length, take, Some, None, sym, refl, ap, ◌∙◌, arith, length-take}
use Rattle.std.proofs.lemmas.List.{get_or-take, length-take-le, take-take}
use Rattle.std.proofs.lemmas.Bool.{leb-true, le-leb, lt-leb, cond-true, cond-false, false≢true}
use Rattle.nodes.specs.Fields.{le16, le32, all}
use Rattle.nodes.specs.Offences.{either}
use Rattle.nodes.specs.Items.{Item, kind, totlen, is_word, reach, header, entry, content, passes, offered}
use Rattle.nodes.proofs.Standing.{reach_word, reach_more, reach_least, at_all}

-- fields within the first k bytes
pub le32_cut : (bs : List ℕ) (k i : ℕ) → i + 4 ≤ k → le32 (take k bs) i ≡ le32 bs i
unfolding le32
le32_cut bs k i h =
    cc (get_or-take k bs i 0 (omega arith), get_or-take k bs (i + 1) 0 (omega arith), get_or-take k bs (i + 2) 0 (omega arith), get_or-take k bs (i + 3) 0 (omega arith))

pub le16_cut : (bs : List ℕ) (k i : ℕ) → i + 2 ≤ k → le16 (take k bs) i ≡ le16 bs i
unfolding le16
le16_cut bs k i h = cc (get_or-take k bs i 0 (omega arith), get_or-take k bs (i + 1) 0 (omega arith))

pub word_cut : (bs : List ℕ) (k : ℕ) → 4 ≤ k → is_word (take k bs) ≡ is_word bs
word_cut bs k h = ap (λ n. eqb n 0) (le32_cut bs k 0 h)

reach_cut : (bs : List ℕ) (k : ℕ) → 12 ≤ k → reach (take k bs) ≡ reach bs
unfolding reach
reach_cut bs k h =
    simp (le32_cut bs k 0 (omega arith), le16_cut bs k 2 (omega arith), le32_cut bs k 4 (omega arith))

header_cut : (room : ℕ) (bs : List ℕ) (k : ℕ) → 12 ≤ k → header room (take k bs) ≡ header room bs
header_cut room bs k h =
    cc (get_or-take k bs 0 0 (omega arith), get_or-take k bs 1 0 (omega arith), le32_cut bs k 8 (omega arith), take-take 8 k bs (omega arith), le32_cut bs k 4 (omega arith))

-- what an entry or a content has to pass besides its header
abbrev pub body : Item → Bool
body it = cond (eqb (kind it) 0xE001) (all (entry it)) (cond (eqb (kind it) 0xE002) (all (content it)) true)

passes_cut : (room : ℕ) (bs : List ℕ) (k : ℕ) → 12 ≤ k → is_word bs ≡ false → passes room (take k bs) ≡ cond (all (header room bs)) (body (take k bs)) false
unfolding passes
passes_cut room bs k h w =
    cond-false _ _ _ (word_cut bs k (omega arith) ∙ w) ∙ ap (λ hs. cond (all hs) (body (take k bs)) false) (header_cut room bs k h)

-- fewer than four bytes can be read
pub none_short : (room : ℕ) (bs : List ℕ) (m : ℕ) → m < 4 → offered room (take m bs) ≡ None
unfolding offered
none_short room bs m h =
    cond-false _ _ _ (lt-leb (reach (take m bs)) (length (take m bs)) (omega (arith, reach_least (take m bs), length-take m bs)))

-- a zero word
pub zero_offered : (room : ℕ) (bs : List ℕ) (m : ℕ) → 4 ≤ m → m ≤ length bs → is_word bs ≡ true → offered room (take m bs) ≡ Some (take 4 bs)
unfolding offered passes
zero_offered room bs m h l w =
    let r : reach (take m bs) ≡ 4 = reach_word (take m bs) (word_cut bs m h ∙ w) in
    let t : take (reach (take m bs)) (take m bs) ≡ take 4 bs = ap (λ k. take k (take m bs)) r ∙ take-take 4 m bs h in
    cond-true _ _ _ (le-leb (reach (take m bs)) (length (take m bs)) (omega (arith, r, length-take-le m bs l)))
    ∙ ap (λ it. cond (passes room it) (Some it) None) t
    ∙ cond-true (passes room (take 4 bs)) _ _ (cond-true _ _ _ (word_cut bs 4 (omega arith) ∙ w))

-- no zero word, and fewer bytes than a header has
pub none_header : (room : ℕ) (bs : List ℕ) (m : ℕ) → 4 ≤ m → m < 12 → is_word bs ≡ false → offered room (take m bs) ≡ None
unfolding offered
none_header room bs m h l w =
    cond-false _ _ _ (lt-leb (reach (take m bs)) (length (take m bs)) (omega (arith, reach_more (take m bs) (word_cut bs m h ∙ w), length-take m bs)))

if_both : (a : Bool) (p q : Bool) (x y : Item) → (a ≡ true → (x ≡ y) × (p ≡ q)) → cond a (cond p (Some x) None) None ≡ cond a (cond q (Some y) None) None
if_both true p q x y h = let e = h refl in cc
if_both false p q x y h = refl

-- where the header can be read, it and all that decides the item are those of the bytes
offered_is : (room : ℕ) (bs : List ℕ) (m : ℕ) → 12 ≤ m → m ≤ length bs → is_word bs ≡ false → offered room (take m bs) ≡ cond (leb (reach bs) m) (cond (cond (all (header room bs)) (body (take (reach bs) bs)) false) (Some (take (reach bs) bs)) None) None
unfolding offered
offered_is room bs m h l w =
    ap (λ n. cond (leb (reach (take m bs)) n) (cond (passes room (take (reach (take m bs)) (take m bs))) (Some (take (reach (take m bs)) (take m bs))) None) None) (length-take-le m bs l)
    ∙ ap (λ k. cond (leb k m) (cond (passes room (take k (take m bs))) (Some (take k (take m bs))) None) None) (reach_cut bs m h)
    ∙ if_both (leb (reach bs) m) _ _ _ _
    (λ t.
    let e = take-take (reach bs) m bs (leb-true _ _ t) in
    (e, ap (passes room) e ∙ passes_cut room bs (reach bs) (reach_more bs w) w))

none_of : (a b : Bool) (x : Item) → cond a (cond (cond false b false) (Some x) None) None ≡ None
none_of true b x = refl
none_of false b x = refl

module _ (room : ℕ) (bs : List ℕ) (m : ℕ) (twelve : 12 ≤ m) (within : m ≤ length bs) (other : is_word bs ≡ false) where
  pub none_bad : all (header room bs) ≡ false → offered room (take m bs) ≡ None
  none_bad e =
      offered_is room bs m twelve within other
      ∙ ap (λ t. cond (leb (reach bs) m) (cond (cond t (body (take (reach bs) bs)) false) (Some (take (reach bs) bs)) None) None) e
      ∙ none_of (leb (reach bs) m) (body (take (reach bs) bs)) (take (reach bs) bs)

  -- of an item whose header passes, k bytes decide
  headed_is : (k : ℕ) → reach bs ≡ k → all (header room bs) ≡ true → offered room (take m bs) ≡ cond (leb k m) (cond (body (take k bs)) (Some (take k bs)) None) None
  headed_is k r e =
      offered_is room bs m twelve within other
      ∙ ap (λ t. cond (leb (reach bs) m) (cond (cond t (body (take (reach bs) bs)) false) (Some (take (reach bs) bs)) None) None) e
      ∙ ap (λ n. cond (leb n m) (cond (body (take n bs)) (Some (take n bs)) None) None) r

  -- the header decides, unless it is that of an entry or a content
  pub plain_offered : all (header room bs) ≡ true → eqb (kind bs) 0xE001 ≡ false → eqb (kind bs) 0xE002 ≡ false → offered room (take m bs) ≡ Some (take 12 bs)
  unfolding reach
  plain_offered e p q =
      let k : kind (take 12 bs) ≡ kind bs = le16_cut bs 12 2 (omega arith) in
      let r : reach bs ≡ 12 = cond-false _ _ _ other ∙ cond-false _ _ _ p ∙ cond-false _ _ _ q in
      headed_is 12 r e
      ∙ cond-true _ _ _ (le-leb 12 m twelve)
      ∙ cond-true _ _ _ (cond-false _ _ _ (ap (λ n. eqb n 0xE001) k ∙ p) ∙ cond-false _ _ _ (ap (λ n. eqb n 0xE002) k ∙ q))

  longest : all (header room bs) ≡ true → max 12 (totlen bs) ≡ totlen bs
  longest e = let low = leb-true 12 (totlen bs) (at_all (header room bs) e 3) in omega arith

  -- all its bytes decide an entry or a content
  pub node_offered : all (header room bs) ≡ true → either (eqb (kind bs) 0xE001) (eqb (kind bs) 0xE002) ≡ true → offered room (take m bs) ≡ cond (leb (totlen bs) m) (cond (body (take (totlen bs) bs)) (Some (take (totlen bs) bs)) None) None
  unfolding reach
  node_offered e k =
      headed_is (totlen bs) (cond-false _ _ _ other ∙ go (eqb (kind bs) 0xE001) (eqb (kind bs) 0xE002) k ∙ longest e) e
    where
      go : (x y : Bool) → either x y ≡ true → cond x (max 12 (totlen bs)) (cond y (max 12 (totlen bs)) 12) ≡ max 12 (totlen bs)
      go true y k = refl
      go false true k = refl
      go false false k = absurd (false≢true k)

  -- whatever is offered is a first part of the bytes, with the header in it
  pub offered_cut : (it : Item) → offered room (take m bs) ≡ Some it → take (reach bs) bs ≡ it
  offered_cut it e =
      some_of (leb (reach bs) m) (cond (all (header room bs)) (body (take (reach bs) bs)) false) (take (reach bs) bs) it (sym (offered_is room bs m twelve within other) ∙ e)
    where
      some_of : (a b : Bool) (x y : Item) → cond a (cond b (Some x) None) None ≡ Some y → x ≡ y
      some_of true true x y e = cc
      some_of true false x y e = cc
      some_of false b x y e = cc
