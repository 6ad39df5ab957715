-- What can be read of a block.
use Rattle.std.proofs.Common.{◌≡◌, ℕ, zero, suc, ◌+◌, ◌-◌, ◌*◌, ◌/◌, ◌<◌, ◌≤◌, Bool, true, false, cond, not, List, [], ◌∷◌, ◌++◌, length, take, drop, sym, refl, ap, ◌∙◌, subst, suc-mul, add-mul, suc-add, zero-mul, div-mul-le_self, add-one, arith, length-drop, length-take}
use native.Mathlib.Nat.{lt-div-mul-add}
use Rattle.std.proofs.lemmas.List.{take-append-le, drop-append-le, drop-drop, take_all, take-append-drop}
use Rattle.std.proofs.lemmas.Nat.{le-div, div_below}
use Rattle.std.proofs.lemmas.Bool.{true≢false}
use Rattle.std.specs.List.{list_any}
use Rattle.flash.specs.Cells.{Cell, byte, lost, cells}
use Rattle.flash.specs.Refused.{readable, part}
use Rattle.devices.specs.Pages.{page_cells, shown_by}
use Rattle.devices.specs.SanePages.{page_long}
use Rattle.devices.proofs.Shown.{shown_drop}

-- ─── cells over bytes ───

-- each cell is the byte, or cannot be read
data Covers : List Cell → List ℕ → Type 0 where
  none : Covers [] []
  seen : {cs : List Cell} {xs : List ℕ} (x : ℕ) → Covers cs xs → Covers (byte x ∷ cs) (x ∷ xs)
  gone : {cs : List Cell} {xs : List ℕ} (x : ℕ) → Covers cs xs → Covers (lost ∷ cs) (x ∷ xs)

covers_take : {cs : List Cell} {xs : List ℕ} (n : ℕ) → Covers cs xs → Covers (take n cs) (take n xs)
covers_take zero c = Covers.none
covers_take (suc n) Covers.none = Covers.none
covers_take (suc n) (Covers.seen x c) = Covers.seen x (covers_take n c)
covers_take (suc n) (Covers.gone x c) = Covers.gone x (covers_take n c)

covers_drop : {cs : List Cell} {xs : List ℕ} (n : ℕ) → Covers cs xs → Covers (drop n cs) (drop n xs)
covers_drop zero c = c
covers_drop (suc n) Covers.none = Covers.none
covers_drop (suc n) (Covers.seen x c) = covers_drop n c
covers_drop (suc n) (Covers.gone x c) = covers_drop n c

covers_append : {cs ds : List Cell} {xs ys : List ℕ} → Covers cs xs → Covers ds ys → Covers (cs ++ ds) (xs ++ ys)
covers_append Covers.none d = d
covers_append (Covers.seen x c) d = Covers.seen x (covers_append c d)
covers_append (Covers.gone x c) d = Covers.gone x (covers_append c d)

covers_page : (f : Bool) (ys : List ℕ) → Covers (page_cells f ys) ys
covers_page true [] = Covers.none
covers_page true (y ∷ ys) = Covers.gone y (covers_page true ys)
covers_page false [] = Covers.none
covers_page false (y ∷ ys) = Covers.seen y (covers_page false ys)

-- what can be read is the bytes
covers_read : {cs : List Cell} {xs : List ℕ} → Covers cs xs → readable cs ≡ true → cells xs ≡ cs
covers_read Covers.none h = refl
covers_read (Covers.seen x c) h = ap (λ (l : List Cell). byte x ∷ l) (covers_read c h)
covers_read (Covers.gone x c) h = absurd (true≢false (sym h))

module _ (p : ℕ) where
  covers_block : (fs : List Bool) (xs : List ℕ) → length xs ≡ length fs * p → Covers (shown_by p fs xs) xs
  unfolding shown_by
  covers_block [] [] h = Covers.none
  covers_block [] (x ∷ xs) h = absurd (omega (arith, h, zero-mul p))
  covers_block (f ∷ fs) xs h =
      let k : length xs ≡ length fs * p + p = h ∙ suc-mul (length fs) p in
      let r : length (drop p xs) ≡ length fs * p = simp length-drop (omega arith) in
      subst (λ (l : List ℕ). Covers (page_cells f (take p xs) ++ shown_by p fs (drop p xs)) l) (take-append-drop p xs)
      (covers_append (covers_page f (take p xs)) (covers_block fs (drop p xs) r))

  -- the bytes of a part that can be read
  pub part_read : (fs : List Bool) (xs : List ℕ) → length xs ≡ length fs * p → (o n : ℕ) → readable (part (shown_by p fs xs) o n) ≡ true
      → cells (take n (drop o xs)) ≡ part (shown_by p fs xs) o n
  part_read fs xs full o n h = covers_read (covers_take n (covers_drop o (covers_block fs xs full))) h

-- ─── parts that can be read ───

-- whether a flag is set
abbrev pub any : List Bool → Bool
any [] = false
any (x ∷ xs) = cond x true (any xs)

readable_append : (cs ds : List Cell) → readable (cs ++ ds) ≡ cond (readable cs) (readable ds) false
readable_append [] ds = refl
readable_append (byte b ∷ cs) ds = readable_append cs ds
readable_append (lost ∷ cs) ds = refl

-- a part of one page
readable_page : (f : Bool) (ys : List ℕ) (o n : ℕ) → 0 < n → o < length ys → readable (take n (drop o (page_cells f ys))) ≡ not f
readable_page true [] o n h l = absurd (omega (arith, l))
readable_page true (y ∷ ys) zero zero h l = absurd (omega (arith, h))
readable_page true (y ∷ ys) zero (suc n) h l = refl
readable_page true (y ∷ ys) (suc o) n h l = readable_page true ys o n h (omega (arith, l))
readable_page false ys o n h l = all (drop o (cells ys)) n (bytes o ys)
  where
    bytes : (o : ℕ) (ys : List ℕ) → readable (drop o (cells ys)) ≡ true
    bytes zero [] = refl
    bytes zero (y ∷ ys) = bytes zero ys
    bytes (suc o) [] = refl
    bytes (suc o) (y ∷ ys) = bytes o ys

    all : (cs : List Cell) (n : ℕ) → readable cs ≡ true → readable (take n cs) ≡ true
    all cs zero h = refl
    all [] (suc n) h = refl
    all (byte b ∷ cs) (suc n) h = all cs n h
    all (lost ∷ cs) (suc n) h = absurd (true≢false (sym h))

cond_not : (f : Bool) (u : Bool) → cond (not f) (not u) false ≡ not (cond f true u)
cond_not true u = refl
cond_not false u = refl

module _ (p : ℕ) where
  -- a part that begins in the first page and ends in the page m
  from_first : (fs : List Bool) (xs : List ℕ) → length xs ≡ length fs * p → (m o n : ℕ) → m < length fs → o < p → 0 < n → m * p < o + n → o + n ≤ m * p + p
      → readable (part (shown_by p fs xs) o n) ≡ not (any (take (suc m) fs))
  unfolding shown_by
  from_first [] xs h m o n l a b c d = absurd (omega (arith, l))
  from_first (f ∷ fs) xs h zero o n l a b c d =
      let k : length xs ≡ length fs * p + p = h ∙ suc-mul (length fs) p in
      let P = take p xs in
      let t : length P ≡ p = simp length-take (omega arith) in
      let A = page_cells f P in
      let la : length A ≡ p = page_long f P ∙ t in
      let e : take n (drop o (A ++ shown_by p fs (drop p xs))) ≡ take n (drop o A) =
      ap (take n) (drop-append-le o A (shown_by p fs (drop p xs)) (omega arith))
      ∙ take-append-le n (drop o A) (shown_by p fs (drop p xs)) (simp length-drop (omega (arith, zero-mul p))) in
      ap readable e ∙ (readable_page f P o n b (omega arith) ∙ one f)
    where
      one : (f : Bool) → not f ≡ not (any (f ∷ []))
      one true = refl
      one false = refl
  from_first (f ∷ fs) xs h (suc m) o n l a b c d =
      let k : length xs ≡ length fs * p + p = h ∙ suc-mul (length fs) p in
      let P = take p xs in
      let t : length P ≡ p = simp length-take (omega arith) in
      let r : length (drop p xs) ≡ length fs * p = simp length-drop (omega arith) in
      let A = page_cells f P in
      let rest = shown_by p fs (drop p xs) in
      let la : length A ≡ p = page_long f P ∙ t in
      let j = o + n - p in
      let sm = suc-mul m p in
      let ld : length (drop o A) ≡ p - o = simp length-drop (omega arith) in
      let e : take n (drop o (A ++ rest)) ≡ drop o A ++ take j rest =
      ap (take n) (drop-append-le o A rest (omega arith)) ∙ take_past n (p - o) j (drop o A) rest ld (omega arith) in
      let ih : readable (take j rest) ≡ not (any (take (suc m) fs)) =
      from_first fs (drop p xs) r m 0 j (omega (arith, l)) (omega arith) (omega arith) (omega arith) (omega arith) in
      let whole : readable (drop o A) ≡ not f = ap readable (sym (take_rest' (drop o A) p (omega arith))) ∙ readable_page f P o p (omega arith) (omega arith) in
      ap readable e ∙ (readable_append (drop o A) (take j rest) ∙ (rw (whole, ih) (cond_not f (any (take (suc m) fs)))))
    where
      take_past : {X : Type 0} (n w j : ℕ) (xs ys : List X) → length xs ≡ w → n ≡ w + j → take n (xs ++ ys) ≡ xs ++ take j ys
      take_past n zero j [] ys h e = ap (λ i. take i ys) (omega arith)
      take_past n (suc w) j [] ys h e = absurd (omega (arith, h))
      take_past n zero j (x ∷ xs) ys h e = absurd (omega (arith, h))
      take_past n (suc w) j (x ∷ xs) ys h e =
          ap (λ i. take i (x ∷ (xs ++ ys))) (e ∙ suc-add w j) ∙ ap (λ l. x ∷ l) (take_past (w + j) w j xs ys (omega (arith, h)) refl)

      take_rest' : {X : Type 0} (xs : List X) (n : ℕ) → length xs ≤ n → take n xs ≡ xs
      take_rest' xs n h = take_all n xs h

-- a part from the place o on, and the flags of the pages in which it has bytes
module _ (p : ℕ) (pos : 0 < p) (fs : List Bool) (xs : List ℕ) (full : length xs ≡ length fs * p) (o n : ℕ) (some : 0 < n) (fits : o + n ≤ length fs * p) where
  first : ℕ
  first = o / p

  last : ℕ
  last = (o + n - 1) / p

  record Spans : Type 0 where
    lo : first * p ≤ o
    lo' : o < first * p + p
    hi : last * p < o + n
    hi' : o + n ≤ last * p + p
    order : first ≤ last
    there : last < length fs

  spans : Spans
  unfolding first last
  spans =
      let a = div-mul-le_self o p in
      let b = lt-div-mul-add {a = o} pos in
      let c = div-mul-le_self (o + n - 1) p in
      let d = lt-div-mul-add {a = o + n - 1} pos in
      record {
        lo = a;
        lo' = b;
        hi = omega arith;
        hi' = omega arith;
        order = le-div (o / p) (o + n - 1) p pos (omega arith);
        there = div_below (o + n - 1) p (length fs) pos (omega arith);
      }

  pub part_lost : readable (part (shown_by p fs xs) o n) ≡ not (any (take ((o + n - 1) / p - o / p + 1) (drop (o / p) fs)))
  unfolding first last
  part_lost =
      let s = spans in
      let k = first in
      let m = last - first in
      let r = length fs - k in
      let km : last * p ≡ k * p + m * p = ap (λ i. i * p) (sum_is k last s.order) ∙ add-mul k m p in
      let kr : length fs * p ≡ k * p + r * p = ap (λ i. i * p) (sum_is k (length fs) (omega arith)) ∙ add-mul k r p in
      let lf : length (drop k fs) ≡ r = length-drop k fs in
      let full' : length (drop (k * p) xs) ≡ length (drop k fs) * p = simp length-drop (omega arith) in
      let e : part (shown_by p fs xs) o n ≡ part (shown_by p (drop k fs) (drop (k * p) xs)) (o - k * p) n =
      ap (λ i. take n (drop i (shown_by p fs xs))) (sum_is (k * p) o s.lo)
      ∙ (ap (take n) (sym (drop-drop (o - k * p) (k * p) (shown_by p fs xs)))
      ∙ ap (λ (l : List Cell). take n (drop (o - k * p) l)) (shown_drop p fs xs full k (omega arith))) in
      ap readable e
      ∙ (from_first p (drop k fs) (drop (k * p) xs) full' m (o - k * p) n (omega arith) (omega arith) some (omega arith) (omega arith)
      ∙ ap (λ i. not (any (take i (drop k fs)))) (sym (add-one m)))
    where
      sum_is : (a b : ℕ) → a ≤ b → b ≡ a + (b - a)
      sum_is a b h = omega arith

any_is : (test : Bool → Bool) → test true ≡ true → test false ≡ false → (fs : List Bool) → list_any test fs ≡ any fs
any_is test t f [] = refl
any_is test t f (true ∷ fs) = rw t
any_is test t f (false ∷ fs) = rw (f, any_is test t f fs)

-- whether a flag of those pages is set, as the code asks
pub lost_is : (p : ℕ) → 0 < p → (fs : List Bool) (xs : List ℕ) → length xs ≡ length fs * p → (o n : ℕ) → (n ≡ 0 → ⊥) → o + n ≤ length fs * p
    → (test : Bool → Bool) → test true ≡ true → test false ≡ false → (r : Bool) → r ≡ list_any test (take ((o + n - 1) / p + 1 - o / p) (drop (o / p) fs))
    → r ≡ not (readable (part (shown_by p fs xs) o n))
lost_is p pos fs xs full o n some fits test t f r h =
    let n' : 0 < n = omega (arith, some) in
    let order : o / p ≤ (o + n - 1) / p = le-div (o / p) (o + n - 1) p pos (omega (arith, div-mul-le_self o p)) in
    let many : (o + n - 1) / p + 1 - o / p ≡ (o + n - 1) / p - o / p + 1 = omega arith in
    h ∙ (any_is test t f _ ∙ (ap (λ k. any (take k (drop (o / p) fs))) many
    ∙ (sym (not_not (any (take ((o + n - 1) / p - o / p + 1) (drop (o / p) fs)))) ∙ ap not (sym (part_lost p pos fs xs full o n n' fits)))))
  where
    not_not : (x : Bool) → not (not x) ≡ x
    not_not true = refl
    not_not false = refl
