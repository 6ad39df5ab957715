-- The meaning of a NAND chip is sane at all times, which is a law of the interface: what a block shows, and how far it is used.
use Rattle.std.proofs.Common.{◌≡◌, ℕ, zero, suc, ◌+◌, ◌-◌, ◌*◌, ◌/◌, ◌<◌, ◌≤◌, Bool, true, false, cond, not, ltb, List, [], ◌∷◌, length, get_or, take, drop, sym, refl, ap, ◌∙◌, ⊎_elim, mul-le-mul_right, suc-mul, zero-mul, mul-one, add-one, arith, length-append, length-drop, length-take}
use native.Mathlib.Nat.{mul-mod_left, div-eq_of_lt, div-eq-sub-div}
use lib.ListN.{length-map, length-replicate}
use Rattle.std.proofs.lemmas.List.{get_or-replicate, get_or_append_left, get_or-append_right, get_or-take, get_or-drop}
use Rattle.std.proofs.lemmas.Bool.{cases_lt, ltb-false, true≢false}
use Rattle.flash.specs.Cells.{byte, lost}
use Rattle.flash.specs.Extent.{bump, extent, used}
use Rattle.flash.specs.Meaning.{Sane}
use Rattle.flash.proofs.Extents.{bump_none, extent_le, unused}
use Rattle.devices.specs.declared.supply.Supply.{Supply}
use Rattle.devices.specs.Memory.{part_of}
use Rattle.devices.specs.Sizes.{size_of}
use Rattle.devices.specs.Pages.{by_pages, page_cells, shown_by, page_used, pages_used, mark_of}
use Rattle.devices.specs.Nand.{nand, blocks_of, block_of}
use Rattle.devices.specs.Sane.{SaneBlock, chip_sane, part_full, parts_fit, not_lost, get_or-cells}

-- ─── rows made page by page ───

-- g makes q elements of each page of p bytes
pub by_pages_long : {Y : Type 0} (g : Bool → List ℕ → List Y) (p q : ℕ) → ((f : Bool) (ys : List ℕ) → length ys ≡ p → length (g f ys) ≡ q)
    → (fs : List Bool) (xs : List ℕ) → length xs ≡ length fs * p → length (by_pages g p fs xs) ≡ length fs * q
by_pages_long g p q long [] xs h = sym (zero-mul q)
by_pages_long g p q long (f ∷ fs) xs h =
    let k : length xs ≡ length fs * p + p = h ∙ suc-mul (length fs) p in
    let l : length (take p xs) ≡ p = simp length-take (omega arith) in
    let r : length (drop p xs) ≡ length fs * p = simp length-drop (omega arith) in
    length-append (g f (take p xs)) (by_pages g p fs (drop p xs))
    ∙ (rw (long f (take p xs) l, by_pages_long g p q long fs (drop p xs) r) (omega (arith, suc-mul (length fs) q)))

pub page_long : (f : Bool) (ys : List ℕ) → length (page_cells f ys) ≡ length ys
page_long true ys = length-replicate (length ys) lost
page_long false ys = length-map ys byte

page_at : (f : Bool) (ys : List ℕ) (i : ℕ) → i < length ys → get_or (page_cells f ys) i lost ≡ cond f lost (byte (get_or ys i 0))
page_at true ys i h = get_or-replicate (length ys) i lost lost h
page_at false ys i h = get_or-cells ys i h

empty_page : (f : Bool) (ys : List ℕ) → not (page_used f ys) ≡ true → (f ≡ false) × (used ys ≤ 0)
empty_page true ys h = absurd (true≢false (sym h))
empty_page false ys h = (refl, go (ltb 0 (used ys)) refl h)
  where
    go : (t : Bool) → ltb 0 (used ys) ≡ t → not t ≡ true → used ys ≤ 0
    go true e h = absurd (true≢false (sym h))
    go false e h = ltb-false 0 (used ys) e

none_used : (n p i : ℕ) → n * p ≤ i → i < p → n ≡ 0
none_used zero p i h l = refl
none_used (suc n) p i h l = absurd (omega (arith, suc-mul n p))

used_behind : (e : Bool) (n p i : ℕ) → bump e n * p ≤ i → p ≤ i → n * p ≤ i - p
used_behind e zero p i h l = omega (arith, zero-mul p)
used_behind e (suc n) p i h l = omega (arith, suc-mul (suc n) p)

module _ (p : ℕ) where
  pub cells_long : (f : Bool) (ys : List ℕ) → length ys ≡ p → length (page_cells f ys) ≡ p
  cells_long f ys h = page_long f ys ∙ h

  pub one_long : (f : Bool) (ys : List ℕ) → length ys ≡ p → length (page_used f ys ∷ []) ≡ 1
  one_long f ys h = refl

  pub shown_long : (fs : List Bool) (xs : List ℕ) → length xs ≡ length fs * p → length (shown_by p fs xs) ≡ length fs * p
  unfolding shown_by
  shown_long fs xs h = by_pages_long page_cells p p cells_long fs xs h

  pub used_long : (fs : List Bool) (xs : List ℕ) → length xs ≡ length fs * p → length (pages_used p fs xs) ≡ length fs
  unfolding pages_used
  used_long fs xs h = by_pages_long (λ f ys. page_used f ys ∷ []) p 1 one_long fs xs h ∙ mul-one (length fs)

  -- the cell i
  shown_at : 0 < p → (fs : List Bool) (xs : List ℕ) → length xs ≡ length fs * p → (i : ℕ) → i < length fs * p
      → get_or (shown_by p fs xs) i lost ≡ cond (get_or fs (i / p) true) lost (byte (get_or xs i 0))
  unfolding shown_by
  shown_at pos [] xs h i l = absurd (omega (arith, zero-mul p))
  shown_at pos (f ∷ fs) xs h i l =
      let k : length xs ≡ length fs * p + p = h ∙ suc-mul (length fs) p in
      let t : length (take p xs) ≡ p = simp length-take (omega arith) in
      let r : length (drop p xs) ≡ length fs * p = simp length-drop (omega arith) in
      let A = page_cells f (take p xs) in
      let rest = shown_by p fs (drop p xs) in
      let la : length A ≡ p = cells_long f (take p xs) t in
      ⊎_elim
      (λ (lt : i < p).
      get_or_append_left A rest lost i (omega arith)
      ∙ (page_at f (take p xs) i (omega arith) ∙ rw (div-eq_of_lt lt, get_or-take p xs i 0 lt)))
      (λ (ge : p ≤ i).
      let d : i / p ≡ suc ((i - p) / p) = div-eq-sub-div pos ge ∙ add-one ((i - p) / p) in
      let back : get_or (drop p xs) (i - p) 0 ≡ get_or xs i 0 = get_or-drop p xs (i - p) 0 ∙ ap (λ n. get_or xs n 0) (omega arith) in
      get_or-append_right A rest p i lost la ge
      ∙ (shown_at pos fs (drop p xs) r (i - p) (omega (arith, suc-mul (length fs) p)) ∙ rw (d, back)))
      (cases_lt i p)

  -- behind the last page that is used all is 0xFF
  blank_behind : (fs : List Bool) (xs : List ℕ) → length xs ≡ length fs * p → (i : ℕ) → mark_of p fs xs ≤ i → i < length fs * p
      → get_or (shown_by p fs xs) i lost ≡ byte 255
  unfolding shown_by pages_used mark_of
  blank_behind [] xs h i low l = absurd (omega (arith, zero-mul p))
  blank_behind (f ∷ fs) xs h i low l =
      let k : length xs ≡ length fs * p + p = h ∙ suc-mul (length fs) p in
      let P = take p xs in
      let t : length P ≡ p = simp length-take (omega arith) in
      let r : length (drop p xs) ≡ length fs * p = simp length-drop (omega arith) in
      let A = page_cells f P in
      let rest = shown_by p fs (drop p xs) in
      let n = extent not (pages_used p fs (drop p xs)) in
      let la : length A ≡ p = page_long f P ∙ t in
      ⊎_elim
      (λ (lt : i < p).
      let z = bump_none (not (page_used f P)) n (none_used (bump (not (page_used f P)) n) p i low lt) in
      let y = empty_page f P z.0 in
      get_or_append_left A rest lost i (omega arith)
      ∙ (page_at f P i (omega arith) ∙ rw (y.0, unused P i (omega (arith, y.1)) (omega arith))))
      (λ (ge : p ≤ i).
      get_or-append_right A rest p i lost la ge
      ∙ blank_behind fs (drop p xs) r (i - p) (used_behind (not (page_used f P)) n p i low ge) (omega (arith, suc-mul (length fs) p)))
      (cases_lt i p)

  mark_in : (fs : List Bool) (xs : List ℕ) → length xs ≡ length fs * p → mark_of p fs xs ≤ length fs * p
  unfolding mark_of
  mark_in fs xs full = mul-le-mul_right p (omega (arith, extent_le not (pages_used p fs xs), used_long fs xs full))

  nand_block : 0 < p → (fs : List Bool) (xs : List ℕ) → length fs ≡ 8 → length xs ≡ size_of p → SaneBlock (size_of p) p (shown_by p fs xs) (mark_of p fs xs)
  nand_block pos fs xs eight size =
      let n : length fs * p ≡ size_of p = ap (λ k. k * p) eight in
      let full : length xs ≡ length fs * p = size ∙ sym n in
      let at = λ (i : ℕ) (h : i < size_of p). shown_at pos fs xs full i (omega arith) in
      record {
        long = shown_long fs xs full ∙ n;
        whole = λ i j h k e q.
            at j k ∙ same (get_or fs (j / p) true) (get_or xs i 0) (get_or xs j 0)
            (ap (λ k. cond (get_or fs k true) lost (byte (get_or xs i 0))) (sym e) ∙ (sym (at i h) ∙ q));
        mark_within = omega (arith, mark_in fs xs full);
        blank_behind = λ i low h. blank_behind fs xs full i low (omega arith);
      }
    where
      same : (f : Bool) (x y : ℕ) → cond f lost (byte x) ≡ lost → cond f lost (byte y) ≡ lost
      same true x y e = refl
      same false x y e = absurd (not_lost x e)

-- ─── the chip ───

-- a block that is there has its bytes and its flags
module _ (p : ℕ) (mem : List ℕ) (fs : List Bool) (b : ℕ) (there : b < blocks_of p mem fs) where
  pub bytes_there : b * size_of p + size_of p ≤ length mem
  bytes_there = parts_fit (length mem) b (size_of p) (omega arith)

  pub flags_there : b * 8 + 8 ≤ length fs
  flags_there = parts_fit (length fs) b 8 (omega arith)

pub nand_sane : (p size : ℕ) → 0 < p → size ≡ size_of p → size ≤ 4224 → (mem : List ℕ) (fs : List Bool) (s : Supply) → Sane (nand p mem fs s)
unfolding nand
nand_sane p size pos is few mem fs s =
    chip_sane (λ x. shown_by p x.0 x.1) (λ x. mark_of p x.0 x.1) (blocks_of p mem fs) (size_of p) p (block_of p mem fs) s pos (mul-mod_left 8 p) (omega arith) (omega arith)
    (λ b h. nand_block p pos (part_of 8 fs b) (part_of (size_of p) mem b) (part_full 8 fs b (flags_there p mem fs b h)) (part_full (size_of p) mem b (bytes_there p mem fs b h)))
