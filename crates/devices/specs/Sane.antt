-- The meaning of a NOR chip is sane at all times, which is a law of the interface; and what of that holds of every chip.
use Rattle.std.proofs.Common.{◌≡◌, ℕ, zero, suc, ◌+◌, ◌*◌, ◌/◌, ◌%◌, ◌^◌, ◌<◌, ◌≤◌, eqb, List, [], ◌∷◌, length, get_or, sym, refl, ap, ◌∙◌, mul-le-mul_right, suc-mul, div-mul-le_self, arith, length-drop, length-take}
use native.Mathlib.Nat.{mod_self, zero-mod}
use lib.ListN.{length-map}
use Rattle.flash.specs.Cells.{Cell, byte, lost, cells}
use Rattle.flash.specs.Extent.{used}
use Rattle.flash.specs.Meaning.{Sane}
use Rattle.flash.proofs.Extents.{extent_le, unused}
use Rattle.devices.specs.declared.supply.Supply.{Supply}
use Rattle.devices.specs.Memory.{part_of}
use Rattle.devices.specs.Bank.{blocks_in, chip}
use Rattle.devices.specs.Nor.{SIZE, mark_of, nor}

-- what a block of a sane flash shows, of size bytes in pages of p bytes, with the mark k
pub record SaneBlock (size p : ℕ) (cs : List Cell) (k : ℕ) : Type 0 where
  pub long : length cs ≡ size
  pub whole : (i j : ℕ) → i < size → j < size → i / p ≡ j / p → get_or cs i lost ≡ lost → get_or cs j lost ≡ lost
  pub mark_within : k ≤ size
  pub blank_behind : (i : ℕ) → k ≤ i → i < size → get_or cs i lost ≡ byte 255

pub chip_sane : {B : Type 0} (show : B → List Cell) (mark : B → ℕ) (n size p : ℕ) (f : ℕ → B) (s : Supply)
    → 0 < p → size % p ≡ 0 → size < 2 ^ 32 → n < 2 ^ 32 → ((b : ℕ) → b < n → SaneBlock size p (show (f b)) (mark (f b)))
    → Sane (chip show mark n size p f s)
unfolding chip
chip_sane show mark n size p f s some whole fits few each = record {
  some_page = some;
  some_batch = some;
  batch_pages = mod_self p;
  size_batches = whole;
  size_fits = fits;
  blocks_fit = few;
  shown_length = λ b h. (each b h).long;
  settled_length = λ b h. (each b h).long;
  shown_pages = λ b i j h. (each b h).whole i j;
  settled_pages = λ b i j h. (each b h).whole i j;
  mark_within = λ b h. (each b h).mark_within;
  shown_blank = λ b i h. (each b h).blank_behind i;
  settled_blank = λ b i h. (each b h).blank_behind i;
  held_block = 0;
  held_end = 0;
  held_pages = zero-mod p;
  agree = λ b i there h ne. refl;
}

-- ─── the parts of a memory ───

pub part_full : {X : Type 0} (size : ℕ) (mem : List X) (b : ℕ) → b * size + size ≤ length mem → length (part_of size mem b) ≡ size
part_full size mem b h = simp (length-take, length-drop) (omega arith)

-- so many whole parts of k elements are there
pub parts_fit : (n b k : ℕ) → b < n / k → b * k + k ≤ n
parts_fit n b k h = omega (arith, mul-le-mul_right k h, suc-mul b k, div-mul-le_self n k)

-- ─── bytes that can be read ───

pub not_lost : (n : ℕ) → byte n ≡ lost → ⊥
not_lost n e = let z : ◌≡◌ {A = ℕ} 0 1 = cc in omega arith

pub get_or-cells : (xs : List ℕ) (i : ℕ) → i < length xs → get_or (cells xs) i lost ≡ byte (get_or xs i 0)
get_or-cells [] i h = absurd (omega arith)
get_or-cells (x ∷ xs) zero h = refl
get_or-cells (x ∷ xs) (suc i) h = get_or-cells xs i (omega arith)

-- ─── NOR ───

pub used_mark : (xs : List ℕ) → used xs ≤ mark_of xs
unfolding mark_of
used_mark xs = omega arith

pub mark_high : (xs : List ℕ) (e : ℕ) → e % 4 ≡ 0 → used xs ≤ e → mark_of xs ≤ e
unfolding mark_of
mark_high xs e p h = omega arith

SIZE_pages : SIZE % 4 ≡ 0
unfolding SIZE
SIZE_pages = refl

SIZE_small : SIZE < 2 ^ 32
unfolding SIZE
SIZE_small = omega arith

nor_block : (xs : List ℕ) → length xs ≡ SIZE → SaneBlock SIZE 4 (cells xs) (mark_of xs)
nor_block xs full = record {
  long = length-map xs byte ∙ full;
  whole = λ i j h k e l. absurd (not_lost (get_or xs i 0) (sym (get_or-cells xs i (omega (arith, full))) ∙ l));
  mark_within = mark_high xs SIZE SIZE_pages (omega (arith, extent_le (λ x. eqb x 255) xs, full));
  blank_behind = λ i low h.
      let l : i < length xs = omega (arith, full) in
      get_or-cells xs i l ∙ ap byte (unused xs i (omega (arith, used_mark xs)) l);
}

pub nor_sane : (mem : List ℕ) (s : Supply) → Sane (nor mem s)
unfolding nor
nor_sane mem s =
    chip_sane cells mark_of (blocks_in SIZE (length mem)) SIZE 4 (part_of SIZE mem) s (omega arith) SIZE_pages SIZE_small (omega arith)
    (λ b h. nor_block (part_of SIZE mem b) (part_full SIZE mem b (parts_fit (length mem) b SIZE (omega arith))))
