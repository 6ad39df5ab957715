-- Which calls of a flash are refused from the start, and as what: the first cause that applies, in the order
-- no power (20), outside (11), not whole pages (12), below the mark (13), another block holds bytes (14), unreadable (28).
-- Assumes nothing.
--
-- place_refusal     of a call at a place, for n bytes from there
-- program_refusal   of a program of n bytes
-- erase_refusal, read_refusal, arm_refusal   of the other calls
-- other_held        whether another block than b has bytes held
use Rattle.std.specs.Prelude.{ℕ, zero, suc, ◌+◌, ◌%◌, Bool, true, false, cond, not, List, [], ◌∷◌, ◌++◌, take, drop, Some, None, Option, ◌==◌, nat_lt}
use Rattle.flash.specs.declared.refusal.Refusal.{Refusal}
use Rattle.flash.specs.declared.refusal.Refusal.TheVariants.{NoPower, Outside, NotPages, BelowMark, OtherHeld, Unreadable}
use Rattle.flash.specs.Cells.{Cell, byte, lost}
use Rattle.flash.specs.Meaning.{Meaning, Power, steady, armed, off}

abbrev pub is_off : Power → Bool
is_off steady = false
is_off armed = false
is_off off = true

-- whether n bytes at the place o of the block b leave the flash or the block
abbrev pub outside : Meaning → ℕ → ℕ → ℕ → Bool
outside m b o n = cond (nat_lt b m.blocks) (nat_lt m.size (o + n)) true

-- whether two cells, or two rows of cells, are the same
abbrev pub same_cell : Cell → Cell → Bool
same_cell (byte x) (byte y) = x == y
same_cell (byte x) lost = false
same_cell lost (byte y) = false
same_cell lost lost = true

abbrev pub same_cells : List Cell → List Cell → Bool
same_cells [] [] = true
same_cells [] (y ∷ ys) = false
same_cells (x ∷ xs) [] = false
same_cells (x ∷ xs) (y ∷ ys) = cond (same_cell x y) (same_cells xs ys) false

-- whether bytes are held in the block b
abbrev pub holds : Meaning → ℕ → Bool
holds m b = not (same_cells (m.shown b) (m.settled b))

-- whether P is true of a number below n other than b
abbrev pub of_another : (ℕ → Bool) → ℕ → ℕ → Bool
of_another P b zero = false
of_another P b (suc n) = cond (cond (n == b) false (P n)) true (of_another P b n)

unfoldable pub other_held : Meaning → ℕ → Bool
other_held m b = of_another (holds m) b m.blocks

-- the first of the causes that applies
abbrev pub first : List (Bool × Refusal) → Option Refusal
first [] = None
first (x ∷ xs) = cond x.0 (Some x.1) (first xs)

abbrev pub place_causes : Meaning → ℕ → ℕ → ℕ → List (Bool × Refusal)
place_causes m b o n = (is_off m.power, NoPower) ∷ (outside m b o n, Outside) ∷ []

unfoldable pub place_refusal : Meaning → ℕ → ℕ → ℕ → Option Refusal
place_refusal m b o n = first (place_causes m b o n)

-- whether a place or a number of bytes is not of whole pages
abbrev pub cuts_pages : Meaning → ℕ → ℕ → Bool
cuts_pages m o n = cond (o % m.page == 0) (not (n % m.page == 0)) true

abbrev pub program_causes : Meaning → ℕ → ℕ → ℕ → List (Bool × Refusal)
program_causes m b o n =
    place_causes m b o n ++ ((cuts_pages m o n, NotPages) ∷ (nat_lt o (m.mark b), BelowMark) ∷ (other_held m b, OtherHeld) ∷ [])

unfoldable pub program_refusal : Meaning → ℕ → ℕ → ℕ → Option Refusal
program_refusal m b o n = first (program_causes m b o n)

abbrev pub erase_refusal : Meaning → ℕ → Option Refusal
erase_refusal m b = place_refusal m b 0 0

-- whether each cell can be read
abbrev pub readable : List Cell → Bool
readable [] = true
readable (byte b ∷ xs) = readable xs
readable (lost ∷ xs) = false

abbrev pub part : List Cell → ℕ → ℕ → List Cell
part xs o n = take n (drop o xs)

unfoldable pub read_refusal : Meaning → ℕ → ℕ → ℕ → Option Refusal
read_refusal m b o n = first (place_causes m b o n ++ ((not (readable (part (m.shown b) o n)), Unreadable) ∷ []))

unfoldable pub arm_refusal : Meaning → Option Refusal
arm_refusal m = first ((is_off m.power, NoPower) ∷ [])
