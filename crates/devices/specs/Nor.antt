-- A NOR chip in memory: blocks of 4,096 bytes, a page and a batch of four bytes. Assumes nothing.
--
-- nor                  what a NOR chip means, by its memory and its supply of power
-- nor_program          a program, whole: what it answers, and the memory and the steps left after it
-- nor_erase, nor_arm   likewise
use Rattle.std.specs.Prelude.{ℕ, ◌+◌, ◌*◌, ◌/◌, List, length}
use Rattle.flash.specs.Cells.{cells}
use Rattle.flash.specs.Extent.{used}
use Rattle.flash.specs.Meaning.{Meaning}
use Rattle.flash.specs.Refused.{program_refusal, erase_refusal}
use Rattle.devices.specs.declared.supply.Supply.{Supply}
use Rattle.devices.specs.Steps.{spent, arming}
use Rattle.devices.specs.Memory.{part_of, laid, wiped}
use Rattle.devices.specs.Bank.{blocks_in, chip, Outcome, unless, after, rearmed}

-- the bytes of a block; shut, so that no proof counts to it
unfoldable pub SIZE : ℕ
SIZE = 4096

-- the end of the last page that is not all 0xFF
unfoldable pub mark_of : List ℕ → ℕ
mark_of xs = (used xs + 3) / 4 * 4

unfoldable pub nor : List ℕ → Supply → Meaning
nor mem s = chip cells mark_of (blocks_in SIZE (length mem)) SIZE 4 (part_of SIZE mem) s

unfoldable pub nor_program : List ℕ → Supply → ℕ → ℕ → List ℕ → Outcome (List ℕ)
nor_program mem s b o run =
    unless (program_refusal (nor mem s) b o (length run)) mem s (after (laid 4 mem (b * SIZE + o) run) (spent s (length run / 4)))

unfoldable pub nor_erase : List ℕ → Supply → ℕ → Outcome (List ℕ)
nor_erase mem s b = unless (erase_refusal (nor mem s) b) mem s (after (wiped SIZE mem b) (spent s 1))

abbrev pub nor_arm : List ℕ → Supply → ℕ → ℕ → Outcome (List ℕ)
nor_arm mem s n j = rearmed mem s (arming s n j)
