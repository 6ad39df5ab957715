-- A NAND chip in memory: blocks of eight pages, a page being a batch, of which some cannot be read. Assumes nothing.
--
-- nand            what a NAND chip means, by the bytes of a page, its memory, the flags of its pages (set if a page cannot be
--                 read) and its supply of power
-- nand_program    a program, whole: what it answers, and the memory, the flags and the steps left after it
-- nand_erase, nand_arm   likewise
use Rattle.std.specs.Prelude.{ℕ, ◌+◌, ◌*◌, ◌/◌, min, Bool, List, length}
use Rattle.flash.specs.Meaning.{Meaning}
use Rattle.flash.specs.Refused.{program_refusal, erase_refusal}
use Rattle.devices.specs.declared.supply.Supply.{Supply}
use Rattle.devices.specs.Steps.{spent, arming}
use Rattle.devices.specs.Memory.{part_of, laid, wiped}
use Rattle.devices.specs.Bank.{chip, Outcome, unless, after, rearmed}
use Rattle.devices.specs.Sizes.{size_of}
use Rattle.devices.specs.Pages.{shown_by, mark_of, flags_laid, flags_wiped}

-- as many whole blocks as there are bytes and flags for, but 16 at most
abbrev pub blocks_of : ℕ → List ℕ → List Bool → ℕ
blocks_of page mem fs = min (length mem / size_of page) (min (length fs / 8) 16)

-- the flags and the bytes of a block
abbrev pub block_of : ℕ → List ℕ → List Bool → ℕ → List Bool × List ℕ
block_of page mem fs b = (part_of 8 fs b, part_of (size_of page) mem b)

unfoldable pub nand : ℕ → List ℕ → List Bool → Supply → Meaning
nand page mem fs s =
    chip (λ x. shown_by page x.0 x.1) (λ x. mark_of page x.0 x.1) (blocks_of page mem fs) (size_of page) page (block_of page mem fs) s

unfoldable pub nand_program : ℕ → List ℕ → List Bool → Supply → ℕ → ℕ → List ℕ → Outcome (List ℕ × List Bool)
nand_program page mem fs s b o run =
    unless (program_refusal (nand page mem fs s) b o (length run)) (mem, fs) s
    (after (λ r. (laid page mem (b * size_of page + o) run r, flags_laid fs (b * 8 + o / page) (length run / page) r)) (spent s (length run / page)))

unfoldable pub nand_erase : ℕ → List ℕ → List Bool → Supply → ℕ → Outcome (List ℕ × List Bool)
nand_erase page mem fs s b =
    unless (erase_refusal (nand page mem fs s) b) (mem, fs) s (after (λ r. (wiped (size_of page) mem b r, flags_wiped fs b r)) (spent s 1))

abbrev pub nand_arm : List ℕ → List Bool → Supply → ℕ → ℕ → Outcome (List ℕ × List Bool)
nand_arm mem fs s n j = rearmed (mem, fs) s (arming s n j)
