-- What holds of losses: of rows of cells, and of a flash m that is n after the loss. Assumes nothing.
--
-- RowsLeft          the items met after a fair loss are the first of those that were to stand
-- RowsKept          whatever was lost, the items in a first part of the cells that is as it was to be are kept
-- NothingLost       where all can be read and nothing is lost, the loss is fair
-- FairDecided       where the items of a list are those of the walk of what was to stand, fairness is what the code decides
-- Lost              the items of the list are those of the walk of what was to stand, and after a fair loss the first of them are met
-- ProgramLoss       a program of items fails that were to follow those of the block: after a fair loss the first of all these are
--                   met; if the batches that end where the program begins, or before, were settled, the items in them are kept
-- OpeningLoss       a program of the marker and items fails on a blank block: after a fair loss the first of these are met
-- ProgramSpares     a program that fails loses nothing in other blocks
-- EraseLoss         an erase fails: after a fair loss the first items of each block are met; of a block that is not the one
--                   erased, the items in settled batches are kept
-- RestartLoss       a restart loses what was held: after a fair loss the first items of each block are met, and those in settled
--                   batches are kept
-- Cut               the power was cut, and not in an erase of the block i
-- SyncedKept        then no item of the block is lost if it was synced, be the loss fair or not
-- SyncedProgram     after a fair loss in a program of items that were to follow those of a synced block, all that stood are met, then
--                   the first of those being laid, and nothing else
-- ProgramFinishes   a program that is done settles the batches that end where it ends, or before
-- HeldFinished      on every flash all batches before the one with the held bytes are settled
-- UnheldFinished    where a page is a batch, all is settled, and every place where a program can begin is the end of a batch
-- RestartShows      after a restart a block shows what was settled
use Rattle.std.specs.Prelude.{◌≡◌, ℕ, ◌+◌, ◌%◌, ◌<◌, ◌≤◌, List, ◌∷◌, ◌++◌, length, take, None, ◌≢◌}
use Rattle.flash.specs.Cells.{Cell, cells, blank}
use Rattle.flash.specs.Meaning.{Meaning, Sane, batch_end}
use Rattle.flash.specs.Refused.{program_refusal}
use Rattle.flash.specs.Rules.{Answer, meant, Passed, Failed, Erased, Restarted}
use Rattle.nodes.specs.Items.{Item}
use Rattle.nodes.specs.Walk.{walk, marker}
use Rattle.encode.specs.Laid.{AllWellFormed, run, placed, Ends}
use Rattle.losses.specs.Fair.{Fair, fair, loss_fair}
use Rattle.losses.specs.Left.{Leading, Kept, Finished, Synced}

-- ─── rows of cells ───

abbrev pub RowsLeft : Type 0
RowsLeft = (want got : List Cell) → length want ≡ length got → Fair want (walk want) got → Leading (walk got) (walk want)

abbrev pub RowsKept : Type 0
RowsKept = (want got : List Cell) (k : ℕ) → length want ≡ length got → take k want ≡ take k got → Kept k (walk want) (walk got)

abbrev pub NothingLost : Type 0
NothingLost = (bs : List ℕ) → Fair (cells bs) (walk (cells bs)) (cells bs)

abbrev pub FairDecided : Type 0
FairDecided = (want got : List Cell) (list : List (ℕ × Item)) → length want ≡ length got → walk want ≡ list → fair want list got ≡ loss_fair want got

-- ─── flash ───

abbrev pub Lost : List Cell → List (ℕ × Item) → List Cell → Type 0
Lost want list got = (walk want ≡ list) × (Fair want list got → Leading (walk got) list)

abbrev pub ProgramLoss : Type 0
ProgramLoss =
    (m n : Meaning) (b e : ℕ) (its : List Item) → Sane m → program_refusal m b e (length (run its)) ≡ None → Failed m b e (run its) n
    → 12 ≤ e → Ends (m.shown b) e → AllWellFormed its
    → Lost (meant m b e (run its)) (walk (m.shown b) ++ placed e its) (n.settled b)
    × (Finished m b e → Kept (batch_end m e) (walk (m.shown b) ++ placed e its) (walk (n.settled b)))

abbrev pub OpeningLoss : Type 0
OpeningLoss =
    (m n : Meaning) (b : ℕ) (its : List Item) → Sane m → program_refusal m b 0 (length (run (marker ∷ its))) ≡ None → Failed m b 0 (run (marker ∷ its)) n
    → m.shown b ≡ blank m.size → AllWellFormed its
    → Lost (meant m b 0 (run (marker ∷ its))) (walk (m.shown b) ++ placed 0 (marker ∷ its)) (n.settled b)

abbrev pub ProgramSpares : Type 0
ProgramSpares =
    (m n : Meaning) (b o : ℕ) (bs : List ℕ) → program_refusal m b o (length bs) ≡ None → Failed m b o bs n
    → (i : ℕ) → i < m.blocks → (i ≢ b) → n.settled i ≡ m.shown i

abbrev pub EraseLoss : Type 0
EraseLoss =
    (m n : Meaning) (b : ℕ) (r : Answer) → Sane m → Erased m b r n → (i : ℕ) → i < m.blocks
    → Lost (m.shown i) (walk (m.shown i)) (n.settled i)
    × ((e : ℕ) → (i ≢ b) → Finished m i e → Kept (batch_end m e) (walk (m.shown i)) (walk (n.settled i)))

abbrev pub RestartLoss : Type 0
RestartLoss =
    (m n : Meaning) → Sane m → Restarted m n → (b : ℕ) → b < m.blocks
    → Lost (m.shown b) (walk (m.shown b)) (n.shown b)
    × ((e : ℕ) → Finished m b e → Kept (batch_end m e) (walk (m.shown b)) (walk (n.shown b)))

-- m became n by a failed program of the block i at e or of another block, by an erase of another block, or by a restart
pub data Cut (m n : Meaning) (i e : ℕ) : Type 0 where
  here : (bs : List ℕ) → program_refusal m i e (length bs) ≡ None → Failed m i e bs n → Cut m n i e
  elsewhere : (b o : ℕ) (bs : List ℕ) → (i ≢ b) → program_refusal m b o (length bs) ≡ None → Failed m b o bs n → Cut m n i e
  erase : (b : ℕ) (r : Answer) → (i ≢ b) → Erased m b r n → Cut m n i e
  restart : Restarted m n → Cut m n i e

abbrev pub SyncedKept : Type 0
SyncedKept =
    (m n : Meaning) (b e : ℕ) → Sane m → b < m.blocks → Synced m b e → Cut m n b e → Leading (walk (m.shown b)) (walk (n.settled b))

abbrev pub SyncedProgram : Type 0
SyncedProgram =
    (m n : Meaning) (b e : ℕ) (its : List Item) → Sane m → program_refusal m b e (length (run its)) ≡ None → Failed m b e (run its) n
    → 12 ≤ e → Ends (m.shown b) e → Synced m b e → AllWellFormed its
    → Fair (meant m b e (run its)) (walk (m.shown b) ++ placed e its) (n.settled b)
    → (some : List (ℕ × Item)) × (walk (n.settled b) ≡ walk (m.shown b) ++ some) × Leading some (placed e its)

abbrev pub ProgramFinishes : Type 0
ProgramFinishes =
    (m n : Meaning) (b o : ℕ) (bs : List ℕ) → Sane m → program_refusal m b o (length bs) ≡ None → Passed m b o bs n → Finished n b (o + length bs)

abbrev pub HeldFinished : Type 0
HeldFinished = (m : Meaning) (s : Sane m) (b : ℕ) → b < m.blocks → Finished m b s.held_end

abbrev pub UnheldFinished : Type 0
UnheldFinished =
    (m : Meaning) → Sane m → m.page ≡ m.batch → (b e : ℕ) → b < m.blocks → e % m.page ≡ 0 → (batch_end m e ≡ e) × Finished m b e

abbrev pub RestartShows : Type 0
RestartShows = (m n : Meaning) → Restarted m n → (b : ℕ) → n.shown b ≡ m.settled b
