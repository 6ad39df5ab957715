use Rattle.std.proofs.Common.{◌≡◌, ℕ, ◌*◌, ◌<◌}
use Rattle.flash.specs.Meaning.{shown_at}
use Rattle.survey.specs.Surveyed.{Fits}
use Rattle.survey.proofs.Words.{cell_at}
use Rattle.survey.proofs.read_words.Given as goal

-- the words so far are as the block shows them
abbrev pub invariant-loop-i : goal.invariant-loop-i
invariant-loop-i g l =
    Fits (g.F.Flash.meaning l.flash) l.block l.initial.bytes l.initial.readable
    → (j : ℕ) → j < l.i * 4 → cell_at l.readable l.bytes j ≡ shown_at (g.F.Flash.meaning l.flash) l.block j
