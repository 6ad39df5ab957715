-- Flashes on which nothing is ever held. Assumes nothing.
--
-- NothingHeld   all that is shown is settled
use Rattle.std.specs.Prelude.{◌≡◌, ℕ, ◌<◌}
use Rattle.flash.specs.Meaning.{Meaning}

abbrev pub NothingHeld : Meaning → Type 0
NothingHeld m = (b : ℕ) → b < m.blocks → m.shown b ≡ m.settled b
