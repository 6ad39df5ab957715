-- What the calls of a write buffer do, by what it means. Assumes nothing.
--
-- means        the meaning of a write buffer, from that of the flash below
-- Accepts      a program of a run is not refused
-- IsLaid       a run that was not refused went, with this answer
-- IsNear       no batch is held, or that of a place
use Rattle.std.specs.Prelude.{◌≡◌, length, take, None}
use Rattle.flash.specs.declared.interface.Flash.{Ghosts}
use Rattle.flash.specs.declared.place.Place.{Place}
use Rattle.flash.specs.Meaning.{Meaning}
use Rattle.flash.specs.Refused.{program_refusal}
use Rattle.flash.specs.Rules.{Answer, Goes}
use Rattle.layers.specs.declared.buffer.WriteBuffer.{WriteBuffer}
use Rattle.layers.specs.declared.run.Run.{Run}
use Rattle.layers.specs.Buffered.{buffered, Near}

module _ {F : Type 0} {g : Ghosts F} where
  abbrev pub means : WriteBuffer F g → Meaning
  means w = buffered (g.meaning w.below) w.state (take w.batch w.held)

  abbrev pub Accepts : WriteBuffer F g → Run → Type 0
  Accepts w run = program_refusal (means w) run.at.block run.at.offset (length run.bytes.now) ≡ None

  abbrev pub IsLaid : WriteBuffer F g → Run → Answer → WriteBuffer F g → Type 0
  IsLaid w run r v = Goes (means w) run.at.block run.at.offset run.bytes.now r (means v)

  abbrev pub IsNear : WriteBuffer F g → Place → Type 0
  IsNear w at = Near w.state w.batch at.block at.offset
