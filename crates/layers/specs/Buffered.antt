-- What a write buffer over a flash means, from what the flash below means and its own state. Assumes nothing.
--
-- buffered         the flash below, with the held bytes laid over it; it is made of
-- shows            what each block shows: what is held is shown and not settled
-- raised, marks    the marks: those below, rounded up to a batch; that of the block with the held batch is where its bytes end
-- Fills            a batch may be held at a place: it begins where a batch begins, at or above the mark below, has a byte
--                  that is not 0xFF, and its last word is 0xFF
-- Holding          what a state says of the held bytes; Holding-prop: there is one proof of it at most, as a ghost field needs
-- Bearing          a flash that a write buffer can lie on
-- Sound            how a write buffer and the flash below fit, which the type of a write buffer says
-- Near             no batch is held, or that of a place
use Rattle.std.specs.Prelude.{◌≡◌, ℕ, ◌+◌, ◌*◌, ◌/◌, ◌%◌, ◌<◌, ◌≤◌, List, length, take}
use Rattle.std.proofs.Props.{props}
use Rattle.flash.specs.Cells.{Cell, cells, over}
use Rattle.flash.specs.Extent.{used}
use Rattle.flash.specs.Meaning.{Meaning, Sane, with_at}
use Rattle.layers.specs.declared.buffer.State.{State}
use Rattle.layers.specs.declared.buffer.State.TheVariants.{Empty, Filling}
use Rattle.layers.specs.Batch.{up}

abbrev pub shows : Meaning → State → List ℕ → ℕ → List Cell
shows m Empty held = m.shown
shows m (Filling start) held = with_at m.shown start.block (over (m.shown start.block) start.offset (cells held))

abbrev pub raised : Meaning → ℕ → ℕ
raised m b = up m.batch (m.mark b)

abbrev pub marks : Meaning → State → List ℕ → ℕ → ℕ
marks m Empty held = raised m
marks m (Filling start) held = with_at (raised m) start.block (start.offset + used held)

unfoldable pub buffered : Meaning → State → List ℕ → Meaning
buffered m st held = record {
  blocks = m.blocks;
  size = m.size;
  page = 4;
  batch = m.batch;
  shown = shows m st held;
  settled = m.settled;
  mark = marks m st held;
  power = m.power;
}

pub record Fills (m : Meaning) (b s : ℕ) (held : List ℕ) : Type 0 where
  pub there : b < m.blocks
  pub starts : s / m.batch * m.batch ≡ s
  pub within : s + m.batch ≤ m.size
  pub above : m.mark b ≤ s
  pub some : 0 < used held
  pub short : used held + 4 ≤ m.batch

abbrev pub Holding : Meaning → State → List ℕ → Type 0
Holding m Empty held = used held ≡ 0
Holding m (Filling start) held = Fills m start.block start.offset held

pub Holding-prop : (m : Meaning) (st : State) (held : List ℕ) → IsProp (Holding m st held)
Holding-prop m Empty held = hlevel props
Holding-prop m (Filling start) held = hlevel props

pub record Bearing (m : Meaning) : Type 0 where
  pub sane : Sane m
  pub whole : m.page ≡ m.batch
  pub words : m.batch % 4 ≡ 0
  pub small : m.batch ≤ 512

pub record Sound (m : Meaning) (batch : ℕ) (st : State) (held : List ℕ) : Type 0 where
  pub bears : Bearing m
  pub same : m.batch ≡ batch
  pub small : batch ≤ 512
  pub full : length held ≡ 512
  pub holding : Holding m st (take batch held)

abbrev pub Near : State → ℕ → ℕ → ℕ → Type 0
Near Empty g b o = Unit {0}
Near (Filling start) g b o = (start.block ≡ b) × (start.offset ≡ o / g * g)
