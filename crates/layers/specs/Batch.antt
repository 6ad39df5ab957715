-- The small decisions of a write buffer, on numbers. Assumes nothing.
--
-- up           the first place from x on at which a batch of g begins
-- suits        whether a write buffer can lie on a flash with these pages and batches
-- turn         what a program at the place o of the block b asks of a buffer in a state: each program is decided by these two.
--              It is where the held batch begins, if that is to be passed down first, or that another block has bytes held
-- filling      the state of a buffer whose batch at s of the block b is held
-- begun        the state of a buffer whose batch at s of the block b is used so far: nothing but 0xFF counts as empty
-- begins       where the held batch of the block b begins, if it has one
-- without      the state without what is held of the block b
-- left         the state that an erase of a block with an answer leaves: another block's batch stays held, if the power lasts
-- kept         the array of held bytes in a state: an empty buffer has nothing left of them
use Rattle.std.specs.Prelude.{ℕ, ◌+◌, ◌-◌, ◌*◌, ◌/◌, ◌%◌, Bool, false, cond, List, replicate, Some, None, Ok, Err, Option, Result, ◌==◌, nat_le, nat_lt}
use Rattle.flash.specs.declared.place.Place.{Place}
use Rattle.flash.specs.declared.refusal.Refusal.{Refusal}
use Rattle.flash.specs.declared.refusal.Refusal.TheVariants.{OtherHeld}
use Rattle.flash.specs.Rules.{Answer}
use Rattle.layers.specs.declared.buffer.State.{State}
use Rattle.layers.specs.declared.buffer.State.TheVariants.{Empty, Filling}

unfoldable pub up : ℕ → ℕ → ℕ
up g x = (x + (g - 1)) / g * g

abbrev pub suits : ℕ → ℕ → Bool
suits page batch = cond (page == batch) (cond (batch % 4 == 0) (cond (nat_le batch 512) (nat_lt 0 batch) false) false) false

abbrev pub turn : State → ℕ → ℕ → ℕ → Result (Option Place) Refusal
turn Empty b o g = Ok None
turn (Filling start) b o g = cond (b == start.block) (Ok (cond (nat_le (start.offset + g) o) (Some start) None)) (Err OtherHeld)

abbrev pub filling : ℕ → ℕ → State
filling b s = Filling (record { block = b; offset = s })

abbrev pub begun : ℕ → ℕ → ℕ → State
begun used b s = cond (used == 0) Empty (filling b s)

abbrev pub begins : State → ℕ → Option ℕ
begins Empty b = None
begins (Filling start) b = cond (start.block == b) (Some start.offset) None

abbrev pub without : State → ℕ → State
without Empty b = Empty
without (Filling start) b = cond (start.block == b) Empty (Filling start)

abbrev pub left : Answer → State → ℕ → State
left (Ok x) st b = without st b
left (Err e) st b = Empty

abbrev pub kept : State → List ℕ → List ℕ
kept Empty held = replicate 512 255
kept (Filling start) held = held
