-- What the chips have in common: blocks in one piece of memory, a page that is a batch, and a supply of power. Assumes
-- nothing.
--
-- blocks_in       how many blocks of size bytes are in so many bytes, but 16 at most
-- HasBlock        a block of size bytes is there, among so many bytes
-- holds_blocks    whether so many bytes are 4 to 16 whole blocks
-- placed          the refusal of a call at a place, for n bytes from there
-- cuts            whether n bytes at an offset are not whole pages, by the bytes of a page
-- pages_refusal   the refusal of n bytes at an offset that are not whole pages
-- mark_refusal    that of an offset below the mark of its block
-- run_refusal     that of a run of n bytes at an offset, the first of these two
-- allowed         what a test for refusals answers
-- chip            what a chip means, by what its blocks hold and its supply
-- Outcome         what a call answers, and the state and the supply after it
-- unless, after, rearmed   the outcome of a call that is refused or not; that takes steps; of an arming
use Rattle.std.specs.Prelude.{ℕ, ◌+◌, ◌*◌, ◌/◌, ◌%◌, ◌<◌, ◌≤◌, min, Bool, true, false, cond, not, List, [], ◌∷◌, Some, None, Ok, Err, Option, Result, ◌==◌, nat_lt, nat_le}
use Rattle.flash.specs.declared.refusal.Refusal.{Refusal}
use Rattle.flash.specs.declared.refusal.Refusal.TheVariants.{NoPower, Outside, NotPages, BelowMark}
use Rattle.flash.specs.Cells.{Cell}
use Rattle.flash.specs.Meaning.{Meaning}
use Rattle.flash.specs.Refused.{is_off, first}
use Rattle.flash.specs.Rules.{Answer}
use Rattle.devices.specs.declared.supply.Cut.{Cut}
use Rattle.devices.specs.declared.supply.Supply.{Supply}
use Rattle.devices.specs.declared.supply.Supply.TheVariants.{Off}
use Rattle.devices.specs.Steps.{Done, power_of}
use Rattle.devices.specs.Memory.{leaves}

abbrev pub blocks_in : ℕ → ℕ → ℕ
blocks_in size len = min (len / size) 16

abbrev pub HasBlock : ℕ → ℕ → ℕ → Type 0
HasBlock size len b = (b < 16) × (b * size + size ≤ len)

abbrev pub holds_blocks : ℕ → ℕ → Bool
holds_blocks size n = cond (n % size == 0) (cond (nat_le (4 * size) n) (nat_le n (16 * size)) false) false

abbrev pub placed : ℕ → ℕ → Supply → ℕ → ℕ → ℕ → Option Refusal
placed size len s b o n = first ((is_off (power_of s), NoPower) ∷ (leaves (blocks_in size len) size b o n, Outside) ∷ [])

abbrev pub cuts : ℕ → ℕ → ℕ → Bool
cuts page o n = cond (o % page == 0) (not (n % page == 0)) true

abbrev pub pages_refusal : ℕ → ℕ → ℕ → Option Refusal
pages_refusal page o n = first ((cuts page o n, NotPages) ∷ [])

abbrev pub mark_refusal : ℕ → ℕ → Option Refusal
mark_refusal mark o = first ((nat_lt o mark, BelowMark) ∷ [])

abbrev pub run_refusal : ℕ → ℕ → ℕ → ℕ → Option Refusal
run_refusal page mark o n = first ((cuts page o n, NotPages) ∷ (nat_lt o mark, BelowMark) ∷ [])

abbrev pub allowed : Option Refusal → Answer
allowed None = Ok tt
allowed (Some e) = Err e

-- so many blocks of size bytes, the block b of which holds f b; of a block it tells what cells it shows and where its mark is
unfoldable pub chip : {B : Type 0} → (B → List Cell) → (B → ℕ) → ℕ → ℕ → ℕ → (ℕ → B) → Supply → Meaning
chip show mark blocks size page f s = record {
  blocks = blocks;
  size = size;
  page = page;
  batch = page;
  shown = λ b. show (f b);
  settled = λ b. show (f b);
  mark = λ b. mark (f b);
  power = power_of s;
}

pub record Outcome (X : Type 0) : Type 0 where
  pub answer : Answer
  pub state : X
  pub supply : Supply

abbrev pub outcome : {X : Type 0} → Answer → X → Supply → Outcome X
outcome r x s = record { answer = r; state = x; supply = s }

-- a call, unless it is refused from the start
abbrev pub unless : {X : Type 0} → Option Refusal → X → Supply → Outcome X → Outcome X
unless (Some e) x s o = outcome (Err e) x s
unless None x s o = o

-- a call that takes steps: f is the state after it, whether it made them or failed
abbrev pub after : {X : Type 0} → (Done → X) → Result Supply Cut → Outcome X
after f (Ok s) = outcome (Ok tt) (f (Ok tt)) s
after f (Err c) = outcome (Err NoPower) (f (Err c)) Off

abbrev pub rearmed : {X : Type 0} → X → Supply → Result Supply Refusal → Outcome X
rearmed x s (Ok s') = outcome (Ok tt) x s'
rearmed x s (Err e) = outcome (Err e) x s
