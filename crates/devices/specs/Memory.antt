-- A flash's blocks in one piece of memory, and what steps and a power failure make of bytes. Assumes nothing.
--
-- part_of    the b-th part of a row that is cut into parts of size elements, as the bytes of the block b
-- ored       bytes, each with the fault's bits set
-- cut_run    what reaches a chip of a run of pages, one of which fails
-- laid       the memory after a run of pages from the byte a on, done or failed
-- wiped      the memory after an erase of the block b, of size bytes, done or failed
-- leaves     whether bytes at a place leave the block, or the chip
-- Within     where bytes of a block lie in the memory
use Rattle.std.specs.Prelude.{◌≡◌, ℕ, ◌+◌, ◌*◌, ◌≤◌, Bool, true, cond, List, ◌++◌, map, take, drop, replicate, Ok, Err, bit_or, nat_lt}
use Rattle.flash.specs.Cells.{over}
use Rattle.devices.specs.declared.supply.Cut.{Cut}
use Rattle.devices.specs.Steps.{Done}

abbrev pub part_of : {X : Type 0} → ℕ → List X → ℕ → List X
part_of size mem b = take size (drop (b * size) mem)

abbrev pub ored : ℕ → List ℕ → List ℕ
ored j = map (λ x. bit_or x j)

-- the pages before the one that fails, and that one with the fault; pages have page bytes
unfoldable pub cut_run : ℕ → Cut → List ℕ → List ℕ
cut_run page c run = take (c.after * page) run ++ ored c.fault (take page (drop (c.after * page) run))

abbrev pub laid : ℕ → List ℕ → ℕ → List ℕ → Done → List ℕ
laid page mem a run (Ok u) = over mem a run
laid page mem a run (Err c) = over mem a (cut_run page c run)

abbrev pub wiped : ℕ → List ℕ → ℕ → Done → List ℕ
wiped size mem b (Ok u) = over mem (b * size) (replicate size 255)
wiped size mem b (Err c) = over mem (b * size) (ored c.fault (part_of size mem b))

-- n bytes at the offset o of the block b, on a chip of so many blocks of size bytes
abbrev pub leaves : ℕ → ℕ → ℕ → ℕ → ℕ → Bool
leaves blocks size b o n = cond (nat_lt b blocks) (nat_lt size (o + n)) true

-- n bytes at the offset o of the block b begin at a byte of the memory, and lie in the block and in len bytes; blocks have
-- size bytes
abbrev pub Within : ℕ → ℕ → ℕ → ℕ → ℕ → ℕ → Type 0
Within size len b o n from = (from ≡ b * size + o) × (o + n ≤ size) × (b * size + size ≤ len)
