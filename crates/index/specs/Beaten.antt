-- Contents that newer ones cover. Assumes nothing.
--
-- beaten_until   where the bytes of the content end that a look-up found, if it is newer than a version; up to what a u32 holds
use Rattle.std.specs.Prelude.{ℕ, ◌+◌, ◌-◌, ◌^◌, min, cond, Some, None, Option, nat_le}
use Rattle.index.specs.declared.record.ContentRecord.{ContentRecord}

abbrev pub beaten_until : ℕ → Option ContentRecord → Option ℕ
beaten_until v None = None
beaten_until v (Some c) = cond (nat_le c.version v) None (Some (min (c.offset + c.dsize) (2 ^ 32 - 1)))
