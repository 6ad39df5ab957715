-- Numbers that look random. Assumes nothing.
--
-- following    the number after one, by a linear congruence of 32 bits
use Rattle.std.specs.Prelude.{ℕ, ◌+◌, ◌*◌, ◌%◌, ◌^◌}

abbrev pub following : ℕ → ℕ
following n = (n * 1664525 + 1013904223) % 2 ^ 32
