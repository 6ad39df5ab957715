-- Numbers that tell rows of numbers apart. Assumes nothing.
--
-- mixed    a number and one more, of so many values, multiplied by a prime
-- digest   of a list: from 1 on, each of its numbers is taken in
use Rattle.std.specs.Prelude.{ℕ, ◌*◌, ◌%◌, List, bit_xor, fold}

abbrev pub mixed : ℕ → ℕ → ℕ → ℕ → ℕ
mixed size prime all more = bit_xor all more * prime % size

abbrev pub digest : {A : Type 0} → (A → A → A) → (ℕ → A) → List ℕ → A
digest taken number bs = fold (λ all b. taken all (number b)) (number 1) bs
