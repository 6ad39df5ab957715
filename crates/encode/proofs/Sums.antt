-- The sum of bytes is a number of four bytes, and numbers of four bytes are read again as they were.
use Rattle.std.proofs.Common.{ap, ◌∙◌, ◌≡◌, ℕ, zero, suc, ◌+◌, ◌*◌, ◌/◌, ◌%◌, ◌^◌, ◌<◌, eqb, List, [], ◌∷◌, ◌++◌, arith}
use lib.Bits.{bit_xor, xor_lt}
use Rattle.std.proofs.lemmas.Bool.{cond_both}
use Rattle.crc32.specs.Sum.{sum, sum_from, fed, rounds, round}
use Rattle.nodes.specs.Fields.{bytes32}
use Rattle.encode.specs.Encode.{Bytes}

round_fits : (c : ℕ) → c < 2 ^ 32 → round c < 2 ^ 32
round_fits c h =
    let l : c / 2 < 2 ^ 32 = omega arith in
    let p : 0xEDB88320 < 2 ^ 32 = omega arith in
    cond_both (eqb (c % 2) 1) (bit_xor (c / 2) 0xEDB88320) (c / 2) (λ n. n < 2 ^ 32) (λ _. xor_lt 32 (c / 2) 0xEDB88320 l p) (λ _. l)

rounds_fits : (k c : ℕ) → c < 2 ^ 32 → rounds k c < 2 ^ 32
unfolding rounds
rounds_fits zero c h = h
rounds_fits (suc k) c h = rounds_fits k (round c) (round_fits c h)

from_fits : (c : ℕ) (bs : List ℕ) → c < 2 ^ 32 → Bytes bs → sum_from c bs < 2 ^ 32
unfolding sum_from fed
from_fits c [] h b = h
from_fits c (x ∷ bs) h b =
    let l : x < 2 ^ 32 = omega (arith, b.0) in
    from_fits (rounds 8 (bit_xor c x)) bs (rounds_fits 8 (bit_xor c x) (xor_lt 32 c x h l)) b.1

pub sum_fits : (bs : List ℕ) → Bytes bs → sum bs < 2 ^ 32
unfolding sum
sum_fits bs b = from_fits 0 bs (omega arith) b

pub digits : (n : ℕ) → n < 2 ^ 32 → n % 256 + n / 256 % 256 * 256 + n / 65536 % 256 * 65536 + n / 16777216 % 256 * 16777216 ≡ n
digits n h = omega arith

pub bytes_append : (a b : List ℕ) → Bytes a → Bytes b → Bytes (a ++ b)
bytes_append [] b p q = q
bytes_append (x ∷ a) b p q = (p.0, bytes_append a b p.1 q)

pub bytes32_are : (n : ℕ) → Bytes (bytes32 n)
bytes32_are n = (omega arith, (omega arith, (omega arith, (omega arith, tt))))

-- two bytes in the low half of a word, and one
pub low_bytes : (a b : ℕ) → a < 256 → b < 256 → bytes32 (a + 256 * b) ≡ a ∷ b ∷ 0 ∷ 0 ∷ []
low_bytes a b h l =
    let first : (a + 256 * b) % 256 ≡ a = omega arith in
    let second : (a + 256 * b) / 256 % 256 ≡ b = omega arith in
    let third : (a + 256 * b) / 65536 % 256 ≡ 0 = omega arith in
    let fourth : (a + 256 * b) / 16777216 % 256 ≡ 0 = omega arith in
    cc

pub low_byte : (a : ℕ) → a < 256 → bytes32 a ≡ a ∷ 0 ∷ 0 ∷ 0 ∷ []
low_byte a h = ap bytes32 (omega arith) ∙ low_bytes a 0 h (omega arith)
