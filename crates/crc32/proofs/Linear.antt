-- Eight rounds go by the low byte: the high bits are only shifted. Assumes nothing.
use Rattle.std.proofs.Common.{◌≡◌, ℕ, zero, suc, ◌*◌, ◌/◌, ◌%◌, ◌^◌, ◌<◌, Bool, true, false, cond, eqb, sym, refl, ap, ◌∙◌, mod-lt, mul-one, arith}
use lib.Bits.{bit_xor, xor_shr, xor_mod, xor_assoc, xor_zero_l, xor_zero_r, xor_shifted, shifted_half, shifted_even}
use Rattle.std.proofs.lemmas.Nat.{div-add-mod'}
use Rattle.crc32.specs.Sum.{round, rounds, fed}

out : (t : Bool) (a b p : ℕ) → cond t (bit_xor (bit_xor a b) p) (bit_xor a b) ≡ bit_xor a (cond t (bit_xor b p) b)
out true a b p = xor_assoc a b p
out false a b p = refl

-- an even number is only halved beside another
even_round : (a b : ℕ) → a % 2 ≡ 0 → round (bit_xor a b) ≡ bit_xor (a / 2) (round b)
even_round a b e =
    let m : bit_xor a b % 2 ≡ b % 2 = xor_mod a b 1 ∙ ap (λ n. bit_xor n (b % 2)) e ∙ xor_zero_l (b % 2) in
    let h : bit_xor a b / 2 ≡ bit_xor (a / 2) (b / 2) = xor_shr a b 1 in
    ap (λ n. cond (eqb n 1) (bit_xor (bit_xor a b / 2) 0xEDB88320) (bit_xor a b / 2)) m
    ∙ ap (λ n. cond (eqb (b % 2) 1) (bit_xor n 0xEDB88320) n) h
    ∙ out (eqb (b % 2) 1) (a / 2) (b / 2) 0xEDB88320

pub beside : (k a b : ℕ) → rounds k (bit_xor (a * 2 ^ k) b) ≡ bit_xor a (rounds k b)
unfolding rounds
beside zero a b = ap (λ n. bit_xor n b) (mul-one a)
beside (suc k) a b =
    ap (rounds k) (even_round (a * 2 ^ suc k) b (shifted_even a k) ∙ ap (λ n. bit_xor n (round b)) (shifted_half a k)) ∙ beside k a (round b)

-- the low byte by its eight rounds, the others shifted
pub low_byte : (x : ℕ) → rounds 8 x ≡ bit_xor (x / 256) (rounds 8 (x % 256))
low_byte x =
    ap (rounds 8) (sym (xor_shifted (x / 256) 8 (x % 256) (mod-lt x (omega arith)) ∙ div-add-mod' x 256)) ∙ beside 8 (x / 256) (x % 256)

-- a byte taken in
pub fed_is : (c b : ℕ) → b < 256 → fed c b ≡ bit_xor (c / 256) (rounds 8 (bit_xor c b % 256))
unfolding fed
fed_is c b h =
    let z : b / 256 ≡ 0 = omega arith in
    low_byte (bit_xor c b) ∙ ap (λ n. bit_xor n (rounds 8 (bit_xor c b % 256))) (xor_shr c b 8 ∙ ap (bit_xor (c / 256)) z ∙ xor_zero_r (c / 256))
