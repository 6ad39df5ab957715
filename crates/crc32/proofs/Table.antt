-- A rule of a table, proved at all of its entries by one test that antt computes, one entry after the other.
use Rattle.std.proofs.Common.{◌≡◌, ℕ, zero, suc, ◌+◌, ◌<◌, Bool, true, false, cond, T, List, [], ◌∷◌, length, get_or, sym, ◌∙◌, subst, le_of_suc-le-suc, not-suc-le-zero, add-zero, add-suc, suc-add, zero-add, arith, eqb→eq}
use Rattle.crc32.specs.Sum.{rounds}
use Rattle.crc32.specs.Table.{every, right, HasRounds}

first : (a b : Bool) → T (cond a b false) → T a
first true b t = tt
first false b t = t

second : (a b : Bool) → T (cond a b false) → T b
second true b t = t
second false b t = absurd t

from : (f : ℕ → ℕ → Bool) (xs : List ℕ) (i : ℕ) → T (every f i xs) → (k : ℕ) → k < length xs → T (f (i + k) (get_or xs k 0))
from f [] i t k h = absurd (not-suc-le-zero h)
from f (x ∷ xs) i t zero h = subst (λ (m : ℕ). T (f m x)) (sym (add-zero i)) (first (f i x) (every f (suc i) xs) t)
from f (x ∷ xs) i t (suc k) h =
    subst (λ (m : ℕ). T (f m (get_or xs k 0))) (suc-add i k ∙ sym (add-suc i k))
    (from f xs (suc i) (second (f i x) (every f (suc i) xs) t) k (le_of_suc-le-suc h))

pub at_entry : (xs : List ℕ) → HasRounds xs → (k : ℕ) → k < 256 → get_or xs k 0 ≡ rounds 8 k
unfolding HasRounds
at_entry xs t k h =
    let l : k < length xs = omega (arith, t.0) in
    eqb→eq (get_or xs k 0) (rounds 8 k) (subst (λ (m : ℕ). T (right m (get_or xs k 0))) (zero-add k) (from right xs 0 t.1 k l))
