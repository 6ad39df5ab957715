-- How far a row reaches. Assumes nothing.
--
-- extent     how far a row reaches before nothing but empty elements is left, where empty says which are
-- used       how far bytes reach before nothing but 0xFF is left
use Rattle.std.specs.Prelude.{ℕ, zero, suc, Bool, cond, List, [], ◌∷◌, nat_eq}

abbrev pub bump : Bool → ℕ → ℕ
bump e zero = cond e 0 1
bump e (suc k) = suc (suc k)

abbrev pub extent : {X : Type 0} → (X → Bool) → List X → ℕ
extent empty [] = 0
extent empty (x ∷ xs) = bump (empty x) (extent empty xs)

abbrev pub used : List ℕ → ℕ
used = extent (λ x. nat_eq x 255)
