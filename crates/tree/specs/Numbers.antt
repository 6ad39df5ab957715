-- Versions and numbers in use. Assumes nothing.
--
-- highest_version   the highest version that stands of a number, in either kind: entries of that directory, contents of that
--                   number; 0 if there is none
-- highest_number    the highest number that stands in any field, and at least that of the root
use Rattle.std.specs.Prelude.{ℕ, max, cond, List, fold, ◌==◌}
use Rattle.nodes.specs.Records.{Entry}
use Rattle.tree.specs.Nodes.{Span}

-- the greater, if it is of the number k
abbrev pub greater_of : ℕ → ℕ → ℕ → ℕ → ℕ
greater_of k n number version = cond (number == k) (max n version) n

module _ {E C : Type 0} (fields : E → Entry) (span : C → Span) where
  abbrev pub highest_version : List E → List C → ℕ → ℕ
  highest_version es cs k =
      fold (λ n c. greater_of k n (span c).ino (span c).version)
      (fold (λ n e. greater_of k n (fields e).pino (fields e).version) 0 es) cs

  abbrev pub highest_number : List E → List C → ℕ
  highest_number es cs =
      fold (λ n c. max n (span c).ino) (fold (λ n e. max n (max (fields e).pino (fields e).ino)) 1 es) cs
