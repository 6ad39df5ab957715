-- Looking the same is an equivalence of trees.
use Rattle.std.proofs.Common.{ℕ, sym, ◌∙◌}
use Rattle.tree.specs.Tree.{Tree, SameFile}
use Rattle.tree.specs.Laws.{LookingTheSame}
use Rattle.tree.proofs.Drop.{names_too}

file_back : (t u : Tree) (k : ℕ) → SameFile t u k → SameFile u t k
file_back t u k f = record { long = sym f.long; byte = λ i l. sym (f.byte i (rw f.long l)) }

file_onward : (t u v : Tree) (k : ℕ) → SameFile t u k → SameFile u v k → SameFile t v k
file_onward t u v k f g = record { long = f.long ∙ g.long; byte = λ i l. f.byte i l ∙ g.byte i (rw f.long at l) }

pub looking : LookingTheSame
looking = record {
  back = λ t u s. record {
    there = λ d n. sym (s.there d n);
    file = λ k N. file_back t u k (s.file k (names_too u t k (λ d n. sym (s.there d n)) N));
  };
  onward = λ t u v s r. record {
    there = λ d n. s.there d n ∙ r.there d n;
    file = λ k N. file_onward t u v k (s.file k N) (r.file k (names_too t u k s.there N));
  };
}
