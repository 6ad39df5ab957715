use Rattle.std.proofs.Common.{◌≡◌, ℕ, List, [], ◌∷◌, fold, refl, ◌∙◌, rules}
use Rattle.std.proofs.lemmas.Iterator.{YieldsList-from_slice}
use Rattle.std.proofs.lemmas.Iterator.Consumers.{fold_from_yields_List}
use Rattle.crc32.specs.Sum.{fed, sum_from, sum}
use Rattle.crc32.proofs.sum_of.Goals as goal

fold_is : (c : ℕ) (bs : List ℕ) → fold fed c bs ≡ sum_from c bs
unfolding sum_from
fold_is c [] = refl
fold_is c (b ∷ bs) = fold_is (fed c b) bs

pub returns : goal.returns
unfolding sum
returns c =
    fold_from_yields_List _ fed 0 _ c.fold.ensures.ran (YieldsList-from_slice c.args.bytes.now cc) (λ s b n q k. search rules) ∙ fold_is 0 c.args.bytes.now
