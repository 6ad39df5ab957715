use Rattle.survey.proofs.Words.{word_tried}
use Rattle.survey.proofs.read_word.Goals as goal

pub returns : goal.returns
returns g c = rw c.is_ok.ensures.value (word_tried _ _ _ _ _ _ c.read.ensures)
