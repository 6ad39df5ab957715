-- What the benches print of an answer. Assumes nothing.
--
-- answer_words    done, or the number and the words of the refusal
-- mark_words      where the next program may begin, or why that is refused
use Rattle.std.specs.Prelude.{ℕ, List, ◌++◌, Result, Ok, Err, ⊤, codes}
use Rattle.std.specs.Fmt.{decimal}
use Rattle.flash.specs.declared.refusal.Refusal.{Refusal}
use Rattle.flash.specs.Numbers.{number_of}
use Rattle.flash.specs.Words.{words_of}

abbrev pub answer_words : Result ⊤ Refusal → List ℕ
answer_words (Ok _) = codes "done"
answer_words (Err refusal) = codes "refused as " ++ decimal (number_of refusal) ++ codes ", " ++ words_of refusal

abbrev pub mark_words : Result ℕ Refusal → List ℕ
mark_words (Ok offset) = codes "offset " ++ decimal offset
mark_words (Err refusal) = answer_words (Err refusal)
