-- Items as the code compares them. Assumes nothing.
--
-- view_counted   how many bytes of an item count when it is compared, by what it is
use Rattle.std.specs.Prelude.{ℕ, length}
use Rattle.nodes.specs.Views.{View, zero_word, marker_of, padding_of, unknown_of, entry_of, content_of}

abbrev pub view_counted : View → ℕ
view_counted zero_word = 4
view_counted (marker_of n) = n
view_counted (padding_of n) = 12
view_counted (unknown_of k n) = n
view_counted (entry_of bs x) = length bs
view_counted (content_of bs x) = length bs
