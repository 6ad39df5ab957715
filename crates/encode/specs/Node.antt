-- What entries and contents have in common. Assumes nothing.
--
-- node_item                    a header of a kind and a length, words, two sums, and the bytes that the node holds
-- entry_words, content_words   the words of an entry and of a content that hold n bytes
-- entry_sums, content_sums     the sum of what stands before the sums, and that of what stands behind, in their order
use Rattle.std.specs.Prelude.{ℕ, ◌+◌, ◌*◌, List, [], ◌∷◌, ◌++◌}
use Rattle.crc32.specs.Sum.{sum}
use Rattle.nodes.specs.Items.{Item}
use Rattle.nodes.specs.Records.{Entry, Content}
use Rattle.encode.specs.Encode.{head, spread}

abbrev pub node_item : ℕ → ℕ → List ℕ → (ℕ → ℕ → List ℕ) → List ℕ → Item
node_item k n words sums held =
    (head k n ++ spread words) ++ (spread (sums (sum (head k n ++ spread words)) (sum held)) ++ held)

abbrev pub entry_words : Entry → ℕ → List ℕ
entry_words x n = x.pino ∷ x.version ∷ x.ino ∷ 0 ∷ (n + 256 * x.dtype) ∷ []

abbrev pub entry_sums : ℕ → ℕ → List ℕ
entry_sums before behind = before ∷ behind ∷ []

abbrev pub content_words : Content → ℕ → List ℕ
content_words x n = x.ino ∷ x.version ∷ x.mode ∷ 0 ∷ x.isize ∷ 0 ∷ 0 ∷ 0 ∷ x.offset ∷ n ∷ x.dsize ∷ x.compr ∷ []

abbrev pub content_sums : ℕ → ℕ → List ℕ
content_sums before behind = behind ∷ before ∷ []
