-- Headers as they are made, and what passes behind them, by its kind.
use Rattle.std.proofs.Common.{◌≡◌, ℕ, ◌^◌, ◌<◌, ◌≤◌, max, true, false, List, [], ◌∷◌, ◌++◌, length, get_or, take, sym, refl, ap, ◌∙◌, arith}
use Rattle.std.proofs.lemmas.Bool.Decides.{nat_tests}
use Rattle.std.proofs.lemmas.Bool.{ne_eqb, cond-false}
use Rattle.crc32.specs.Sum.{sum}
use Rattle.nodes.specs.Fields.{le16, le32, bytes32, padded, all}
use Rattle.nodes.specs.Items.{Item, kind, totlen, is_word, reach, header, passes, size, entry, content}
use Rattle.encode.specs.Encode.{Bytes, spread, head8, head, zero_word, padding}
use Rattle.encode.specs.Laid.{WellFormed}
use Rattle.encode.proofs.Sums.{sum_fits, digits, bytes_append, bytes32_are}

head8_bytes : (k n : ℕ) → Bytes (head8 k n)
unfolding head8
head8_bytes k n = (omega arith, (omega arith, (omega arith, (omega arith, bytes32_are n))))

head_bytes : (k n : ℕ) → Bytes (head k n)
unfolding head
head_bytes k n = bytes_append (head8 k n) (bytes32 (sum (head8 k n))) (head8_bytes k n) (bytes32_are (sum (head8 k n)))

pub head_length : (k n : ℕ) → length (head k n) ≡ 12
unfolding head head8
head_length k n = refl

words_bytes : (ws : List ℕ) → Bytes (spread ws)
unfolding spread
words_bytes [] = tt
words_bytes (w ∷ ws) = bytes_append (bytes32 w) (spread ws) (bytes32_are w) (words_bytes ws)

-- what stands before the sums of a node has a sum
pub front_sum : (k n : ℕ) (ws : List ℕ) → sum (head k n ++ spread ws) < 2 ^ 32
front_sum k n ws = sum_fits (head k n ++ spread ws) (bytes_append (head k n) (spread ws) (head_bytes k n) (words_bytes ws))

-- what an item has that begins with a header made for the kind k and the length n
pub record Headed (k n : ℕ) (it : List ℕ) : Type 0 where
  pub word : is_word it ≡ false
  pub kind_is : kind it ≡ k
  pub total : totlen it ≡ n
  pub sized : size it ≡ padded n
  pub good : 12 ≤ n → all (header (size it) it) ≡ true

module _ (k n : ℕ) (it r : List ℕ) (is : it ≡ head k n ++ r) (small : k < 65536) (fits : n < 2 ^ 32) where
  head_word : is_word it ≡ false
  unfolding head head8 le32
  head_word = ap is_word is ∙ ne_eqb _ 0 (λ e. omega arith)

  head_kind : kind it ≡ k
  unfolding head head8 le16
  head_kind = ap kind is ∙ omega arith

  head_totlen : totlen it ≡ n
  unfolding head head8 le32
  head_totlen = ap totlen is ∙ digits n fits

  head_sum : le32 it 8 ≡ sum (take 8 it)
  unfolding head head8 le32
  head_sum = ap (λ l. le32 l 8) is ∙ digits (sum (head8 k n)) (sum_fits (head8 k n) (head8_bytes k n)) ∙ ap (λ l. sum (take 8 l)) (sym is)

  head_magic : (get_or it 0 0 ≡ 0x85) × (get_or it 1 0 ≡ 0x19)
  unfolding head head8
  head_magic = (ap (λ l. get_or l 0 0) is, ap (λ l. get_or l 1 0) is)

  head_size : size it ≡ padded n
  unfolding size
  head_size = cond-false _ _ _ head_word ∙ ap padded head_totlen

  pub headed : Headed k n it
  headed = record {
    word = head_word;
    kind_is = head_kind;
    total = head_totlen;
    sized = head_size;
    good = λ l. grind (arith, nat_tests, head_magic, head_sum, head_totlen, head_size);
  }

-- which tests of an item count, and how many bytes, by its kind
pub entry_passes : (room : ℕ) (it : Item) → is_word it ≡ false → all (header room it) ≡ true → kind it ≡ 0xE001 → all (entry it) ≡ true → passes room it ≡ true
unfolding passes
entry_passes room it w h k e = grind (arith, nat_tests)

pub content_passes : (room : ℕ) (it : Item) → is_word it ≡ false → all (header room it) ≡ true → kind it ≡ 0xE002 → all (content it) ≡ true → passes room it ≡ true
unfolding passes
content_passes room it w h k e = grind (arith, nat_tests)

other_passes : (room : ℕ) (it : Item) → is_word it ≡ false → all (header room it) ≡ true → (kind it ≡ 0xE001 → ⊥) → (kind it ≡ 0xE002 → ⊥) → passes room it ≡ true
unfolding passes
other_passes room it w h k j = grind (arith, nat_tests)

pub entry_reach : (it : Item) → is_word it ≡ false → kind it ≡ 0xE001 → reach it ≡ max 12 (totlen it)
unfolding reach
entry_reach it w k = grind (arith, nat_tests)

pub content_reach : (it : Item) → is_word it ≡ false → kind it ≡ 0xE002 → reach it ≡ max 12 (totlen it)
unfolding reach
content_reach it w k = grind (arith, nat_tests)

other_reach : (it : Item) → is_word it ≡ false → (kind it ≡ 0xE001 → ⊥) → (kind it ≡ 0xE002 → ⊥) → reach it ≡ 12
unfolding reach
other_reach it w k j = grind (arith, nat_tests)

-- padding and zero words
module _ (n : ℕ) (low : 12 ≤ n) (fits : n < 2 ^ 32) where
  bare : padding n ≡ head 0x2004 n ++ []
  unfolding padding head head8
  bare = refl

  padding_length : length (padding n) ≡ 12
  unfolding padding head head8
  padding_length = refl

  padding_headed : Headed 0x2004 n (padding n)
  padding_headed = headed 0x2004 n (padding n) [] bare (omega arith) fits

  pub padding_size : size (padding n) ≡ padded n
  padding_size = padding_headed.sized

  pub padding_well : WellFormed (padding n)
  padding_well =
      let h = padding_headed in (
        other_reach (padding n) h.word (λ z. omega arith) (λ z. omega arith) ∙ sym padding_length,
        other_passes (size (padding n)) (padding n) h.word (h.good low) (λ z. omega arith) (λ z. omega arith),
      )

pub word_well : WellFormed zero_word
unfolding reach passes le32
word_well = (refl, refl)

pub word_size : size zero_word ≡ 4
unfolding size le32
word_size = refl
