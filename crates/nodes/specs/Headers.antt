-- The header of an item, by the bytes that it begins. Assumes nothing.
--
-- Head         what a header says, and the bytes behind it
-- head_of      the header that bytes begin with: twelve of them at least, of which the first two are the magic
-- passing      the same, where the bytes go up to the block's end and the header passes
-- Headed       a place of a block with this header, of which all can be read, and that passes
-- header_shown, head_shown   what the code's header stands for
use Rattle.std.specs.Prelude.{◌≡◌, ℕ, Bool, true, false, cond, List, [], ◌∷◌, length, drop, Some, None, Option, ◌==◌, nat_le, slice_index}
use Rattle.nodes.specs.declared.header.Header as code
use Rattle.nodes.specs.Fields.{le16, le32, all}
use Rattle.nodes.specs.Items.{is_word, header}
use Rattle.nodes.specs.Seen.{reaching}

pub record Head : Type 0 where
  pub kind : ℕ
  pub totlen : ℕ
  pub sum : ℕ
  pub rest : List ℕ

abbrev pub head : List ℕ → Head
head bs = record { kind = le16 bs 2; totlen = le32 bs 4; sum = le32 bs 8; rest = drop 12 bs }

abbrev pub begins : List ℕ → Bool
begins bs = all (nat_le 12 (length bs) ∷ (slice_index bs 0 == 0x85) ∷ (slice_index bs 1 == 0x19) ∷ [])

abbrev pub head_of : List ℕ → Option Head
head_of bs = cond (begins bs) (Some (head bs)) None

abbrev pub passing : List ℕ → Option Head
passing bs = cond (nat_le 12 (length bs)) (cond (all (header (length bs) bs)) (Some (head bs)) None) None

abbrev pub header_shown : code.Header → Head
header_shown h = record { kind = h.kind; totlen = h.totlen; sum = h.sum; rest = h.rest.now }

abbrev pub head_shown : Option code.Header → Option Head
head_shown None = None
head_shown (Some h) = Some (header_shown h)

pub record Headed (fs : List Bool) (at : ℕ) (bs : List ℕ) (h : Head) : Type 0 where
  pub all_read : reaching fs at bs 12 ≡ true
  pub no_word : is_word bs ≡ false
  pub passes : Some h ≡ passing bs
