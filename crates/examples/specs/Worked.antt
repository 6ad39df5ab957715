-- Worked examples of the rules, computed from their definitions. Assumes nothing.
--
-- Worked   all of them; a crate that brings rules of its own adds its examples here
use Rattle.std.specs.Prelude.{◌≡◌, [], ◌∷◌}
use Rattle.crc32.specs.Sum.{sum}
use Rattle.kinds.specs.Kinds.{kind_value}
use Rattle.kinds.specs.declared.Kind.TheVariants.{Marker}
use Rattle.encode.specs.Encode.{head, zero_word, padding, filling, rest_of_batch}

pub record Worked : Type 0 where
  -- sums
  pub sum_of_nothing : sum [] ≡ 0
  pub sum_of_00 : sum (0x00 ∷ []) ≡ 0
  pub sum_of_01 : sum (0x01 ∷ []) ≡ 0x77073096
  pub sum_of_80 : sum (0x80 ∷ []) ≡ 0xEDB88320
  -- the marker is the header of its kind, twelve bytes long
  pub marker_bytes : head (kind_value Marker) 12 ≡ 0x85 ∷ 0x19 ∷ 0x03 ∷ 0x20 ∷ 0x0C ∷ 0x00 ∷ 0x00 ∷ 0x00 ∷ 0xB1 ∷ 0xB0 ∷ 0x1E ∷ 0xE4 ∷ []
  -- what a sync lays where a batch has 512 bytes
  pub end_500 : filling (rest_of_batch 512 500) ≡ padding 12 ∷ []
  pub end_504 : filling (rest_of_batch 512 504) ≡ zero_word ∷ zero_word ∷ []
  pub end_512 : filling (rest_of_batch 512 512) ≡ []
