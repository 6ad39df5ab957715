-- What a walk leaves to be judged: which items a mount refuses, and as what. Assumes nothing.
--
-- name_fits       whether bytes are a name: 1 to 32 of them, none 0 or '/', and not "." or ".."
-- offence         why a mount refuses an item, if it does: a kind that has to be known and is not, or compression that
--                 is not known (Kind, 6); a field that breaks a rule (Field, 7)
-- offence_of      the same, by what the item is
-- Judged          that both agree at every item that stands anywhere
use Rattle.std.specs.Prelude.{◌≡◌, ℕ, ◌+◌, Bool, true, false, cond, not, List, [], ◌∷◌, length, Some, None, Option, ◌==◌, nat_le}
use Rattle.flash.specs.declared.refusal.Refusal.{Refusal}
use Rattle.flash.specs.declared.refusal.Refusal.TheVariants.{Kind, Field}
use Rattle.flash.specs.Cells.{Cell}
use Rattle.nodes.specs.Fields.{all}
use Rattle.nodes.specs.Items.{Item, kind, totlen, is_word, stands}
use Rattle.nodes.specs.Records.{Entry, Content, read_entry, read_content}
use Rattle.nodes.specs.Views.{View, zero_word, marker_of, padding_of, unknown_of, entry_of, content_of, view}

-- whether two tests agree
abbrev pub same : Bool → Bool → Bool
same true b = b
same false b = not b

abbrev pub either : Bool → Bool → Bool
either true b = true
either false b = b

-- no byte is 0 or '/'
abbrev pub plain : List ℕ → Bool
plain [] = true
plain (b ∷ bs) = cond (either (b == 0) (b == 0x2F)) false (plain bs)

abbrev pub dots : List ℕ → Bool
dots [] = false
dots (a ∷ []) = a == 0x2E
dots (a ∷ b ∷ []) = cond (a == 0x2E) (b == 0x2E) false
dots (a ∷ b ∷ c ∷ bs) = false

abbrev pub name_fits : List ℕ → Bool
name_fits bs = all (nat_le 1 (length bs) ∷ nat_le (length bs) 32 ∷ plain bs ∷ not (dots bs) ∷ [])

-- what the fields of an entry of n bytes have to be
abbrev pub entry_fields : ℕ → Entry → List Bool
entry_fields n x =
    (n == 40 + length x.name)
    ∷ nat_le 1 x.pino ∷ nat_le 1 x.version ∷ name_fits x.name
    ∷ either (x.dtype == 8) (either (x.dtype == 4) (x.dtype == 0))
    ∷ same (x.dtype == 0) (x.ino == 0) ∷ []

-- what the fields of a content of n bytes have to be: of a hole there is no data, of a plain one dsize bytes, at most 512
abbrev pub content_fields : ℕ → Content → List Bool
content_fields n x =
    (n == 68 + length x.payload)
    ∷ nat_le 1 x.ino ∷ nat_le 1 x.version
    ∷ either (x.mode == 33188) (x.mode == 16877)
    ∷ (length x.payload == cond (x.compr == 1) 0 x.dsize)
    ∷ either (x.compr == 1) (nat_le x.dsize 512)
    ∷ nat_le x.isize 65536
    ∷ either (x.dsize == 0) (nat_le (x.offset + x.dsize) x.isize) ∷ []

unfoldable pub entry_offence : ℕ → Entry → Option Refusal
entry_offence n x = cond (all (entry_fields n x)) None (Some Field)

unfoldable pub content_offence : ℕ → Content → Option Refusal
content_offence n x = cond (nat_le x.compr 1) (cond (all (content_fields n x)) None (Some Field)) (Some Kind)

unfoldable pub offence : Item → Option Refusal
offence it =
    cond (is_word it) None
    (cond (kind it == 0xE001) (entry_offence (totlen it) (read_entry it))
    (cond (kind it == 0xE002) (content_offence (totlen it) (read_content it))
    (cond (nat_le 0x8000 (kind it)) (Some Kind) None)))

abbrev pub offence_of : View → Option Refusal
offence_of zero_word = None
offence_of (marker_of n) = None
offence_of (padding_of n) = None
offence_of (unknown_of k n) = cond (nat_le 0x8000 k) (Some Kind) None
offence_of (entry_of bs x) = entry_offence (length bs) x
offence_of (content_of bs x) = content_offence (length bs) x

abbrev pub Judged : View → Option Refusal → Type 0
Judged v r = (cs : List Cell) (it : Item) → stands cs ≡ Some it → v ≡ view it → r ≡ offence it
