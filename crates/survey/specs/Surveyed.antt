-- What reading a whole block answers. Assumes nothing.
--
-- WordRead    a word was read, or it cannot be read and the buffer is as it was
-- Noted       the i-th word of a block was read into its place, or it cannot be read; its flag says which
-- Fits        bytes and flags, one for each 4 bytes, fit a block that is there, of a flash with pages of 4 and with power
-- Surveyed    a block was read into bytes and flags: refused for want of power or of such a block, with nothing changed; or
--             done, and then bytes and flags together are what the block shows
use Rattle.std.specs.Prelude.{◌≡◌, ℕ, ◌*◌, Bool, true, false, List, length, take, drop, Some, None, Ok, Err, slice_set}
use Rattle.flash.specs.declared.refusal.Refusal.{Refusal}
use Rattle.flash.specs.Cells.{cells, over}
use Rattle.flash.specs.Meaning.{Meaning}
use Rattle.flash.specs.Refused.{place_refusal, read_refusal, part}
use Rattle.flash.specs.Rules.{Answer}
use Rattle.nodes.specs.Seen.{seen}

pub data WordRead (m : Meaning) (b o : ℕ) (old : List ℕ) (r : Bool) (new : List ℕ) : Type 0 where
  can : r ≡ true → cells new ≡ part (m.shown b) o (length old) → WordRead m b o old r new
  cannot : r ≡ false → (e : Refusal) → read_refusal m b o (length old) ≡ Some e → new ≡ old → WordRead m b o old r new

pub record Noted (m : Meaning) (b i : ℕ) (old : List ℕ) (fs : List Bool) (new : List ℕ) (gs : List Bool) : Type 0 where
  pub word : List ℕ
  pub flag : Bool
  pub long : length word ≡ 4
  pub bytes : new ≡ over old (i * 4) word
  pub flags : gs ≡ slice_set fs i flag
  pub read : WordRead m b (i * 4) (take 4 (drop (i * 4) old)) flag word

pub record Fits (m : Meaning) (b : ℕ) (bytes : List ℕ) (flags : List Bool) : Type 0 where
  pub there : place_refusal m b 0 (length bytes) ≡ None
  pub words : m.page ≡ 4
  pub whole : length bytes ≡ m.size
  pub flagged : length flags * 4 ≡ m.size

pub data Surveyed (m : Meaning) (b : ℕ) (old : List ℕ) (fs : List Bool) (r : Answer) (new : List ℕ) (gs : List Bool) : Type 0 where
  refused : (e : Refusal) → place_refusal m b 0 (length old) ≡ Some e → r ≡ Err e → new ≡ old → gs ≡ fs → Surveyed m b old fs r new gs
  done : place_refusal m b 0 (length old) ≡ None → r ≡ Ok tt → (Fits m b old fs → seen gs new ≡ m.shown b) → Surveyed m b old fs r new gs
