-- What is looked up among nodes. The same definitions serve whole nodes and the records that an index keeps of them: `fields`
-- reads an entry's fields off such a record, `span` a content's. Assumes nothing.
--
-- title       the newest entry of a name in a directory
-- last        the newest content of a number
-- giver       the newest content of a number that gives its byte i
-- counts      whether an entry counts: the newest of its name, and no removal
-- named       whether an entry that counts names a number
-- needed_entry, needed_content   whether a node is needed (the subject's own words for it are in Needed.antt)
-- carried     what was looked up, by what it is a record of
use Rattle.std.specs.Prelude.{ℕ, zero, suc, Bool, false, not, ◌&&◌, ◌||◌, List, Some, None, Option, ◌==◌, nat_lt}
use Rattle.std.specs.List.{list_any}
use Rattle.nodes.specs.Records.{Entry}
use Rattle.tree.specs.Newest.{newest, unbeaten}
use Rattle.tree.specs.Nodes.{Span, titled, of_file, covers}

abbrev pub carried : {A B : Type 0} → (A → B) → Option A → Option B
carried f None = None
carried f (Some a) = Some (f a)

-- whether some number below n passes a test
abbrev pub any_below : (ℕ → Bool) → ℕ → Bool
any_below f zero = false
any_below f (suc n) = f n || any_below f n

module _ {E : Type 0} (fields : E → Entry) where
  abbrev pub entry_version : E → ℕ
  entry_version e = (fields e).version

  abbrev pub title : List E → ℕ → List ℕ → Option E
  title es d n = newest entry_version (λ e. titled d n (fields e)) es

  -- whether no entry of its name is newer
  abbrev pub leading : List E → Entry → Bool
  leading es e = unbeaten entry_version (λ f. titled e.pino e.name (fields f)) es e.version

  unfoldable pub counts : List E → Entry → Bool
  counts es e = not (e.ino == 0) && leading es e

  unfoldable pub named : List E → ℕ → Bool
  named es k = list_any (λ e. ((fields e).ino == k) && counts es (fields e)) es

  -- an older entry of the name stands
  abbrev pub outlives : List E → Entry → Bool
  outlives es e = list_any (λ f. titled e.pino e.name (fields f) && nat_lt (fields f).version e.version) es

  unfoldable pub needed_entry : List E → Entry → Bool
  needed_entry es e = leading es e && (not (e.ino == 0) || outlives es e)

module _ {C : Type 0} (span : C → Span) where
  abbrev pub content_version : C → ℕ
  content_version c = (span c).version

  abbrev pub last : List C → ℕ → Option C
  last cs k = newest content_version (λ c. of_file k (span c)) cs

  abbrev pub giver : List C → ℕ → ℕ → Option C
  giver cs k i = newest content_version (λ c. of_file k (span c) && covers i (span c)) cs

  abbrev pub length_of : Option C → ℕ
  length_of None = 0
  length_of (Some c) = (span c).isize

  -- no content that gives the byte i is newer
  abbrev pub shows : List C → Span → ℕ → Bool
  shows cs s i = covers i s && unbeaten content_version (λ c. of_file s.ino (span c) && covers i (span c)) cs s.version

  -- the newest of its number, or it gives a byte below the length
  unfoldable pub seen : List C → Span → Bool
  seen cs s = unbeaten content_version (λ c. of_file s.ino (span c)) cs s.version
      || any_below (shows cs s) (length_of (last cs s.ino))

module _ {E C : Type 0} (fields : E → Entry) (span : C → Span) where
  abbrev pub needed_content : List E → List C → Span → Bool
  needed_content es cs s = named fields es s.ino && seen span cs s
