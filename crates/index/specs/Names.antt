-- The names of directories, among the records of an index. Assumes nothing.
--
-- standing      the record, unless it is a removal
-- below         the order of names: at the first difference the smaller byte is smaller, and a beginning is smaller
-- first_met     whether a record is the one that a look-up of its name finds: of each name there is one such record
-- lists         whether a record is the one of a name that counts in the directory d
-- how_many      how many names a directory has, up to what a usize holds
-- follows       whether a record is of a name that counts in d and is above a given one
-- next_above    of these the one with the smallest name
use Rattle.std.specs.Prelude.{ℕ, ◌-◌, ◌^◌, min, Bool, true, false, cond, not, ◌&&◌, List, [], ◌∷◌, Some, None, fold, count_by, Option, ◌==◌, nat_lt}
use Rattle.flash.specs.declared.place.Place.{Place}
use Rattle.tree.specs.Lookups.{title, counts}
use Rattle.index.specs.declared.record.EntryRecord.{EntryRecord}
use Rattle.index.specs.Shown.{name_shown, entry_shown}

abbrev pub standing : Option EntryRecord → Option EntryRecord
standing None = None
standing (Some e) = cond (e.ino == 0) None (Some e)

abbrev pub below : List ℕ → List ℕ → Bool
below [] [] = false
below [] (y ∷ ys) = true
below (x ∷ xs) [] = false
below (x ∷ xs) (y ∷ ys) = cond (x == y) (below xs ys) (nat_lt x y)

abbrev pub same_place : Place → Place → Bool
same_place p q = p.block == q.block && p.offset == q.offset

abbrev pub stands_at : Place → Option EntryRecord → Bool
stands_at p None = false
stands_at p (Some e) = same_place e.place p

unfoldable pub first_met : List EntryRecord → EntryRecord → Bool
first_met es e = stands_at e.place (title entry_shown es e.pino (name_shown e.name))

abbrev pub lists : List EntryRecord → ℕ → EntryRecord → Bool
lists es d e = e.pino == d && (not (e.ino == 0) && first_met es e)

abbrev pub how_many : List EntryRecord → ℕ → ℕ
how_many es d = min (count_by (lists es d) es) (2 ^ 64 - 1)

abbrev pub follows : List EntryRecord → ℕ → List ℕ → EntryRecord → Bool
follows es d n e = e.pino == d && (below n (name_shown e.name) && counts entry_shown es (entry_shown e))

-- the one with the smaller name; the first, where the names are equal
abbrev pub outdoes : EntryRecord → Option EntryRecord → Bool
outdoes e None = true
outdoes e (Some b) = below (name_shown e.name) (name_shown b.name)

abbrev pub lesser : Option EntryRecord → EntryRecord → EntryRecord
lesser None e = e
lesser (Some b) e = cond (outdoes e (Some b)) e b

abbrev pub next_above : List EntryRecord → ℕ → List ℕ → Option EntryRecord
next_above es d n = fold (λ best e. cond (follows es d n e) (Some (lesser best e)) best) None es
