-- The one rule of superseding: among records of one key the higher version counts, wherever and in whatever order they
-- stand. Assumes nothing.
--
-- In, Within   x stands in a list; all of a list stands in another
-- newest       of the records that are picked, the one of the highest version; of twins the first that is met
-- scan         the same, record by record, with the best so far
-- unbeaten     whether no record that is picked has a version above v
use Rattle.std.specs.Prelude.{◌≡◌, ℕ, Bool, true, cond, List, [], ◌∷◌, Some, None, fold, Option, nat_le}

pub data In {A : Type 0} (x : A) : List A → Type 0 where
  first : {y : A} {ys : List A} → x ≡ y → In x (y ∷ ys)
  later : {y : A} {ys : List A} → In x ys → In x (y ∷ ys)

abbrev pub Within : {A : Type 0} → List A → List A → Type 0
Within {A} xs ys = (x : A) → In x xs → In x ys

module _ {R : Type 0} (version : R → ℕ) where
  -- r, or what is newer than it
  abbrev pub over : R → Option R → R
  over r None = r
  over r (Some s) = cond (nat_le (version s) (version r)) r s

  unfoldable pub newest : (R → Bool) → List R → Option R
  newest picked [] = None
  newest picked (r ∷ rs) = cond (picked r) (Some (over r (newest picked rs))) (newest picked rs)

  -- the best so far, or r where that supersedes it
  abbrev pub better : Option R → R → R
  better None r = r
  better (Some b) r = cond (nat_le (version r) (version b)) b r

  abbrev pub better_of : (R → Bool) → Option R → R → Option R
  better_of picked best r = cond (picked r) (Some (better best r)) best

  abbrev pub scan : (R → Bool) → Option R → List R → Option R
  scan picked = fold (better_of picked)

  abbrev pub at_most : ℕ → Option R → Bool
  at_most v None = true
  at_most v (Some r) = nat_le (version r) v

  abbrev pub unbeaten : (R → Bool) → List R → ℕ → Bool
  unbeaten picked rs v = at_most v (newest picked rs)
