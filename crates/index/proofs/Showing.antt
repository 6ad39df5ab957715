-- Which bytes a content gives, and which newer ones give instead.
use Rattle.std.proofs.Common.{◌≡◌, ℕ, zero, suc, ◌+◌, ◌-◌, ◌^◌, ◌<◌, ◌≤◌, min, Bool, true, false, cond, ◌&&◌, ◌||◌, leb, ◌⊎◌, List, Some, None, Option, refl, inl, inr, arith}
use native.Mathlib.Decide.{dec_le}
use Rattle.std.proofs.lemmas.Bool.Decides.{nat_tests, leb_tells}
use Rattle.tree.specs.Newest.{newest, at_most, unbeaten}
use Rattle.tree.specs.Nodes.{Span, of_file, covers}
use Rattle.tree.specs.Lookups.{any_below, content_version, giver, shows}
use Rattle.tree.proofs.Newest.{Top, top, none, some_none, none_some, true_false}
use Rattle.tree.proofs.Nodes.{both}
use Rattle.index.specs.declared.record.ContentRecord.{ContentRecord}
use Rattle.index.specs.Beaten.{beaten_until}
use Rattle.index.specs.Shown.{span_shown}

pub any_below_none : (f : ℕ → Bool) (n : ℕ) → ((i : ℕ) → i < n → f i ≡ false) → any_below f n ≡ false
any_below_none f zero h = refl
any_below_none f (suc n) h = rw (h n (omega arith)) (any_below_none f n (λ i l. h i (omega arith)))

or_true : (a : Bool) → (a || true) ≡ true
or_true true = refl
or_true false = refl

pub any_below_some : (f : ℕ → Bool) (n i : ℕ) → i < n → f i ≡ true → any_below f n ≡ true
any_below_some f zero i l e = absurd (omega arith)
any_below_some f (suc n) i l e = go (dec_le n i) (λ k. any_below_some f n i k e)
  where
    go : Dec (n ≤ i) → (i < n → any_below f n ≡ true) → (f n || any_below f n) ≡ true
    go (yes h) more = let q : i ≡ n = omega arith in rw (rw q at e)
    go (no h) more = rw (more (omega arith)) (or_true (f n))

pub covers_is : (i : ℕ) (s : Span) → covers i s ≡ true → (s.offset ≤ i) × (i < s.offset + s.dsize)
unfolding covers
covers_is i s q = (grind (arith, nat_tests), grind (arith, nat_tests))

pub is_covers : (i : ℕ) (s : Span) → s.offset ≤ i → i < s.offset + s.dsize → covers i s ≡ true
unfolding covers
is_covers i s a b = grind (arith, nat_tests)

leb_false : (a b : ℕ) → b < a → leb a b ≡ false
leb_false a b l = grind (arith, nat_tests)

and_false : (a b : Bool) → b ≡ false → (a && b) ≡ false
and_false true b e = e
and_false false b e = refl

module _ {C : Type 0} (span : C → Span) (cs : List C) where
  beats : (picked : C → Bool) (v : ℕ) (o : Option C) → newest (content_version span) picked cs ≡ o
      → ((c : C) → o ≡ Some c → v < (span c).version) → (o ≡ None → ⊥) → unbeaten (content_version span) picked cs v ≡ false
  beats picked v None e some some_one = absurd (some_one refl)
  beats picked v (Some t) e some some_one = rw e (leb_false (span t).version v (some t refl))

  -- from where a newer content gives a byte up to its end, the older one gives none
  pub passed_over : (s : Span) (at : ℕ) (d : C) → giver span cs s.ino at ≡ Some d → s.version < (span d).version
      → (j : ℕ) → at ≤ j → j < (span d).offset + (span d).dsize → shows span cs s j ≡ false
  passed_over s at d e l j a b =
      and_false (covers j s) _ (beats here s.version (newest (content_version span) here cs) refl above there)
    where
      here : C → Bool
      here c = of_file s.ino (span c) && covers j (span c)

      T : Top (content_version span) (λ c. of_file s.ino (span c) && covers at (span c)) cs d
      T = top (content_version span) _ cs d e

      parts : (of_file s.ino (span d) ≡ true) × (covers at (span d) ≡ true)
      parts = both _ _ T.fits

      picked : here d ≡ true
      picked = rw parts.0 (is_covers j (span d) (let o = covers_is at (span d) parts.1 in omega arith) b)

      above : (c : C) → newest (content_version span) here cs ≡ Some c → s.version < (span c).version
      above c q = let h : (span d).version ≤ (span c).version = (top (content_version span) here cs c q).above d T.member picked in omega arith

      there : newest (content_version span) here cs ≡ None → ⊥
      there q = none (content_version span) here cs q d T.member picked

  -- where no newer content gives the byte, the older one does
  pub shows_here : (s : Span) (at : ℕ) → s.offset ≤ at → at < s.offset + s.dsize
      → at_most (content_version span) s.version (giver span cs s.ino at) ≡ true → shows span cs s at ≡ true
  shows_here s at a b e = rw (is_covers at s a b) e

  -- what gives a byte ends behind it
  pub giver_ends : (k at : ℕ) (d : C) → giver span cs k at ≡ Some d → at < (span d).offset + (span d).dsize
  giver_ends k at d e = (covers_is at (span d) (both _ _ (top (content_version span) _ cs d e).fits).1).1

-- where a newer content was found
pub record Beaten (v : ℕ) (o : Option ContentRecord) (next : ℕ) : Type 0 where
  pub by : ContentRecord
  pub found : o ≡ Some by
  pub newer : v < by.version
  pub end : next ≡ min (by.offset + by.dsize) (2 ^ 32 - 1)

pub is_beaten : (v : ℕ) (o : Option ContentRecord) (next : ℕ) → Some next ≡ beaten_until v o → Beaten v o next
is_beaten v None next q = absurd (some_none q)
is_beaten v (Some d) next q = go (leb d.version v) (leb_tells d.version v) q
  where
    go : (b : Bool) → ((b ≡ true) × (d.version ≤ v)) ⊎ ((b ≡ false) × (v < d.version))
        → Some next ≡ cond b None (Some (min (d.offset + d.dsize) (2 ^ 32 - 1))) → Beaten v (Some d) next
    go true o x = absurd (some_none x)
    go false (inl h) x = absurd (true_false h.0 refl)
    go false (inr h) x = record { by = d; found = refl; newer = h.1; end = cc }

pub not_beaten : (v : ℕ) (o : Option ContentRecord) → None ≡ beaten_until v o → at_most (content_version span_shown) v o ≡ true
not_beaten v None q = refl
not_beaten v (Some d) q = go (leb d.version v) q
  where
    go : (b : Bool) → None ≡ cond b None (Some (min (d.offset + d.dsize) (2 ^ 32 - 1))) → b ≡ true
    go true x = refl
    go false x = absurd (none_some x)

module _ {C : Type 0} (span : C → Span) (cs : List C) where
  -- a byte outside its range a content does not give
  pub not_covered : (s : Span) (j : ℕ) → (s.offset ≤ j → j < s.offset + s.dsize → shows span cs s j ≡ false) → shows span cs s j ≡ false
  not_covered s j h = go (covers j s) refl
    where
      go : (b : Bool) → covers j s ≡ b → shows span cs s j ≡ false
      go true e = let o = covers_is j s e in h o.0 o.1
      go false e = rw e
