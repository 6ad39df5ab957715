-- How far rows reach, also once another was laid over one behind what it held.
use Rattle.std.proofs.Common.{◌≡◌, ℕ, zero, suc, ◌+◌, ◌-◌, ◌<◌, ◌≤◌, Bool, true, false, cond, eqb, List, [], ◌∷◌, ◌++◌, length, get_or, take, drop, replicate, sym, refl, ap, ◌∙◌, ⊎_elim, arith, take-append-drop, length-take, bytes_eq}
use Rattle.std.proofs.lemmas.Bool.Decides.{eqb_tells, nat_tests}
use Rattle.std.proofs.lemmas.Bool.{cases_lt, eqb-true, eq-eqb, true≢false}
use Rattle.std.proofs.lemmas.Slice.Eq.{bytes_eq-Decides}
use Rattle.flash.specs.Cells.{over}
use Rattle.flash.specs.Extent.{bump, extent, used}

bump_le : (e : Bool) (n m : ℕ) → n ≤ m → bump e n ≤ suc m
bump_le true zero m h = omega arith
bump_le false zero m h = omega arith
bump_le e (suc n) m h = omega arith

bump_pos : (e : Bool) (n : ℕ) → 0 < n → bump e n ≡ suc n
bump_pos e zero h = absurd (omega arith)
bump_pos e (suc n) h = refl

pub bump_ge : (e : Bool) (n m : ℕ) → bump e n ≤ suc m → n ≤ m
bump_ge e zero m h = omega arith
bump_ge e (suc n) m h = omega arith

pub bump_none : (e : Bool) (n : ℕ) → bump e n ≡ 0 → (e ≡ true) × (n ≡ 0)
bump_none true zero e = (refl, refl)
bump_none false zero e = absurd (omega (arith, e))
bump_none true (suc n) e = absurd (omega (arith, e))
bump_none false (suc n) e = absurd (omega (arith, e))

module _ {X : Type 0} (empty : X → Bool) where
  pub extent_le : (xs : List X) → extent empty xs ≤ length xs
  extent_le [] = omega arith
  extent_le (x ∷ xs) = bump_le (empty x) (extent empty xs) (length xs) (extent_le xs)

  -- a place behind which all is empty, and before which an element is not
  pub extent_at : (xs : List X) (n : ℕ) (d : X) → n ≤ length xs → ((i : ℕ) → n ≤ i → i < length xs → empty (get_or xs i d) ≡ true)
      → (0 < n → empty (get_or xs (n - 1) d) ≡ false) → n ≡ extent empty xs
  extent_at [] n d h behind last = omega (arith, h)
  extent_at (x ∷ xs) zero d h behind last =
      let more = extent_at xs zero d (omega arith) (λ i _ l. behind (suc i) (omega arith) (omega arith)) (λ l. absurd (omega arith)) in
      rw (← more, behind zero (omega arith) (omega arith))
  extent_at (x ∷ xs) (suc zero) d h behind last =
      let more = extent_at xs zero d (omega arith) (λ i _ l. behind (suc i) (omega arith) (omega arith)) (λ l. absurd (omega arith)) in
      rw (← more, last (omega arith))
  extent_at (x ∷ xs) (suc (suc n)) d h behind last =
      let z : suc (suc n) - 1 ≡ suc n = omega arith in
      let y : suc n - 1 ≡ n = omega arith in
      let e = last (omega arith) in
      let more = extent_at xs (suc n) d (omega arith) (λ i k l. behind (suc i) (omega arith) (omega arith)) (λ l. rw y (rw z at e)) in
      rw (← more)

  -- the element before that place is not empty
  pub extent_last : (xs : List X) (d : X) → 0 < extent empty xs → empty (get_or xs (extent empty xs - 1) d) ≡ false
  extent_last [] d h = absurd (omega (arith, h))
  extent_last (x ∷ xs) d h = go (extent empty xs) refl (extent_last xs d) h
    where
      go : (n : ℕ) → extent empty xs ≡ n → (0 < extent empty xs → empty (get_or xs (extent empty xs - 1) d) ≡ false) → 0 < bump (empty x) n
          → empty (get_or (x ∷ xs) (bump (empty x) n - 1) d) ≡ false
      go zero q more h = at_first (empty x) refl h
        where
          at_first : (t : Bool) → empty x ≡ t → 0 < cond t 0 1 → empty (get_or (x ∷ xs) (cond t 0 1 - 1) d) ≡ false
          at_first true e h = absurd (omega (arith, h))
          at_first false e h = e
      go (suc k) q more h =
          let m = more (omega (arith, q)) in
          let z : extent empty xs - 1 ≡ k = omega (arith, q) in
          let y : suc (suc k) - 1 ≡ suc k = omega arith in
          rw y (rw z at m)

  extent_append : (xs ys : List X) → extent empty (xs ++ ys) ≡ cond (eqb (extent empty ys) 0) (extent empty xs) (length xs + extent empty ys)
  extent_append [] ys = grind (arith, nat_tests)
  extent_append (x ∷ xs) ys =
      ap (bump (empty x)) (extent_append xs ys)
      ∙ ⊎_elim (λ h. rw h.0) (λ h. rw h.0 (bump_pos (empty x) (length xs + extent empty ys) (omega (arith, h.1)) ∙ omega arith)) (eqb_tells (extent empty ys) 0)

  extent_drop : (xs : List X) (i : ℕ) → extent empty xs ≤ i → extent empty (drop i xs) ≡ 0
  extent_drop [] zero h = refl
  extent_drop [] (suc i) h = refl
  extent_drop (x ∷ xs) zero h = omega (arith, h)
  extent_drop (x ∷ xs) (suc i) h = extent_drop xs i (bump_ge (empty x) (extent empty xs) i h)

  -- from there on all is empty
  pub behind_extent : (xs : List X) (i : ℕ) (d : X) → extent empty xs ≤ i → i < length xs → empty (get_or xs i d) ≡ true
  behind_extent [] i d h l = absurd (omega arith)
  behind_extent (x ∷ xs) zero d h l = (bump_none (empty x) (extent empty xs) (omega (arith, h))).0
  behind_extent (x ∷ xs) (suc i) d h l = behind_extent xs i d (bump_ge (empty x) (extent empty xs) i h) (omega arith)

  pub extent_empty : (n : ℕ) (x : X) → empty x ≡ true → extent empty (replicate n x) ≡ 0
  extent_empty zero x e = refl
  extent_empty (suc n) x e = rw (extent_empty n x e, e)

  -- a run at o, where nothing but empty elements was left
  module _ (xs run : List X) (o : ℕ) (fits : o + length run ≤ length xs) (low : extent empty xs ≤ o) where
    front_extent : extent empty (take o xs) ≡ extent empty xs
    front_extent =
        let e : extent empty (drop o xs) ≡ 0 = extent_drop xs o low in
        sym (ap (extent empty) (sym (take-append-drop o xs)) ∙ (extent_append (take o xs) (drop o xs) ∙ rw e))

    run_extent : extent empty (over xs o run) ≡ cond (eqb (extent empty run) 0) (extent empty xs) (o + extent empty run)
    run_extent =
        let e = extent_drop xs (o + length run) (omega arith) in
        let tail : extent empty (run ++ drop (o + length run) xs) ≡ extent empty run = extent_append run (drop (o + length run) xs) ∙ rw e in
        let long : length (take o xs) ≡ o = simp length-take (omega arith) in
        extent_append (take o xs) (run ++ drop (o + length run) xs) ∙ rw (tail, front_extent, long)

    pub extent_rises : extent empty xs ≤ extent empty (over xs o run)
    extent_rises = rw run_extent (⊎_elim (λ h. rw h.0 (omega arith)) (λ h. rw h.0 (omega arith)) (eqb_tells (extent empty run) 0))

    pub extent_within_run : extent empty (over xs o run) ≤ o + length run
    extent_within_run =
        rw run_extent (⊎_elim (λ h. rw h.0 (omega arith)) (λ h. rw h.0 (omega (arith, extent_le run))) (eqb_tells (extent empty run) 0))

-- bytes behind how far they reach are 0xFF
pub unused : (xs : List ℕ) (i : ℕ) → used xs ≤ i → i < length xs → get_or xs i 0 ≡ 255
unused xs i h l = eqb-true (get_or xs i 0) 255 (behind_extent (λ x. eqb x 255) xs i 0 h l)

-- the byte before them is not
pub used_last : (xs : List ℕ) → 0 < used xs → get_or xs (used xs - 1) 0 ≡ 255 → ⊥
used_last xs h e =
    let n = extent_last (λ x. eqb x 255) xs 0 h in
    true≢false (sym (eq-eqb _ _ e) ∙ n)

-- bytes that are all 0xFF from a place on reach no further
pub used_below : (xs : List ℕ) (k : ℕ) → ((i : ℕ) → k ≤ i → i < length xs → get_or xs i 0 ≡ 255) → used xs ≤ k
used_below xs k f =
    ⊎_elim
    (λ (l : k < used xs). absurd (used_last xs (omega arith) (f (used xs - 1) (omega arith) (omega (arith, extent_le (λ x. eqb x 255) xs)))))
    (λ l. l)
    (cases_lt k (used xs))

pub used_above : (xs : List ℕ) (i : ℕ) → i < length xs → (get_or xs i 0 ≡ 255 → ⊥) → i < used xs
used_above xs i l ne = ⊎_elim (λ k. k) (λ (k : used xs ≤ i). absurd (ne (unused xs i k l))) (cases_lt i (used xs))

-- bytes reach no further for 0xFF behind them
pub used_blank : (xs : List ℕ) (n : ℕ) → used (xs ++ replicate n 255) ≡ used xs
used_blank xs n = extent_append (λ x. eqb x 255) xs (replicate n 255) ∙ rw (extent_empty (λ x. eqb x 255) n 255 refl)

-- nor is anything lost of how far they reach where a row of 0xFF at their end is left out
pub used_cut : (xs ys zs : List ℕ) (n : ℕ) → zs ≡ replicate n 255 → bytes_eq (drop (length xs - length zs) xs) zs ≡ true → ys ≡ take (length xs - length zs) xs → used ys ≡ used xs
used_cut xs ys zs n blank same front =
    let back : drop (length xs - length zs) xs ≡ replicate n 255 = (bytes_eq-Decides _ zs).0 same ∙ blank in
    let whole : xs ≡ ys ++ replicate n 255 = sym (take-append-drop (length xs - length zs) xs) ∙ rw (front, back) in
    sym (ap used whole ∙ used_blank ys n)
