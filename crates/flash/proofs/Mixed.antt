-- Functions changed at a place again or not at all, rows that begin as one and go on as another.
use Rattle.std.proofs.Common.{◌≡◌, ℕ, ◌+◌, ◌<◌, ◌≤◌, cond, List, [], length, get_or, drop, sym, refl, ◌∙◌, add-zero, arith, length-append, length-drop, length-take, rules}
use Rattle.std.proofs.lemmas.List.{places, same_lists, get_or-drop, take-append-drop}
use Rattle.flash.specs.Cells.{over}
use Rattle.flash.specs.Meaning.{with_at, mixed}
use Rattle.flash.proofs.Over.{by_place}

module _ {X : Type 0} (f : ℕ → X) (b : ℕ) where
  pub again : (x y : X) (i : ℕ) → with_at (with_at f b x) b y i ≡ with_at f b y i
  again x y i = by_place (λ v. cond v y (cond v x (f i)) ≡ cond v y (f i)) i b (λ _. refl) (λ _. refl)

  pub unchanged : (x : X) → x ≡ f b → (i : ℕ) → with_at f b x i ≡ f i
  unchanged x e i = by_place (λ v. cond v x (f i) ≡ f i) i b (λ h. rw h e) (λ _. refl)

-- a run of nothing
pub over_none : {X : Type 0} (xs : List X) (o : ℕ) → over xs o [] ≡ xs
over_none xs o = rw (add-zero o) (take-append-drop o xs)

module _ {X : Type 0} (k : ℕ) (xs ys : List X) (same : length xs ≡ length ys) where
  pub mixed_length : length (mixed k xs ys) ≡ length ys
  mixed_length = simp (length-append, length-take, length-drop) (omega arith)

  pub mixed_below : (i : ℕ) (d : X) → i < k → i < length xs → get_or (mixed k xs ys) i d ≡ get_or xs i d
  mixed_below i d h l = search (rules, places)

  pub mixed_above : (i : ℕ) (d : X) → k ≤ i → k ≤ length xs → get_or (mixed k xs ys) i d ≡ get_or ys i d
  mixed_above i d h l = search (rules, places)

  pub mixed_back : (n : ℕ) → k ≤ n → k ≤ length xs → drop n (mixed k xs ys) ≡ drop n ys
  mixed_back n h l =
      same_lists _ _ (simp (length-append, length-take, length-drop) (omega arith))
      (λ i d p. get_or-drop n (mixed k xs ys) i d ∙ (mixed_above (n + i) d (omega arith) l ∙ sym (get_or-drop n ys i d)))
