-- Rows with others laid over them, and functions changed at one place.
use Rattle.std.proofs.Common.{◌≡◌, ℕ, ◌+◌, ◌-◌, ◌<◌, ◌≤◌, Bool, true, false, cond, eqb, List, ◌++◌, length, get_or, take, drop, sym, refl, ◌∙◌, ⊎_elim, append_assoc, arith, length-append, length-drop, length-take, rules}
use Rattle.std.proofs.lemmas.List.{places, same_lists, get_or-drop, take_at}
use Rattle.std.proofs.lemmas.Bool.Decides.{eqb_tells}
use Rattle.std.proofs.lemmas.Bool.{eq-eqb}
use Rattle.flash.specs.Cells.{over}
use Rattle.flash.specs.Meaning.{with_at}

pub by_place : (P : Bool → Type 0) (i b : ℕ) → (i ≡ b → P true) → ((i ≡ b → ⊥) → P false) → P (eqb i b)
by_place P i b f g = ⊎_elim (λ h. rw h.0 (f h.1)) (λ h. rw h.0 (g h.1)) (eqb_tells i b)

module _ {X : Type 0} (f : ℕ → X) (b : ℕ) where
  pub here : (x : X) → with_at f b x b ≡ x
  here x = rw (eq-eqb b b refl)

  pub elsewhere : (x : X) (i : ℕ) → (i ≡ b → ⊥) → with_at f b x i ≡ f i
  elsewhere x i h = by_place (λ v. cond v x (f i) ≡ f i) i b (λ e. absurd (h e)) (λ _. refl)

module _ {X : Type 0} (xs : List X) (o : ℕ) (ys : List X) (fits : o + length ys ≤ length xs) where
  pub over_length : length (over xs o ys) ≡ length xs
  over_length = simp (length-append, length-take, length-drop) (omega arith)

  pub over_below : (i : ℕ) (d : X) → i < o → get_or (over xs o ys) i d ≡ get_or xs i d
  over_below i d h = search (rules, places)

  pub over_in : (i : ℕ) (d : X) → o ≤ i → i < o + length ys → get_or (over xs o ys) i d ≡ get_or ys (i - o) d
  over_in i d h k = search (rules, places)

  pub over_above : (i : ℕ) (d : X) → o + length ys ≤ i → get_or (over xs o ys) i d ≡ get_or xs i d
  over_above i d h = search (rules, places)

  pub over_front : (k : ℕ) → k ≤ o → take k (over xs o ys) ≡ take k xs
  over_front k h = same_lists _ _ (simp (length-append, length-take, length-drop) (omega arith)) (λ i d l. search (rules, places))

  pub over_back : (k : ℕ) → o + length ys ≤ k → drop k (over xs o ys) ≡ drop k xs
  over_back k h =
      same_lists _ _ (simp (length-append, length-take, length-drop) (omega arith))
      (λ i d l. get_or-drop k (over xs o ys) i d ∙ (over_above (k + i) d (omega arith) ∙ sym (get_or-drop k xs i d)))

-- a row laid over in its middle by one part and then by the next
pub over_twice : {X : Type 0} (xs : List X) (o : ℕ) (ys zs : List X) → o + length ys + length zs ≤ length xs
    → over (over xs o ys) (o + length ys) zs ≡ over xs o (ys ++ zs)
over_twice xs o ys zs h =
    let f : o + length ys ≤ length xs = omega arith in
    let t : take (o + length ys) (over xs o ys) ≡ take o xs ++ ys =
    rw (← append_assoc (take o xs) ys (drop (o + length ys) xs)) (take_at (take o xs ++ ys) _ _ (simp (length-append, length-take) (omega arith))) in
    let e : o + length (ys ++ zs) ≡ o + length ys + length zs = simp length-append (omega arith) in
    rw (t, over_back xs o ys f (o + length ys + length zs) (omega arith), e) (simp append_assoc)
