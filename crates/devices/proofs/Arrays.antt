-- An array made from a function of the index.
use Rattle.std.proofs.Common.{◌≡◌, ℕ, zero, suc, ◌+◌, ◌<◌, ◌≤◌, List, length, get_or, sym, ap, ◌∙◌, subst, ⊎_elim, arith}
use Rattle.std.proofs.lemmas.List.{same_lists}
use Rattle.std.proofs.lemmas.Bool.{cases_eq}
use Rattle.std.specs.Array.{IsFromFnResultFrom, IsFromFnResult}
use Rattle.std.specs.Fn.{Called}
use denote.Param.Members.{Mut}

-- where each call leaves the closure as it is, and answers h of the index
module _ {F B : Type 0} (g : Mut F (ℕ × Unit {0}) B) (f : F) (h : ℕ → B) (many : ℕ) (calls : (x : ℕ) (y : B) (q : F) → x < many → Called g f (x, tt) y q → (q ≡ f) × (y ≡ h x)) where
  made_at : (ys : List B) (n i : ℕ) → IsFromFnResultFrom g f ys i n → i + n ≤ many → (j : ℕ) (d : B) → i ≤ j → j < i + n → get_or ys j d ≡ h j
  made_at ys zero i e m j d lo hi = absurd (omega arith)
  made_at ys (suc n) i e m j d lo hi =
      let c = calls i e.1 e.0 (omega arith) e.3 in
      ⊎_elim
      (λ (s : j ≡ i). ap (λ k. get_or ys k d) s ∙ (e.2.1 d ∙ (c.1 ∙ ap h (sym s))))
      (λ (ne : j ≡ i → ⊥). made_at ys n (i + 1) (subst (λ q. IsFromFnResultFrom g q ys (i + 1) n) c.0 e.4) (omega arith) j d (omega (arith, ne)) (omega arith))
      (cases_eq j i)

  -- so it is the row that has them
  pub made_is : (ys us : List B) → IsFromFnResult g f ys many → length us ≡ many → ((j : ℕ) (d : B) → j < many → get_or us j d ≡ h j) → ys ≡ us
  made_is ys us made long each =
      same_lists ys us (made.long ∙ sym long)
      (λ j d l. made_at ys many 0 made.each (omega arith) j d (omega arith) (omega (arith, made.long)) ∙ sym (each j d (omega (arith, made.long))))
