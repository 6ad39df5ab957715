-- Where a page is a batch, nothing is held.
use Rattle.std.proofs.Common.{◌≡◌, ℕ, ◌%◌, ◌<◌, Bool, true, eqb, sym, ◌∙◌, subst, div-add-mod', arith}
use Rattle.std.proofs.lemmas.List.{ext_get_or}
use Rattle.std.proofs.lemmas.Bool.{eqb-true}
use Rattle.flash.specs.declared.place.Shape.{Shape}
use Rattle.flash.specs.Cells.{lost}
use Rattle.flash.specs.Meaning.{Meaning, Sane, shown_at, settled_at}
use Rattle.flash.specs.Rules.{Shaped}
use Rattle.flash.specs.Settling.{NothingHeld}

pub nothing_held : (m : Meaning) → Sane m → m.page ≡ m.batch → NothingHeld m
nothing_held m s e b there =
    ext_get_or lost (m.shown b) (m.settled b) (s.shown_length b there ∙ sym (s.settled_length b there))
    (λ i h. same i (omega (arith, s.shown_length b there)))
  where
    same : (i : ℕ) → i < m.size → shown_at m b i ≡ settled_at m b i
    same i h =
        s.agree b i there h
        (λ _ lo hi.
        let z : s.held_end % m.batch ≡ 0 = subst (λ (p : ℕ). s.held_end % p ≡ 0) e s.held_pages in
        omega (arith, div-add-mod' s.held_end m.batch))

-- what a shape tells of the flash
module _ (s : Shape) (m : Meaning) (r : Bool) (shaped : Shaped s m) (is : r ≡ eqb s.page s.batch) where
  pub same_shape : r ≡ eqb m.page m.batch
  same_shape = is ∙ rw (shaped.2, shaped.3)

  pub nothing_held_if : Sane m → r ≡ true → NothingHeld m
  nothing_held_if sane t = nothing_held m sane (eqb-true _ _ (sym same_shape ∙ t))
