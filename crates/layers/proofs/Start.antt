-- Where a write buffer fits, and a new one.
use Rattle.std.proofs.Common.{◌≡◌, ℕ, ◌%◌, ◌<◌, ◌≤◌, Bool, true, false, cond, eqb, leb, List, replicate, sym, refl, ◌∙◌}
use Rattle.std.proofs.lemmas.Bool.{false≢true, eqb-true, leb-true, ltb-true}
use Rattle.flash.specs.Meaning.{Meaning}
use Rattle.flash.specs.Rules.{Shaped}
use Rattle.flash.specs.declared.place.Shape.{Shape}
use Rattle.flash.specs.Extent.{used}
use Rattle.layers.specs.Batch.{suits}
use Rattle.layers.specs.Buffered.{buffered}
use Rattle.layers.specs.declared.buffer.State.{State}
use Rattle.flash.proofs.Extents.{extent_empty}

both : (t u : Bool) → cond t u false ≡ true → (t ≡ true) × (u ≡ true)
both true u h = (refl, h)
both false u h = absurd (false≢true h)

pub suits_is : (p g : ℕ) → true ≡ suits p g → (p ≡ g) × (g % 4 ≡ 0) × (g ≤ 512) × (0 < g)
suits_is p g h =
    let a = both (eqb p g) _ (sym h) in
    let b = both (eqb (g % 4) 0) _ a.1 in
    let d = both (leb g 512) _ b.1 in
    (eqb-true p g a.0, eqb-true (g % 4) 0 b.0, leb-true g 512 d.0, ltb-true 0 g d.1)

pub used_blank : (n : ℕ) → used (replicate n 255) ≡ 0
used_blank n = extent_empty (λ x. eqb x 255) n 255 refl

-- what is known of a flash below by its shape
module _ (m : Meaning) (shape : Shape) (shaped : Shaped shape m) where
  suits_same : suits shape.page shape.batch ≡ suits m.page m.batch
  suits_same = rw (shaped.2, shaped.3)

  pub suits_if : (t : Bool) → t ≡ suits shape.page shape.batch → suits m.page m.batch ≡ t
  suits_if t h = sym (h ∙ suits_same)

pub words_shaped : (m : Meaning) (st : State) (held : List ℕ) (below shape : Shape) → Shaped below m → (shape.blocks ≡ below.blocks) × (shape.size ≡ below.size) × (shape.page ≡ 4) × (shape.batch ≡ below.batch)
    → Shaped shape (buffered m st held)
unfolding buffered
words_shaped m st held below shape b e = (e.0 ∙ b.0, e.1 ∙ b.1, e.2, e.3 ∙ b.3)
