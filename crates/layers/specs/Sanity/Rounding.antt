-- Places rounded up to a batch.
use Rattle.std.proofs.Common.{◌≡◌, ℕ, suc, ◌+◌, ◌-◌, ◌*◌, ◌/◌, ◌%◌, ◌<◌, ◌≤◌, ap, ◌∙◌, ⊎_elim, mod-lt, div-add-mod', arith}
use native.Mathlib.Nat.{mod_self, mod-eq_of_lt}
use Rattle.std.specs.Int.{next_multiple_of}
use Rattle.std.proofs.lemmas.Bool.{cases_lt}
use Rattle.flash.proofs.Batches.{end_le, end_more, next_batch, end_mono}
use Rattle.layers.specs.Batch.{up}

-- rounding up to a batch of g
module _ (g : ℕ) (some : 0 < g) where
  pub up_le : (x : ℕ) → x ≤ up g x
  unfolding up
  up_le x = omega (arith, end_more g some (x + (g - 1)))

  up_least : (x c : ℕ) → x ≤ c * g → up g x ≤ c * g
  unfolding up
  up_least x c h =
      ⊎_elim (λ (l : c * g < (x + (g - 1)) / g * g). absurd (omega (arith, next_batch g some c ((x + (g - 1)) / g) l, end_le g some (x + (g - 1)))))
      (λ l. l) (cases_lt (c * g) ((x + (g - 1)) / g * g))

  -- where it stays at or below x, it stays at or below the start of x's batch
  pub up_start : (x y : ℕ) → up g x ≤ y → up g x ≤ y / g * g
  unfolding up
  up_start x y h =
      ⊎_elim (λ (l : y / g * g < (x + (g - 1)) / g * g). absurd (omega (arith, next_batch g some (y / g) ((x + (g - 1)) / g) l, end_more g some y)))
      (λ l. l) (cases_lt (y / g * g) ((x + (g - 1)) / g * g))

  pub up_mono : (x y : ℕ) → x ≤ y → up g x ≤ up g y
  unfolding up
  up_mono x y h = end_mono g some (x + (g - 1)) (y + (g - 1)) (omega arith)

  pub up_zero : up g 0 ≡ 0
  up_zero = omega (arith, up_least 0 0 (omega arith))

  pub up_at : (s x : ℕ) → s / g * g ≡ s → x ≤ s → up g x ≤ s
  up_at s x e h = omega (arith, up_least x (s / g) (omega (arith, e)))

  pub start_is : (s x : ℕ) → s / g * g ≡ s → s ≤ x → x < s + g → x / g * g ≡ s
  start_is s x e lo hi =
      let a : s / g * g ≤ x / g * g = end_mono g some s x lo in
      ⊎_elim (λ (l : s / g * g < x / g * g). absurd (omega (arith, next_batch g some (s / g) (x / g) l, end_le g some x)))
      (λ (l : x / g * g ≤ s / g * g). omega (arith, a, l, e)) (cases_lt (s / g * g) (x / g * g))

  -- the start of the next batch
  pub next_is : (s : ℕ) → s / g * g ≡ s → (s + g) / g * g ≡ s + g
  next_is s e =
      let a = end_le g some (s + g) in
      let c = end_more g some (s + g) in
      ⊎_elim (λ (l : s / g * g < (s + g) / g * g). omega (arith, next_batch g some (s / g) ((s + g) / g) l, a, e))
      (λ (l : (s + g) / g * g ≤ s / g * g). absurd (omega (arith, l, e, c))) (cases_lt (s / g * g) ((s + g) / g * g))

  up_above : (x c : ℕ) → c * g < x → c * g + g ≤ up g x
  unfolding up
  up_above x c h = next_batch g some c ((x + (g - 1)) / g) (omega (arith, h, end_more g some (x + (g - 1))))

  -- it is what `next_multiple_of` answers
  pub up_next : (x : ℕ) → next_multiple_of x g ≡ up g x
  up_next x =
      ⊎_elim
      (λ (l : 0 < x % g).
      let z : (g - x % g) % g ≡ g - x % g = mod-eq_of_lt (omega (arith, l, some)) in
      let e : x + (g - x % g) ≡ suc (x / g) * g = omega (arith, div-add-mod' x g, mod-lt x some) in
      omega (arith, z, e, up_least x (suc (x / g)) (omega (arith, e)), up_above x (x / g) (omega (arith, l, div-add-mod' x g))))
      (λ (l : x % g ≤ 0).
      let w : x / g * g ≡ x = omega (arith, l, div-add-mod' x g) in
      let z : g - x % g ≡ g = omega (arith, l) in
      let y : (g - x % g) % g ≡ 0 = ap (λ (n : ℕ). n % g) z ∙ mod_self g in
      omega (arith, y, up_le x, up_at x x w (omega arith)))
      (cases_lt 0 (x % g))
