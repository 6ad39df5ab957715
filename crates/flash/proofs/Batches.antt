-- Batches of g bytes: where they begin and end.
use Rattle.std.proofs.Common.{◌≡◌, ℕ, ◌+◌, ◌-◌, ◌*◌, ◌/◌, ◌%◌, ◌<◌, ◌≤◌, sym, ap, ◌∙◌, ⊎_elim, mul-le-mul_right, mod-lt, add-mul, one-mul, div-add-mod', zero-add, div-mul-le_self, arith}
use native.Mathlib.Nat.{lt-div-mul-add, mod-add-mod, mul-mod_left, mod-le, add-mod_right}
use Rattle.std.proofs.lemmas.Bool.{cases_lt}

module _ (g : ℕ) (some : 0 < g) where
  pub end_le : (x : ℕ) → x / g * g ≤ x
  end_le x = div-mul-le_self x g

  pub end_more : (x : ℕ) → x < x / g * g + g
  end_more x = lt-div-mul-add some

  pub next_batch : (c d : ℕ) → c * g < d * g → c * g + g ≤ d * g
  next_batch c d h =
      ⊎_elim
      (λ (l : c < d). omega (arith, mul-le-mul_right g l, add-mul c 1 g, one-mul g))
      (λ (l : d ≤ c). absurd (omega (arith, mul-le-mul_right g l)))
      (cases_lt c d)

  pub end_mono : (x y : ℕ) → x ≤ y → x / g * g ≤ y / g * g
  end_mono x y h =
      ⊎_elim
      (λ (l : y / g * g < x / g * g). absurd (omega (arith, next_batch (y / g) (x / g) l, end_more y, end_le x)))
      (λ l. l)
      (cases_lt (y / g * g) (x / g * g))

-- whole batches
pub whole_batches : (n g : ℕ) → n % g ≡ 0 → n / g * g ≡ n
whole_batches n g h = omega (arith, div-add-mod' n g)

pub mod_first : (a n p : ℕ) → a % p ≡ 0 → (a + n) % p ≡ n % p
mod_first a n p h = sym (mod-add-mod a p n) ∙ (ap (λ (x : ℕ). (x + n) % p) h ∙ ap (λ (x : ℕ). x % p) (zero-add n))

pub whole_mod : (n g : ℕ) → (n - n % g) % g ≡ 0
whole_mod n g =
    let z : n - n % g ≡ n / g * g = omega (arith, div-add-mod' n g) in
    ap (λ (x : ℕ). x % g) z ∙ mul-mod_left (n / g) g

-- the start of the next batch
pub room_mod : (o g : ℕ) → 0 < g → (o + (g - o % g)) % g ≡ 0
room_mod o g some =
    let z : o + (g - o % g) ≡ o - o % g + g = omega (arith, mod-lt o some, div-add-mod' o g) in
    ap (λ (x : ℕ). x % g) z ∙ (add-mod_right (o - o % g) g ∙ whole_mod o g)

-- what is left of a run after its whole batches is less than one
pub tail_fits : (o n g : ℕ) → 0 < g → o % g ≡ 0 → (o + (n - n % g)) % g + (n - (n - n % g)) < g
tail_fits o n g some h =
    let l : n % g ≤ n = mod-le n g in
    rw (mod_first o (n - n % g) g h, whole_mod n g) (omega (arith, l, mod-lt n some))
