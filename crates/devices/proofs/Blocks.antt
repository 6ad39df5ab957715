-- The blocks of a memory in which new bytes were laid within one block.
use Rattle.std.proofs.Common.{◌≡◌, ℕ, ◌+◌, ◌*◌, ◌<◌, ◌≤◌, ◌⊎◌, cond, List, length, get_or, drop, sym, ap, ◌∙◌, inl, inr, ⊎_elim, mul-le-mul_right, add-mul, one-mul, add-zero, arith, length-drop, length-take}
use Rattle.std.proofs.lemmas.List.{same_lists, get_or-take, get_or-drop}
use Rattle.std.proofs.lemmas.Bool.{cases_lt}
use Rattle.flash.specs.Cells.{over}
use Rattle.flash.specs.Meaning.{with_at}
use Rattle.flash.proofs.Over.{by_place, over_length, over_below, over_in, over_above}
use Rattle.devices.specs.Memory.{part_of}
use Rattle.devices.specs.Sane.{part_full}
use Rattle.devices.proofs.Rows.{over_whole}

pub at_part : {X : Type 0} (size : ℕ) (xs : List X) (i j : ℕ) (d : X) → j < size → get_or (part_of size xs i) j d ≡ get_or xs (i * size + j) d
at_part size xs i j d h = get_or-take size (drop (i * size) xs) j d h ∙ get_or-drop (i * size) xs j d

part_long : {X : Type 0} (size : ℕ) (xs ys : List X) (i : ℕ) → length xs ≡ length ys → length (part_of size xs i) ≡ length (part_of size ys i)
part_long size xs ys i e = simp (length-take, length-drop, e)

part_in : {X : Type 0} (size : ℕ) (xs : List X) (i j : ℕ) → j < length (part_of size xs i) → j < size
part_in size xs i j h = omega (arith, length-take size (drop (i * size) xs))

apart : (m n : ℕ) → (m ≡ n → ⊥) → (m < n) ⊎ (n < m)
apart m n h = ⊎_elim (λ (l : m < n). inl l) (λ (l : n ≤ m). inr (⊎_elim (λ (k : n < m). k) (λ (k : m ≤ n). absurd (h (omega arith))) (cases_lt n m))) (cases_lt m n)

-- ys laid at the offset o of the block b
module _ {X : Type 0} (size : ℕ) (mem ys : List X) (b o : ℕ) (inside : o + length ys ≤ size) (fits : b * size + size ≤ length mem) where
  within : b * size + o + length ys ≤ length mem
  within = omega arith

  new : List X
  new = over mem (b * size + o) ys

  new_long : length new ≡ length mem
  unfolding new
  new_long = over_length mem (b * size + o) ys within

  pub part_other : (i : ℕ) → (i ≡ b → ⊥) → part_of size (over mem (b * size + o) ys) i ≡ part_of size mem i
  unfolding new
  part_other i ne =
      same_lists _ _ (part_long size new mem i new_long)
      (λ j d h.
      let l : j < size = part_in size new i j h in
      at_part size new i j d l ∙ (⊎_elim
      (λ (lt : i < b). over_below mem (b * size + o) ys within (i * size + j) d
      (omega (arith, mul-le-mul_right size lt, add-mul i 1 size, one-mul size)))
      (λ (gt : b < i). over_above mem (b * size + o) ys within (i * size + j) d
      (omega (arith, mul-le-mul_right size gt, add-mul b 1 size, one-mul size)))
      (apart i b ne)
      ∙ sym (at_part size mem i j d l)))

  pub part_same : part_of size (over mem (b * size + o) ys) b ≡ over (part_of size mem b) o ys
  unfolding new
  part_same =
      let full = part_full size mem b fits in
      let f : o + length ys ≤ length (part_of size mem b) = omega arith in
      same_lists _ _ (part_long size new mem b new_long ∙ sym (over_length (part_of size mem b) o ys f))
      (λ j d h.
      let l : j < size = part_in size new b j h in
      at_part size new b j d l ∙ ⊎_elim
      (λ (below : j < o). over_below mem (b * size + o) ys within (b * size + j) d (omega arith)
      ∙ (sym (at_part size mem b j d l) ∙ sym (over_below (part_of size mem b) o ys f j d below)))
      (λ (above : o ≤ j). ⊎_elim
      (λ (in_it : j < o + length ys). over_in mem (b * size + o) ys within (b * size + j) d (omega arith) (omega arith)
      ∙ (ap (λ n. get_or ys n d) (omega arith) ∙ sym (over_in (part_of size mem b) o ys f j d above in_it)))
      (λ (past : o + length ys ≤ j). over_above mem (b * size + o) ys within (b * size + j) d (omega arith)
      ∙ (sym (at_part size mem b j d l) ∙ sym (over_above (part_of size mem b) o ys f j d past)))
      (cases_lt j (o + length ys)))
      (cases_lt j o))

  -- the blocks, one of which is changed
  pub part_over : (i : ℕ) → part_of size (over mem (b * size + o) ys) i ≡ with_at (part_of size mem) b (over (part_of size mem b) o ys) i
  part_over i =
      by_place (λ v. part_of size (over mem (b * size + o) ys) i ≡ cond v (over (part_of size mem b) o ys) (part_of size mem i)) i b
      (λ e. rw e part_same)
      (part_other i)

  pub over_long : length (over mem (b * size + o) ys) ≡ length mem
  over_long = over_length mem (b * size + o) ys within

-- a whole block laid anew
module _ {X : Type 0} (size : ℕ) (mem ys : List X) (b : ℕ) (long : length ys ≡ size) (fits : b * size + size ≤ length mem) where
  pub part_anew : (i : ℕ) → part_of size (over mem (b * size) ys) i ≡ with_at (part_of size mem) b ys i
  part_anew i =
      ap (λ n. part_of size (over mem n ys) i) (sym (add-zero (b * size)))
      ∙ (part_over size mem ys b 0 (omega arith) fits i
      ∙ ap (λ l. with_at (part_of size mem) b l i) (over_whole (part_of size mem b) ys (long ∙ sym (part_full size mem b fits))))

  pub anew_long : length (over mem (b * size) ys) ≡ length mem
  anew_long = over_length mem (b * size) ys (omega arith)
