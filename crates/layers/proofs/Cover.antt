-- What was read of a block, with held bytes laid over it.
use Rattle.std.proofs.Common.{◌≡◌, ℕ, ◌+◌, ◌-◌, ◌<◌, ◌≤◌, min, ◌⊎◌, List, length, get_or, take, drop, sym, refl, ap, ◌∙◌, inl, inr, ⊎_elim, arith, length-drop, length-take}
use borrow.Rule.Slice.PartMut.{put_mid}
use native.Mathlib.Nat.{min-le_left, min-le_right, min-eq_left, min-eq_right}
use lib.ListN.{length-map}
use Rattle.std.proofs.lemmas.List.{drop-drop, get_or-map, ext_get_or, get_or-take, get_or-drop}
use Rattle.std.proofs.lemmas.Bool.{cases_lt}
use Rattle.flash.specs.Cells.{Cell, byte, lost, cells, over}
use Rattle.flash.specs.Refused.{part}
use Rattle.flash.proofs.Over.{over_length, over_below, over_in, over_above}

module _ (xs : List Cell) (o n : ℕ) (fits : o + n ≤ length xs) where
  pub part_long : length (part xs o n) ≡ n
  part_long = simp (length-take, length-drop) (omega arith)

  pub part_at : (i : ℕ) → i < n → get_or (part xs o n) i lost ≡ get_or xs (o + i) lost
  part_at i h = get_or-take n (drop o xs) i lost h ∙ get_or-drop o xs i lost

module _ (xs : List Cell) (o s : ℕ) (held out : List ℕ) (fits : o + length out ≤ length xs) (lies : s + length held ≤ length xs) (was : cells out ≡ part xs o (length out)) where
  lies' : s + length (cells held) ≤ length xs
  lies' = rw (length-map held byte) lies

  out_at : (i : ℕ) → i < length out → byte (get_or out i 0) ≡ get_or xs (o + i) lost
  out_at i h = sym (get_or-map byte out i 0 lost h) ∙ (ap (λ (x : List Cell). get_or x i lost) was ∙ part_at xs o (length out) fits i h)

  -- bytes that are the held ones where those lie, and elsewhere what they were
  covered : (new : List ℕ) → length new ≡ length out
      → ((i : ℕ) → i < length out → s ≤ o + i → o + i < s + length held → get_or new i 0 ≡ get_or held (o + i - s) 0)
      → ((i : ℕ) → i < length out → (o + i < s) ⊎ (s + length held ≤ o + i) → get_or new i 0 ≡ get_or out i 0)
      → cells new ≡ part (over xs s (cells held)) o (length out)
  covered new long inside outside =
      let L = over xs s (cells held) in
      let fits' : o + length out ≤ length L = rw (over_length xs s (cells held) lies') fits in
      ext_get_or lost (cells new) (part L o (length out)) (length-map new byte ∙ (long ∙ sym (part_long L o (length out) fits')))
      (λ i h.
      let l : i < length out = omega (arith, h, length-map new byte, long) in
      get_or-map byte new i 0 lost (omega (arith, l, long))
      ∙ (⊎_elim
      (λ (k : o + i < s). ap byte (outside i l (inl k)) ∙ (out_at i l ∙ sym (over_below xs s (cells held) lies' (o + i) lost k)))
      (λ (k : s ≤ o + i). ⊎_elim
      (λ (j : o + i < s + length held).
      ap byte (inside i l k j)
      ∙ sym (over_in xs s (cells held) lies' (o + i) lost k (rw (length-map held byte) j) ∙ get_or-map byte held (o + i - s) 0 lost (omega arith)))
      (λ (j : s + length held ≤ o + i).
      ap byte (outside i l (inr j)) ∙ (out_at i l ∙ sym (over_above xs s (cells held) lies' (o + i) lost (rw (length-map held byte) j))))
      (cases_lt (o + i) (s + length held)))
      (cases_lt (o + i) s)
      ∙ sym (part_at L o (length out) fits' i l)))

  module _ (n to from : ℕ) (to_is : to ≡ s - o) (from_is : from ≡ o - s) (n_is : n ≡ min (length out - to) (length held - from)) where
    n_out : n ≤ length out - to
    n_out = omega (arith, n_is, min-le_left (length out - to) (length held - from))

    n_held : n ≤ length held - from
    n_held = omega (arith, n_is, min-le_right (length out - to) (length held - from))

    -- both rows reach a place only if it is among the n
    reached : (i : ℕ) → i < length out → s ≤ o + i → o + i < s + length held → i - to < n
    reached i h lo hi =
        ⊎_elim
        (λ (k : length out - to < length held - from). let k' : length out - to ≤ length held - from = omega (arith, k) in omega (arith, n_is, min-eq_left k'))
        (λ (k : length held - from ≤ length out - to). omega (arith, n_is, min-eq_right k))
        (cases_lt (length out - to) (length held - from))

    -- they do not meet
    pub covers_none : n ≤ 0 → cells out ≡ part (over xs s (cells held)) o (length out)
    covers_none z = covered out refl (λ i h lo hi. absurd (omega (arith, z, reached i h lo hi))) (λ i h k. refl)

    -- they do, in n bytes
    pub covers_some : 0 < n → (put : List ℕ) → put ≡ take (from + n - from) (drop from held) → cells (put_mid to (to + n - to) out put) ≡ part (over xs s (cells held)) o (length out)
    covers_some z put e =
        let mid = take n (drop from held) in
        let new = put_mid to (to + n - to) out put in
        let y : from + n - from ≡ n = omega arith in
        let x : to + n - to ≡ n = omega arith in
        let long : length mid ≡ n = simp (length-take, length-drop) (omega (arith, n_held)) in
        let fit : to + length mid ≤ length out = omega (arith, long, n_out, z) in
        let is : new ≡ over out to mid = rw (x, e, y, drop-drop, long) refl in
        covered new (ap length is ∙ over_length out to mid fit)
        (λ i h lo hi.
        let in_n = reached i h lo hi in
        let w : from + (i - to) ≡ o + i - s = omega arith in
        ap (λ (x : List ℕ). get_or x i 0) is
        ∙ (over_in out to mid fit i 0 (omega arith) (omega (arith, long, in_n))
        ∙ (get_or-take n (drop from held) (i - to) 0 in_n ∙ (get_or-drop from held (i - to) 0 ∙ ap (λ (x : ℕ). get_or held x 0) w))))
        (λ i h w.
        ap (λ (x : List ℕ). get_or x i 0) is
        ∙ ⊎_elim
        (λ (l : o + i < s). over_below out to mid fit i 0 (omega arith))
        (λ (l : s + length held ≤ o + i). over_above out to mid fit i 0 (omega (arith, long, n_held, l)))
        w)
