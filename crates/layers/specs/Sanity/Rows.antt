-- The row of a block with a held batch over it.
use Rattle.std.proofs.Common.{◌≡◌, ℕ, ◌+◌, ◌-◌, ◌*◌, ◌/◌, ◌%◌, ◌<◌, ◌≤◌, List, length, get_or, sym, ap, ◌∙◌, ⊎_elim, mul_assoc, mul_comm, arith}
use native.Mathlib.Nat.{mul-mod_left, div-div-eq-div-mul}
use lib.ListN.{length-map}
use Rattle.std.proofs.lemmas.List.{get_or-map, ext_get_or}
use Rattle.std.proofs.lemmas.Bool.{cases_lt}
use Rattle.flash.specs.Cells.{Cell, byte, lost, cells, over}
use Rattle.flash.specs.Meaning.{Meaning, shown_at, settled_at}
use Rattle.flash.proofs.Batches.{whole_batches}
use Rattle.flash.proofs.Over.{over_length, over_below, over_in, over_above}
use Rattle.flash.proofs.Settled.{nothing_held}
use Rattle.flash.specs.Extent.{used}
use Rattle.layers.specs.Buffered.{raised, Bearing}
use Rattle.flash.proofs.Extents.{unused}
use Rattle.layers.specs.Sanity.Rounding.{up_at}

pub byte_lost : {x : ℕ} → byte x ≡ lost → ⊥
byte_lost h = let z : ◌≡◌ {A = ℕ} 0 1 = cc in omega arith

module _ (m : Meaning) (bear : Bearing m) where
  pub has_batch : 0 < m.batch
  has_batch = bear.sane.some_batch

  pub size_whole : m.size / m.batch * m.batch ≡ m.size
  size_whole = whole_batches m.size m.batch bear.sane.size_batches

  pub raised_within : (b : ℕ) → b < m.blocks → raised m b ≤ m.size
  raised_within b h = up_at m.batch has_batch m.size (m.mark b) size_whole (bear.sane.mark_within b h)

  pub words_at : (s : ℕ) → s / m.batch * m.batch ≡ s → s % 4 ≡ 0
  words_at s e =
      let q : m.batch / 4 * 4 ≡ m.batch = whole_batches m.batch 4 bear.words in
      let p : s ≡ s / m.batch * (m.batch / 4) * 4 =
      sym e ∙ (ap (λ (g : ℕ). s / m.batch * g) (sym q) ∙ sym (mul_assoc (s / m.batch) (m.batch / 4) 4)) in
      ap (λ (x : ℕ). x % 4) p ∙ mul-mod_left (s / m.batch * (m.batch / 4)) 4

  -- words lie in one batch or in two
  pub same_batch : (i j : ℕ) → i / 4 ≡ j / 4 → i / m.page ≡ j / m.page
  same_batch i j e =
      let q : m.page ≡ 4 * (m.batch / 4) = bear.whole ∙ (sym (whole_batches m.batch 4 bear.words) ∙ mul_comm (m.batch / 4) 4) in
      rw (q, ← div-div-eq-div-mul i 4 (m.batch / 4), ← div-div-eq-div-mul j 4 (m.batch / 4), e)

  pub agrees_at : (b i : ℕ) → b < m.blocks → shown_at m b i ≡ settled_at m b i
  agrees_at b i there = ap (λ (x : List Cell). get_or x i lost) (nothing_held m bear.sane bear.whole b there)

  cell_at : (held : List ℕ) (i : ℕ) → i < length held → get_or (cells held) i lost ≡ byte (get_or held i 0)
  cell_at held i h = get_or-map byte held i 0 lost h

  blank_below : (b s i : ℕ) → b < m.blocks → m.mark b ≤ s → s ≤ i → i < m.size → shown_at m b i ≡ byte 255
  blank_below b s i there lo h l = bear.sane.shown_blank b i there (omega arith) l

  module _ (b s : ℕ) (held : List ℕ) (long : length held ≡ m.batch) (there : b < m.blocks) (starts : s / m.batch * m.batch ≡ s) (within : s + m.batch ≤ m.size) (above : m.mark b ≤ s) where
    pub lies : s + length (cells held) ≤ length (m.shown b)
    lies = rw (length-map held byte, long, bear.sane.shown_length b there) within

    abbrev over_held : List Cell
    over_held = over (m.shown b) s (cells held)

    pub held_long : length over_held ≡ m.size
    held_long = over_length (m.shown b) s (cells held) lies ∙ bear.sane.shown_length b there

    pub held_below : (i : ℕ) → i < s → get_or over_held i lost ≡ shown_at m b i
    held_below i h = over_below (m.shown b) s (cells held) lies i lost h

    pub held_in : (i : ℕ) → s ≤ i → i < s + m.batch → get_or over_held i lost ≡ byte (get_or held (i - s) 0)
    held_in i h l =
        over_in (m.shown b) s (cells held) lies i lost h (rw (length-map held byte, long) l)
        ∙ cell_at held (i - s) (omega (arith, long))

    pub held_above : (i : ℕ) → s + m.batch ≤ i → get_or over_held i lost ≡ shown_at m b i
    held_above i h = over_above (m.shown b) s (cells held) lies i lost (rw (length-map held byte, long) h)

    -- a place is lost in both or in none
    pub lost_under : (i : ℕ) → i < m.size → get_or over_held i lost ≡ lost → shown_at m b i ≡ lost
    lost_under i l e =
        ⊎_elim
        (λ (k : i < s). sym (held_below i k) ∙ e)
        (λ (k : s ≤ i).
        ⊎_elim
        (λ (j : i < s + m.batch). absurd (byte_lost (sym (held_in i k j) ∙ e)))
        (λ (j : s + m.batch ≤ i). sym (held_above i j) ∙ e)
        (cases_lt i (s + m.batch)))
        (cases_lt i s)

    pub lost_over : (i : ℕ) → i < m.size → shown_at m b i ≡ lost → get_or over_held i lost ≡ lost
    lost_over i l e =
        ⊎_elim
        (λ (k : i < s). held_below i k ∙ e)
        (λ (k : s ≤ i). absurd (byte_lost (sym (blank_below b s i there above k l) ∙ e)))
        (cases_lt i s)

    -- nothing but 0xFF changes nothing
    pub held_none : used held ≡ 0 → over_held ≡ m.shown b
    held_none z =
        ext_get_or lost over_held (m.shown b) (held_long ∙ sym (bear.sane.shown_length b there))
        (λ i h.
        let l : i < m.size = omega (arith, h, held_long) in
        ⊎_elim (held_below i)
        (λ (lo : s ≤ i). ⊎_elim
        (λ (hi : i < s + m.batch).
        held_in i lo hi ∙ (ap byte (unused held (i - s) (omega (arith, z)) (omega (arith, long))) ∙ sym (blank_below b s i there above lo l)))
        (held_above i) (cases_lt i (s + m.batch)))
        (cases_lt i s))

    -- from the last byte that is not 0xFF on, all is 0xFF
    pub held_blank : (i : ℕ) → s + used held ≤ i → i < m.size → get_or over_held i lost ≡ byte 255
    held_blank i lo l =
        ⊎_elim
        (λ (hi : i < s + m.batch). held_in i (omega arith) hi ∙ ap byte (unused held (i - s) (omega arith) (omega (arith, long))))
        (λ (hi : s + m.batch ≤ i). held_above i hi ∙ blank_below b s i there above (omega arith) l)
        (cases_lt i (s + m.batch))
