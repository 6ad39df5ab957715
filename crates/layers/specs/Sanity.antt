-- A write buffer over a flash is a flash: the law of its impl, with the lemmas that it needs.
pub mod Rounding
pub mod Rows
use Rattle.std.proofs.Common.{◌≡◌, ℕ, ◌+◌, ◌-◌, ◌*◌, ◌/◌, ◌<◌, ◌≤◌, cond, List, length, take, get_or, sym, refl, ◌∙◌, subst, ⊎_elim, arith}
use Rattle.std.proofs.lemmas.Bool.{cases_lt}
use Rattle.std.proofs.lemmas.List.{length-take-le}
use Rattle.flash.specs.declared.interface.Flash.{Ghosts}
use Rattle.flash.specs.Cells.{Cell, byte, lost, cells, over}
use Rattle.flash.specs.Meaning.{Meaning, Sane, settled_at}
use Rattle.flash.proofs.Over.{by_place}
use Rattle.flash.specs.Extent.{used}
use Rattle.layers.specs.Batch.{filling}
use Rattle.layers.specs.Buffered.{raised, buffered, Fills, Holding, Bearing, Sound}
use Rattle.layers.specs.WriteBuffer.{means}
use Rattle.layers.specs.declared.buffer.WriteBuffer.{WriteBuffer}
use Rattle.layers.specs.declared.buffer.State.{State}
use Rattle.layers.specs.declared.buffer.State.TheVariants.{Empty, Filling}
use Rattle.layers.specs.Sanity.Rows.{has_batch, raised_within, words_at, same_batch, agrees_at, held_long, held_below, lost_under, lost_over, held_blank}
use Rattle.layers.specs.Sanity.Rounding.{up_le, start_is}

module _ (m : Meaning) (bear : Bearing m) (held : List ℕ) (long : length held ≡ m.batch) where
  sane_empty : Sane (buffered m Empty held)
  unfolding buffered
  sane_empty = record {
    some_page = omega arith;
    some_batch = has_batch m bear;
    batch_pages = bear.words;
    size_batches = bear.sane.size_batches;
    size_fits = bear.sane.size_fits;
    blocks_fit = bear.sane.blocks_fit;
    shown_length = bear.sane.shown_length;
    settled_length = bear.sane.settled_length;
    shown_pages = λ b i j h k l e. bear.sane.shown_pages b i j h k l (same_batch m bear i j e);
    settled_pages = λ b i j h k l e. bear.sane.settled_pages b i j h k l (same_batch m bear i j e);
    mark_within = raised_within m bear;
    shown_blank = λ b i h lo l. bear.sane.shown_blank b i h (omega (arith, up_le m.batch (has_batch m bear) (m.mark b), lo)) l;
    settled_blank = λ b i h lo l. bear.sane.settled_blank b i h (omega (arith, up_le m.batch (has_batch m bear) (m.mark b), lo)) l;
    held_block = 0;
    held_end = 0;
    held_pages = refl;
    agree = λ b i h _ _. agrees_at m bear b i h;
  }

  module _ (b s : ℕ) (f : Fills m b s held) where
    abbrev held_row : List Cell
    held_row = over (m.shown b) s (cells held)

    abbrev last : ℕ
    last = s + (m.batch - 4)

    last_start : last / m.batch * m.batch ≡ s
    last_start = start_is m.batch (has_batch m bear) s last f.starts (omega arith) (omega (arith, f.short))

    blank_from : (i : ℕ) → s + used held ≤ i → i < m.size → get_or held_row i lost ≡ byte 255
    blank_from = held_blank m bear b s held long f.there f.starts f.within f.above

    agrees : (i : ℕ) → i < m.size → (s ≤ i → i < last → ⊥) → get_or held_row i lost ≡ settled_at m b i
    agrees i l out =
        ⊎_elim
        (λ (k : i < s). held_below m bear b s held long f.there f.starts f.within f.above i k ∙ agrees_at m bear b i f.there)
        (λ (k : s ≤ i).
        ⊎_elim
        (λ (j : i < last). absurd (out k j))
        (λ (j : last ≤ i).
        blank_from i (omega (arith, f.short)) l ∙ sym (bear.sane.settled_blank b i f.there (omega (arith, f.above)) l))
        (cases_lt i last))
        (cases_lt i s)

    row_pages : (i j : ℕ) → i < m.size → j < m.size → i / 4 ≡ j / 4 → get_or held_row i lost ≡ lost → get_or held_row j lost ≡ lost
    row_pages i j k l e h =
        lost_over m bear b s held long f.there f.starts f.within f.above j l
        (bear.sane.shown_pages b i j f.there k l (same_batch m bear i j e)
        (lost_under m bear b s held long f.there f.starts f.within f.above i k h))

    sane_filling : Sane (buffered m (filling b s) held)
    unfolding buffered
    sane_filling = record {
      some_page = omega arith;
      some_batch = has_batch m bear;
      batch_pages = bear.words;
      size_batches = bear.sane.size_batches;
      size_fits = bear.sane.size_fits;
      blocks_fit = bear.sane.blocks_fit;
      shown_length = λ c h.
          by_place (λ v. length (cond v held_row (m.shown c)) ≡ m.size) c b
          (λ _. held_long m bear b s held long f.there f.starts f.within f.above)
          (λ _. bear.sane.shown_length c h);
      settled_length = bear.sane.settled_length;
      shown_pages = λ c i j h k l e.
          by_place (λ v. get_or (cond v held_row (m.shown c)) i lost ≡ lost → get_or (cond v held_row (m.shown c)) j lost ≡ lost) c b
          (λ _. row_pages i j k l e)
          (λ _. bear.sane.shown_pages c i j h k l (same_batch m bear i j e));
      settled_pages = λ c i j h k l e. bear.sane.settled_pages c i j h k l (same_batch m bear i j e);
      mark_within = λ c h.
          by_place (λ v. cond v (s + used held) (raised m c) ≤ m.size) c b
          (λ _. omega (arith, f.short, f.within))
          (λ _. raised_within m bear c h);
      shown_blank = λ c i h.
          by_place (λ v. cond v (s + used held) (raised m c) ≤ i → i < m.size → get_or (cond v held_row (m.shown c)) i lost ≡ byte 255) c b
          (λ _ lo l. blank_from i lo l)
          (λ _ lo l. bear.sane.shown_blank c i h (omega (arith, up_le m.batch (has_batch m bear) (m.mark c), lo)) l);
      settled_blank = λ c i h.
          by_place (λ v. cond v (s + used held) (raised m c) ≤ i → i < m.size → settled_at m c i ≡ byte 255) c b
          (λ q lo l. bear.sane.settled_blank c i h (rw q (omega (arith, f.above, lo))) l)
          (λ _ lo l. bear.sane.settled_blank c i h (omega (arith, up_le m.batch (has_batch m bear) (m.mark c), lo)) l);
      held_block = b;
      held_end = last;
      held_pages = omega (arith, words_at m bear s f.starts, bear.words, f.short);
      agree = λ c i h l.
          by_place (λ v. (c ≡ b → last / m.batch * m.batch ≤ i → i < last → ⊥) → get_or (cond v held_row (m.shown c)) i lost ≡ settled_at m c i) c b
          (λ q out.
          subst (λ (x : ℕ). get_or held_row i lost ≡ settled_at m x i) (sym q)
          (agrees i l (λ lo hi. out q (rw last_start lo) hi)))
          (λ _ _. agrees_at m bear c i h);
    }

  pub sane_buffered : (st : State) → Holding m st held → Sane (buffered m st held)
  sane_buffered Empty h = sane_empty
  sane_buffered (Filling start) f = sane_filling start.block start.offset f

pub batch_long : {m : Meaning} {batch : ℕ} {st : State} {held : List ℕ} → Sound m batch st held → length (take batch held) ≡ m.batch
batch_long {m} {batch} {st} {held} s = length-take-le batch held (omega (arith, s.full, s.small)) ∙ sym s.same

module _ {F : Type 0} {g : Ghosts F} (sane : (x : F) → Sane (g.meaning x)) where
  -- what the type of a write buffer says
  pub sound_of : (w : WriteBuffer F g) → Sound (g.meaning w.below) w.batch w.state w.held
  sound_of w = record {
    bears = record {
      sane = sane w.below;
      whole = w.pages ∙ sym w.batches;
      words = rw w.batches w.words;
      small = rw w.batches w.small;
    };
    same = w.batches;
    small = w.small;
    full = w.full;
    holding = w.holding;
  }

  pub means-sane : (w : WriteBuffer F g) → Sane (means w)
  means-sane w =
      let s = sound_of w in
      sane_buffered (g.meaning w.below) s.bears (take w.batch w.held) (batch_long s) w.state s.holding
