-- The mark of a block of a write buffer.
use Rattle.std.proofs.Common.{◌≡◌, ℕ, ◌+◌, ◌^◌, ◌<◌, List, take, Some, None, sym, ap, ◌∙◌, arith}
use Rattle.std.specs.Int.{next_multiple_of}
use Rattle.flash.specs.Extent.{used}
use Rattle.flash.specs.Meaning.{Meaning}
use Rattle.flash.proofs.Over.{here}
use Rattle.layers.specs.Batch.{up, begins}
use Rattle.layers.specs.Buffered.{raised, marks, buffered, Sound}
use Rattle.layers.specs.Sanity.Rounding.{up_next}
use Rattle.layers.specs.Sanity.Rows.{has_batch, raised_within}
use Rattle.layers.specs.declared.buffer.State.{State}
use Rattle.layers.proofs.Turns.{begins_at, none_mark}

module _ {m : Meaning} {batch : ℕ} {st : State} {held : List ℕ} (s : Sound m batch st held) (b : ℕ) where
  next_is : (mark : ℕ) → mark ≡ m.mark b → next_multiple_of mark batch ≡ raised m b
  next_is mark e = ap (next_multiple_of mark) (sym s.same) ∙ (up_next m.batch (has_batch m s.bears) mark ∙ ap (up m.batch) e)

  -- of a block without a held batch it is that below, rounded up
  pub mark_raised : None ≡ begins st b → (mark : ℕ) → mark ≡ m.mark b → next_multiple_of mark batch ≡ (buffered m st (take batch held)).mark b
  unfolding buffered
  mark_raised h mark e = next_is mark e ∙ sym (none_mark m (take batch held) b st h)

  pub raised_fits : b < m.blocks → (mark : ℕ) → mark ≡ m.mark b → next_multiple_of mark batch < 2 ^ 64
  raised_fits there mark e = omega (arith, next_is mark e, raised_within m s.bears b there, s.bears.sane.size_fits)

  -- of the block with the held batch it is where its bytes end
  pub mark_held : (t : ℕ) → Some t ≡ begins st b → t + used (take batch held) ≡ (buffered m st (take batch held)).mark b
  unfolding buffered
  mark_held t h =
      let e = begins_at st b t h in
      sym (ap (λ (x : State). marks m x (take batch held) b) e ∙ here (raised m) b (t + used (take batch held)))
