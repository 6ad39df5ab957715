-- What a write to a part of a row leaves, and the batch that an array begins with.
use Rattle.std.proofs.Common.{◌≡◌, ℕ, ◌+◌, ◌-◌, ◌≤◌, List, length, take, ap, ◌∙◌, arith, length-append, length-drop, length-take, rules}
use borrow.Rule.Slice.PartMut.{put_mid}
use Rattle.std.proofs.lemmas.List.{drop-drop, places, same_lists}
use Rattle.flash.specs.Cells.{over}
use Rattle.flash.proofs.Over.{over_length}

-- bytes put into the batch of g that an array begins with
module _ (g : ℕ) (held : List ℕ) (a : ℕ) (run : List ℕ) (fits : a + length run ≤ g) (small : g ≤ length held) (new : List ℕ) (is : new ≡ run) where
  put_over : put_mid a (a + length run - a) held new ≡ over held a run
  put_over = let z : a + length run - a ≡ length run = omega arith in rw (z, is, drop-drop)

  take_over : take g (over held a run) ≡ over (take g held) a run
  take_over = same_lists _ _ (simp (length-append, length-take, length-drop) (omega arith)) (λ i d l. search (rules, places))

  pub put_batch : take g (put_mid a (a + length run - a) held new) ≡ over (take g held) a run
  put_batch = ap (take g) put_over ∙ take_over

  pub put_full : length (put_mid a (a + length run - a) held new) ≡ length held
  put_full = ap length put_over ∙ over_length held a run (omega arith)
