-- The mark of a block of a NOR chip, also once a run was laid behind what it held.
use Rattle.std.proofs.Common.{◌≡◌, ℕ, ◌+◌, ◌%◌, ◌≤◌, eqb, List, length, replicate, refl, arith}
use Rattle.std.specs.Int.{next_multiple_of}
use Rattle.flash.specs.Cells.{over}
use Rattle.flash.specs.Extent.{used}
use Rattle.flash.proofs.Extents.{extent_empty, extent_rises, extent_within_run}
use Rattle.devices.specs.Nor.{mark_of}
use Rattle.devices.specs.Sane.{mark_high}

-- how far bytes reach, up to the end of the page
pub mark_is : (xs : List ℕ) (m n : ℕ) → n ≡ used xs → m ≡ next_multiple_of n 4 → m ≡ mark_of xs
unfolding mark_of
mark_is xs m n e h = omega (arith, e, h)

mark_low : (xs ys : List ℕ) → used xs ≤ used ys → mark_of xs ≤ mark_of ys
unfolding mark_of
mark_low xs ys h = omega arith

pub mark_blank : (n : ℕ) → mark_of (replicate n 255) ≡ 0
unfolding mark_of
mark_blank n = rw (extent_empty (λ x. eqb x 255) n 255 refl)

-- a run at o, where nothing but 0xFF was left
module _ (xs run : List ℕ) (o : ℕ) (fits : o + length run ≤ length xs) (low : used xs ≤ o) where
  pub mark_rises : mark_of xs ≤ mark_of (over xs o run)
  mark_rises = mark_low xs (over xs o run) (extent_rises (λ x. eqb x 255) xs run o fits low)

  pub mark_within_run : o % 4 ≡ 0 → length run % 4 ≡ 0 → mark_of (over xs o run) ≤ o + length run
  mark_within_run p q = mark_high (over xs o run) (o + length run) (omega arith) (extent_within_run (λ x. eqb x 255) xs run o fits low)
