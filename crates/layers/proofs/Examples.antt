-- Examples, computed: the definitions say what they are meant to say.
use Rattle.std.proofs.Common.{◌≡◌, true, false, [], ◌∷◌, Some, None, Ok, Err, refl}
use Rattle.flash.specs.declared.refusal.Refusal.TheVariants.{NoPower, Outside, NotPages, BelowMark, OtherHeld}
use Rattle.flash.specs.Extent.{used}
use Rattle.layers.specs.declared.buffer.State.TheVariants.{Empty}
use Rattle.layers.specs.Batch.{up, filling, suits, turn, begun, begins, left}
use Rattle.layers.proofs.Refuse.{caused}

used_of_blank : used (255 ∷ 255 ∷ []) ≡ 0
used_of_blank = refl

used_of_some : used (255 ∷ 7 ∷ 255 ∷ []) ≡ 2
used_of_some = refl

up_to_batch : (up 512 0 ≡ 0) × (up 512 1 ≡ 512) × (up 512 512 ≡ 512) × (up 512 513 ≡ 1024)
unfolding up
up_to_batch = (refl, refl, refl, refl)

-- it fits a flash with pages of 4 or 512, and not one with 528, nor one whose page is not a batch
where_it_fits : (suits 512 512 ≡ true) × (suits 4 4 ≡ true) × (suits 528 528 ≡ false) × (suits 4 512 ≡ false) × (suits 6 6 ≡ false) × (suits 0 0 ≡ false)
where_it_fits = (refl, refl, refl, refl, refl, refl)

-- while the batch at 512 of block 1 is held
what_is_asked : (turn (filling 1 512) 1 1020 512 ≡ Ok None) × (turn (filling 1 512) 1 1024 512 ≡ Ok (Some (record { block = 1; offset = 512 }))) × (turn (filling 1 512) 2 0 512 ≡ Err OtherHeld) × (turn Empty 2 0 512 ≡ Ok None)
what_is_asked = (refl, refl, refl, refl)

-- the first cause that applies
what_is_refused : (caused 4096 512 4096 4 (Ok None) ≡ Some Outside) × (caused 4096 512 6 4 (Err OtherHeld) ≡ Some NotPages) × (caused 4096 512 508 4 (Err OtherHeld) ≡ Some BelowMark)
    × (caused 4096 512 512 4 (Err OtherHeld) ≡ Some OtherHeld) × (caused 4096 512 512 4 (Ok None) ≡ None) × (caused 4096 512 4096 0 (Ok None) ≡ None)
what_is_refused = (refl, refl, refl, refl, refl, refl)

what_is_held : (begun 0 1 512 ≡ Empty) × (begun 4 1 512 ≡ filling 1 512) × (begins (filling 1 512) 1 ≡ Some 512) × (begins (filling 1 512) 2 ≡ None)
what_is_held = (refl, refl, refl, refl)

what_an_erase_leaves : (left (Ok tt) (filling 1 512) 1 ≡ Empty) × (left (Ok tt) (filling 1 512) 2 ≡ filling 1 512) × (left (Err NoPower) (filling 1 512) 2 ≡ Empty)
what_an_erase_leaves = (refl, refl, refl)
