-- The steps of a program, for a buffer whose batch is the first bytes of its array.
use Rattle.std.proofs.Common.{◌≡◌, ℕ, ◌+◌, ◌-◌, ◌*◌, ◌/◌, ◌%◌, ◌<◌, ◌≤◌, cond, List, [], length, take, None, Ok, sym, refl, ap, ◌∙◌, subst, mod-lt, div-add-mod', arith}
use Rattle.flash.specs.declared.place.Place.{Place}
use Rattle.flash.specs.Cells.{over}
use Rattle.flash.specs.Extent.{used}
use Rattle.flash.specs.Meaning.{Meaning, Sane, with_at}
use Rattle.flash.specs.Refused.{program_refusal}
use Rattle.flash.specs.Rules.{Answer, Passed, Goes, Programmed}
use Rattle.flash.proofs.Over.{by_place, here}
use Rattle.flash.proofs.Refusals.{accepted}
use Rattle.layers.specs.Batch.{filling, turn, begun}
use Rattle.layers.specs.Buffered.{raised, marks, buffered, Fills, Holding, Sound, Near}
use Rattle.layers.specs.Sanity.{batch_long}
use Rattle.layers.specs.Sanity.Rounding.{start_is}
use Rattle.layers.specs.Sanity.Rows.{has_batch}
use Rattle.layers.specs.declared.buffer.State.{State}
use Rattle.layers.specs.declared.buffer.State.TheVariants.{Empty, Filling}
use Rattle.layers.proofs.Keep.{start}
use Rattle.layers.proofs.Moves.{nothing_goes, kept_none, kept_some, completes, goes_down, goes_first}
use Rattle.layers.proofs.Turns.{turn_here}

module _ {m : Meaning} {batch : ℕ} {st : State} {held : List ℕ} (s : Sound m batch st held) (b o : ℕ) (run : List ℕ) (none : program_refusal (buffered m st (take batch held)) b o (length run) ≡ None) where
  abbrev M : Meaning
  M = buffered m st (take batch held)

  near_at : Near st batch b o → Near st m.batch b o
  near_at h = subst (λ (g : ℕ). Near st g b o) (sym s.same) h

  pub tells_nothing : Near st batch b o → length run ≡ 0 → Goes M b o run (Ok tt) M
  tells_nothing near z = Goes.done refl (nothing_goes m s.bears st (take batch held) (batch_long s) s.holding b o (length run) run none (near_at near) z)

  module _ (near : Near st batch b o) (bytes : 0 < length run) (short : o % batch + length run < batch) (new : List ℕ) (is : take batch new ≡ over (take batch held) (o % batch) run) where
    short' : o % m.batch + length run < m.batch
    short' = rw s.same short

    is' : take batch new ≡ over (take batch held) (o % m.batch) run
    is' = is ∙ ap (λ (g : ℕ). over (take batch held) (o % g) run) (sym s.same)

    Kept : State → Type 0
    Kept x = Passed M b o run (buffered m x (take batch new)) × Holding m x (take batch new)

    tells_none : used (take batch new) ≡ 0 → Kept Empty
    unfolding Kept
    tells_none = kept_none m s.bears st (take batch held) (batch_long s) s.holding b o run none (near_at near) bytes (omega (arith, short')) short' (take batch new) is'

    tells_some : 0 < used (take batch new) → Kept (filling b (o - o % batch))
    unfolding Kept
    tells_some u =
        let q : start m s.bears b o ≡ o - o % batch = omega (arith, div-add-mod' o m.batch, ap (λ (g : ℕ). o % g) s.same) in
        subst (λ (x : ℕ). Kept (filling b x)) q
        (kept_some m s.bears st (take batch held) (batch_long s) s.holding b o run none (near_at near) bytes (omega (arith, short')) short' (take batch new) is' u)

    -- a run that stays in its batch
    pub tells_kept : (n : ℕ) → n ≡ used (take batch new) → (st' : State) → st' ≡ begun n b (o - o % batch) → Holding m st' (take batch new) × Goes M b o run (Ok tt) (buffered m st' (take batch new))
    unfolding Kept
    tells_kept n is-n st' e =
        let p : Kept st' =
        subst Kept (sym e)
        (by_place (λ v. Kept (cond v Empty (filling b (o - o % batch)))) n 0
        (λ z. tells_none (sym is-n ∙ z))
        (λ z. tells_some (omega (arith, z, is-n)))) in
        (p.1, Goes.done refl p.0)

  module _ (r : Answer) (n : Meaning) (sane : Sane n) (rest : List ℕ) where
    pub tells_complete : Near st batch b o → 0 < batch → o % batch + length run ≡ batch → (new : List ℕ) → new ≡ over (take batch held) (o % batch) run
        → Programmed m b (o - o % batch) new r n → Goes M b o run r (buffered n Empty (take batch rest))
    tells_complete near some h new is p =
        let q : o - o % batch ≡ start m s.bears b o = omega (arith, div-add-mod' o m.batch, ap (λ (g : ℕ). o % g) s.same) in
        let h' : o % m.batch + length run ≡ m.batch = rw s.same h in
        let is' : new ≡ over (take batch held) (o % m.batch) run = is ∙ ap (λ (g : ℕ). over (take batch held) (o % g) run) (sym s.same) in
        completes m s.bears st (take batch held) (batch_long s) s.holding b o run none (near_at near) (omega (arith, h, mod-lt o some)) (omega (arith, h')) h' new is' r n (take batch rest) sane
        (subst (λ (x : ℕ). Programmed m b x new r n) q p)

    pub tells_down : st ≡ Empty → o % batch ≡ 0 → length run % batch ≡ 0 → Programmed m b o run r n → Goes M b o run r (buffered n Empty (take batch rest))
    tells_down e z w p = goes_down m s.bears st (take batch held) (batch_long s) s.holding b o run none e (rw s.same z) (rw s.same w) r n (take batch rest) sane p

-- the held batch goes down before a run behind it
module _ {m : Meaning} {batch : ℕ} {st : State} {held : List ℕ} (s : Sound m batch st held) (b o : ℕ) where
  abbrev B : Meaning
  B = buffered m st (take batch held)

  pub tells_first : (at : Place) → st ≡ Filling at → at.offset + batch ≤ o → program_refusal B b o 0 ≡ None → (r : Answer) (n : Meaning) → Sane n
      → Programmed m at.block at.offset (take batch held) r n → (rest : List ℕ) → Goes B b o [] r (buffered n Empty (take batch rest))
  tells_first at is far none r n sane p rest =
      let fills : Fills m at.block at.offset (take batch held) = subst (λ (x : State). Holding m x (take batch held)) is s.holding in
      let none' : program_refusal (buffered m (Filling at) (take batch held)) b o 0 ≡ None =
      subst (λ (x : State). program_refusal (buffered m x (take batch held)) b o 0 ≡ None) is none in
      subst (λ (x : State). Goes (buffered m x (take batch held)) b o [] r (buffered n Empty (take batch rest))) (sym is)
      (goes_first m s.bears (take batch held) (batch_long s) b o at.block at.offset fills none' (omega (arith, s.same, far)) r n (take batch rest) sane p)

  -- what a program asks, told by what it is not refused for
  mark_low : (n : ℕ) → program_refusal B b o n ≡ None → marks m st (take batch held) b ≤ o
  unfolding buffered
  mark_low n none = (accepted B b o n none).above

  pub tells_here : (n : ℕ) → program_refusal B b o n ≡ None → Ok None ≡ turn st b o batch → Near st batch b o
  tells_here n none = go st s.holding (mark_low n none)
    where
      go : (st : State) → Holding m st (take batch held) → marks m st (take batch held) b ≤ o → Ok None ≡ turn st b o batch → Near st batch b o
      go Empty h low e = tt
      go (Filling at) f low e =
          let k = turn_here b o batch at e in
          let at_b : marks m (Filling at) (take batch held) b ≡ at.offset + used (take batch held) =
          (λ u. with_at (raised m) (k.0 u) (at.offset + used (take batch held)) b) ∙ here (raised m) b (at.offset + used (take batch held)) in
          (k.0, sym (ap (λ (g : ℕ). o / g * g) (sym s.same) ∙ start_is m.batch (has_batch m s.bears) at.offset o f.starts (omega (arith, at_b, low)) (omega (arith, k.1, s.same))))
