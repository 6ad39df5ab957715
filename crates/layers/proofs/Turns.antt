-- What a program asks of a buffer, by its state and the place.
use Rattle.std.proofs.Common.{◌≡◌, ℕ, ◌+◌, ◌<◌, ◌≤◌, Bool, true, false, cond, leb, List, length, Some, None, Ok, Err, Option, Result, sym, refl, ap, ⊎_elim, arith}
use Rattle.std.proofs.lemmas.Bool.Decides.{leb_tells}
use Rattle.flash.specs.declared.place.Place.{Place}
use Rattle.flash.specs.declared.refusal.Refusal.{Refusal}
use Rattle.flash.specs.declared.refusal.Refusal.TheVariants.{OtherHeld}
use Rattle.flash.specs.Cells.{cells, over}
use Rattle.flash.specs.Meaning.{Meaning}
use Rattle.flash.specs.Refused.{other_held}
use Rattle.flash.proofs.Over.{by_place, elsewhere}
use Rattle.flash.specs.Extent.{used}
use Rattle.layers.specs.Batch.{filling, turn, begins}
use Rattle.layers.specs.Buffered.{shows, raised, marks, buffered, Holding, Bearing}
use Rattle.layers.specs.declared.buffer.State.{State}
use Rattle.layers.specs.declared.buffer.State.TheVariants.{Empty, Filling}
use Rattle.layers.proofs.Steps.{mine_held, other_holds}

-- whether it asks in vain, as another block has bytes held
abbrev pub is_other : Result (Option Place) Refusal → Bool
is_other (Ok first) = false
is_other (Err e) = true

by_order : (P : Bool → Type 0) (a b : ℕ) → (a ≤ b → P true) → (b < a → P false) → P (leb a b)
by_order P a b f g = ⊎_elim (λ h. rw h.0 (f h.1)) (λ h. rw h.0 (g h.1)) (leb_tells a b)

-- which answer it is, and the place in it
kind : Result (Option Place) Refusal → ℕ
kind (Ok None) = 0
kind (Ok (Some p)) = 1
kind (Err e) = 2

place_or : Place → Result (Option Place) Refusal → Place
place_or d (Ok None) = d
place_or d (Ok (Some p)) = p
place_or d (Err e) = d

refusal_or : Refusal → Result (Option Place) Refusal → Refusal
refusal_or d (Ok p) = d
refusal_or d (Err e) = e

module _ (b o g : ℕ) where
  abbrev asks_here : Place → Bool → Result (Option Place) Refusal
  asks_here at v = Ok (cond v (Some at) None)

  abbrev asks : Place → Bool → Result (Option Place) Refusal
  asks at v = cond v (asks_here at (leb (at.offset + g) o)) (Err OtherHeld)

  pub turn_first : (st : State) (start : Place) → Ok (Some start) ≡ turn st b o g → (st ≡ Filling start) × (start.offset + g ≤ o)
  unfolding kind place_or
  turn_first Empty start = λ h. absurd (omega (arith, ap kind h))
  turn_first (Filling at) start =
      by_place (λ v. Ok (Some start) ≡ asks at v → (Filling at ≡ Filling start) × (start.offset + g ≤ o)) b at.block
      (λ _.
      by_order (λ v. Ok (Some start) ≡ asks_here at v → (Filling at ≡ Filling start) × (start.offset + g ≤ o)) (at.offset + g) o
      (λ k h.
      let e : start ≡ at = ap (place_or start) h in
      (ap Filling (sym e), omega (arith, k, ap (λ (p : Place). p.offset) e)))
      (λ _ h. absurd (omega (arith, ap kind h))))
      (λ _ h. absurd (omega (arith, ap kind h)))

  pub turn_err : (st : State) (e : Refusal) → Err e ≡ turn st b o g → e ≡ OtherHeld
  unfolding kind refusal_or
  turn_err Empty e = λ h. absurd (omega (arith, ap kind h))
  turn_err (Filling at) e =
      by_place (λ v. Err e ≡ asks at v → e ≡ OtherHeld) b at.block
      (λ _.
      by_order (λ v. Err e ≡ asks_here at v → e ≡ OtherHeld) (at.offset + g) o
      (λ _ h. absurd (omega (arith, ap kind h)))
      (λ _ h. absurd (omega (arith, ap kind h))))
      (λ _ h. ap (refusal_or e) h)

  -- nothing is asked where a batch of the same block is held that does not end at or before the place
  pub turn_here : (at : Place) → Ok None ≡ turn (Filling at) b o g → (at.block ≡ b) × (o < at.offset + g)
  unfolding kind
  turn_here at =
      by_place (λ v. Ok None ≡ asks at v → (at.block ≡ b) × (o < at.offset + g)) b at.block
      (λ e.
      by_order (λ v. Ok None ≡ asks_here at v → (at.block ≡ b) × (o < at.offset + g)) (at.offset + g) o
      (λ _ h. absurd (omega (arith, ap kind h)))
      (λ k _. (sym e, k)))
      (λ _ h. absurd (omega (arith, ap kind h)))

-- the held batch of a block
pub begins_at : (st : State) (b s : ℕ) → Some s ≡ begins st b → st ≡ filling b s
begins_at Empty b s h = absurd (let z : ◌≡◌ {A = ℕ} 0 1 = cc in omega arith)
begins_at (Filling at) b s h =
    (by_place (λ v. Some s ≡ cond v (Some at.offset) None → Filling at ≡ filling b s) at.block b
    (λ e h. let f : at.offset ≡ s = cc in λ u. filling (e u) (f u))
    (λ _ h. absurd (let z : ◌≡◌ {A = ℕ} 0 1 = cc in omega arith)))
    h

-- a block without one is as below
module _ (m : Meaning) (held : List ℕ) (b : ℕ) where
  apart : (c s : ℕ) → None ≡ begins (filling c s) b → b ≡ c → ⊥
  apart c s =
      by_place (λ v. None ≡ cond v (Some s) None → b ≡ c → ⊥) c b
      (λ _ h. absurd (let z : ◌≡◌ {A = ℕ} 0 1 = cc in omega arith))
      (λ ne _ q. ne (sym q))

  pub none_shown : (st : State) → None ≡ begins st b → shows m st held b ≡ m.shown b
  none_shown Empty h = refl
  none_shown (Filling at) h = elsewhere m.shown at.block (over (m.shown at.block) at.offset (cells held)) b (apart at.block at.offset h)

  pub none_mark : (st : State) → None ≡ begins st b → marks m st held b ≡ raised m b
  none_mark Empty h = refl
  none_mark (Filling at) h = elsewhere (raised m) at.block (at.offset + used held) b (apart at.block at.offset h)

module _ (m : Meaning) (bear : Bearing m) (held : List ℕ) (long : length held ≡ m.batch) (b o g : ℕ) where
  -- another block has bytes held where a program asks in vain
  pub other_held_is : (st : State) → Holding m st held → other_held (buffered m st held) b ≡ is_other (turn st b o g)
  other_held_is Empty h = mine_held m bear held b Empty tt
  other_held_is (Filling at) f =
      by_place (λ v. other_held (buffered m (Filling at) held) b ≡ is_other (cond v (Ok (cond (leb (at.offset + g) o) (Some at) None)) (Err OtherHeld))) b at.block
      (λ e. mine_held m bear held b (Filling at) (sym e))
      (λ e. other_holds m bear held long b at.block at.offset f (λ q. e (sym q)))
