-- What a write buffer refuses.
use Rattle.std.proofs.Common.{◌≡◌, ℕ, ◌+◌, ◌%◌, ◌<◌, ◌≤◌, Bool, true, false, cond, not, eqb, ltb, List, [], ◌∷◌, length, take, Some, None, Ok, Err, Option, Result, IfOk, IfErr, sym, refl, ap, ◌∙◌, ⊎_elim, arith}
use Rattle.std.proofs.lemmas.Bool.{cases_lt, lt-ltb, le-ltb, eq-eqb, ne_eqb}
use Rattle.flash.specs.Meaning.{Meaning, Sane}
use Rattle.flash.specs.Refused.{is_off, first, place_refusal, program_refusal}
use Rattle.flash.specs.Rules.{answered, mark_answer}
use Rattle.flash.specs.declared.interface.Flash.{Ghosts}
use Rattle.flash.specs.declared.place.Place.{Place}
use Rattle.flash.specs.declared.refusal.Refusal.{Refusal}
use Rattle.flash.specs.declared.refusal.Refusal.TheVariants.{NoPower, Outside, NotPages, BelowMark, OtherHeld}
use Rattle.flash.proofs.Refusals.{place_inside, not_some, program_by_place, refused_as, not_refused}
use Rattle.layers.specs.Batch.{turn}
use Rattle.layers.specs.Buffered.{marks, buffered, Holding, Bearing}
use Rattle.layers.specs.WriteBuffer.{means}
use Rattle.layers.specs.Sanity.{sound_of, batch_long}
use Rattle.layers.specs.declared.buffer.State.{State}
use Rattle.layers.specs.declared.buffer.WriteBuffer.{WriteBuffer}
use Rattle.layers.proofs.Turns.{is_other, turn_err, other_held_is}

-- why a program of n bytes at o is refused whose block is there and has power: outside, not whole words, below the mark,
-- another block has bytes held
abbrev pub caused : ℕ → ℕ → ℕ → ℕ → Result (Option Place) Refusal → Option Refusal
caused size mark o n t =
    first
    ((ltb size (o + n), Outside)
    ∷ (cond (eqb (o % 4) 0) (not (eqb (n % 4) 0)) true, NotPages)
    ∷ (ltb o mark, BelowMark)
    ∷ (is_other t, OtherHeld)
    ∷ [])

-- a block that cannot be had refuses every place in it
place_more : (m : Meaning) (b o n : ℕ) (e : Refusal) → place_refusal m b 0 0 ≡ Some e → place_refusal m b o n ≡ Some e
unfolding place_refusal
place_more m b o n e =
    ⊎_elim
    (λ (l : b < m.blocks). rw (lt-ltb b m.blocks l, le-ltb m.size 0 (omega arith)) (powerless (is_off m.power)))
    (λ (l : m.blocks ≤ b). rw (le-ltb b m.blocks l) (λ h. h))
    (cases_lt b m.blocks)
  where
    powerless : (t : Bool) → cond t (Some NoPower) None ≡ Some e → cond t (Some NoPower) (first ((ltb m.size (o + n), Outside) ∷ [])) ≡ Some e
    powerless true h = h
    powerless false h = absurd (not_some (sym h))

module _ (m : Meaning) (st : State) (held : List ℕ) (b : ℕ) where
  pub same_place : (o n : ℕ) → place_refusal (buffered m st held) b o n ≡ place_refusal m b o n
  unfolding buffered place_refusal
  same_place o n = refl

  pub mark_refused : (k : ℕ) (e : Refusal) → Err e ≡ answered (place_refusal m b 0 0) k → Err e ≡ mark_answer (buffered m st held) b
  mark_refused k e h = sym (ap (λ (x : Option Refusal). answered x ((buffered m st held).mark b)) (same_place 0 0 ∙ refused_as (place_refusal m b 0 0) k e h))

  pub mark_had : place_refusal m b 0 0 ≡ None → (k : ℕ) → k ≡ (buffered m st held).mark b → Ok k ≡ mark_answer (buffered m st held) b
  mark_had none k e = sym (ap (λ (x : Option Refusal). answered x ((buffered m st held).mark b)) (same_place 0 0 ∙ none) ∙ ap Ok (sym e))

-- what a mark that was answered tells
module _ (m : Meaning) (b k : ℕ) (h : Ok k ≡ mark_answer m b) where
  pub mark_place : place_refusal m b 0 0 ≡ None
  mark_place = not_refused (place_refusal m b 0 0) (m.mark b) k h

  pub mark_is : k ≡ m.mark b
  mark_is =
      let e : Ok k ≡ Ok (m.mark b) = h ∙ ap (λ (x : Option Refusal). answered x (m.mark b)) mark_place in
      cc

  pub mark_there : b < m.blocks
  mark_there = (place_inside m b 0 0 mark_place).there

module _ (m : Meaning) (st : State) (held : List ℕ) (b o n : ℕ) where
  refuse_place : (e : Refusal) → Err e ≡ mark_answer (buffered m st held) b → program_refusal (buffered m st held) b o n ≡ Some e
  refuse_place e h =
      program_by_place (buffered m st held) b o n e (place_more (buffered m st held) b o n e (refused_as (place_refusal (buffered m st held) b 0 0) _ e h))

module _ (m : Meaning) (bear : Bearing m) (st : State) (held : List ℕ) (long : length held ≡ m.batch) (hold : Holding m st held) (b o n : ℕ) where
  past : (g : ℕ) → is_off m.power ≡ false → b < m.blocks → program_refusal (buffered m st held) b o n ≡ caused m.size (marks m st held b) o n (turn st b o g)
  unfolding buffered program_refusal
  past g on there = rw (on, lt-ltb b m.blocks there, ← other_held_is m bear held long b o g st hold)

  marks_at : (buffered m st held).mark b ≡ marks m st held b
  unfolding buffered
  marks_at = refl

  refuse_cause : (k : ℕ) → Ok k ≡ mark_answer (buffered m st held) b → (size g : ℕ) → size ≡ m.size → program_refusal (buffered m st held) b o n ≡ caused size k o n (turn st b o g)
  refuse_cause k h size g e =
      let i = place_inside m b 0 0 (sym (same_place m st held b 0 0) ∙ mark_place (buffered m st held) b k h) in
      let q : k ≡ marks m st held b = mark_is (buffered m st held) b k h ∙ marks_at in
      past g i.on i.there
      ∙ sym (ap (λ (x : ℕ). caused x k o n (turn st b o g)) e ∙ ap (λ (x : ℕ). caused m.size x o n (turn st b o g)) q)

-- what a program is refused for, as the code asks
module _ {F : Type 0} {g : Ghosts F} (sane : (x : F) → Sane (g.meaning x)) (w : WriteBuffer F g) (at : Place) (n : ℕ) where
  abbrev P : Option Refusal
  P = program_refusal (means w) at.block at.offset n

  abbrev asked : Result (Option Place) Refusal
  asked = turn w.state at.block at.offset w.batch

  pub refused_place : (e : Refusal) → Err e ≡ mark_answer (means w) at.block → P ≡ Some e
  refused_place = refuse_place (g.meaning w.below) w.state (take w.batch w.held) at.block at.offset n

  module _ {mark : ℕ} (had : Ok mark ≡ mark_answer (means w) at.block) {size : ℕ} (is : size ≡ (g.meaning w.below).size) where
    causes : P ≡ caused size mark at.offset n asked
    causes =
        let s = sound_of sane w in
        refuse_cause (g.meaning w.below) s.bears w.state (take w.batch w.held) (batch_long s) s.holding at.block at.offset n mark had size w.batch is

    pub refused_outside : size < at.offset + n → P ≡ Some Outside
    refused_outside h = causes ∙ rw (lt-ltb size (at.offset + n) h) refl

    module _ (fits : at.offset + n ≤ size) where
      pub refused_offset : (at.offset % 4 ≡ 0 → ⊥) → P ≡ Some NotPages
      refused_offset h = causes ∙ rw (le-ltb size (at.offset + n) fits, ne_eqb (at.offset % 4) 0 h) refl

      module _ (whole : at.offset % 4 ≡ 0) where
        pub refused_length : (n % 4 ≡ 0 → ⊥) → P ≡ Some NotPages
        refused_length h = causes ∙ rw (le-ltb size (at.offset + n) fits, eq-eqb (at.offset % 4) 0 whole, ne_eqb (n % 4) 0 h) refl

        module _ (words : n % 4 ≡ 0) where
          pub refused_below : at.offset < mark → P ≡ Some BelowMark
          refused_below h =
              causes ∙ rw (le-ltb size (at.offset + n) fits, eq-eqb (at.offset % 4) 0 whole, eq-eqb (n % 4) 0 words, lt-ltb at.offset mark h) refl

          module _ (above : mark ≤ at.offset) where
            as_asked : P ≡ cond (is_other asked) (Some OtherHeld) None
            as_asked = causes ∙ rw (le-ltb size (at.offset + n) fits, eq-eqb (at.offset % 4) 0 whole, eq-eqb (n % 4) 0 words, le-ltb at.offset mark above) refl

            pub refused_other : (t : Result (Option Place) Refusal) → t ≡ asked → IfErr t (λ e. P ≡ Some e)
            refused_other (Ok first) h = tt
            refused_other (Err e) h =
                as_asked ∙ (ap (λ (x : Result (Option Place) Refusal). cond (is_other x) (Some OtherHeld) None) (sym h)
                ∙ ap Some (sym (turn_err at.block at.offset w.batch w.state e h)))

            pub accepted_here : (t : Result (Option Place) Refusal) → t ≡ asked → IfOk t (λ _. P ≡ None)
            accepted_here (Ok first) h = as_asked ∙ ap (λ (x : Result (Option Place) Refusal). cond (is_other x) (Some OtherHeld) None) (sym h)
            accepted_here (Err e) h = tt
