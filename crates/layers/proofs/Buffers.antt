-- The steps of a program, one after the other, as a write buffer makes them.
use Rattle.std.proofs.Common.{◌≡◌, ℕ, ◌+◌, ◌-◌, ◌%◌, ◌<◌, ◌≤◌, List, [], length, take, drop, Some, None, Ok, Err, arith}
use borrow.Rule.Slice.PartMut.{put_mid}
use native.Mathlib.Nat.{zero-mod}
use Rattle.flash.specs.Extent.{used}
use Rattle.flash.specs.Meaning.{Meaning, Sane}
use Rattle.flash.specs.Refused.{program_refusal}
use Rattle.flash.specs.Rules.{Answer, Goes, Programmed}
use Rattle.flash.specs.declared.interface.Flash.{Ghosts}
use Rattle.flash.specs.declared.place.Place.{Place}
use Rattle.flash.specs.declared.refusal.Refusal.{Refusal}
use Rattle.flash.proofs.Chain.{chain_first, chain_failed}
use Rattle.flash.proofs.Parts.{split_first, split_rest, split_then, split_failed, nothing_rest, nothing_then}
use Rattle.layers.specs.Batch.{turn, begun}
use Rattle.layers.specs.Buffered.{buffered, Holding}
use Rattle.layers.specs.WriteBuffer.{means, IsNear}
use Rattle.layers.specs.Sanity.{sound_of, means-sane}
use Rattle.layers.specs.declared.buffer.State.{State}
use Rattle.layers.specs.declared.buffer.State.TheVariants.{Empty}
use Rattle.layers.specs.declared.buffer.WriteBuffer.{WriteBuffer}
use Rattle.layers.proofs.Put.{put_batch}
use Rattle.layers.proofs.Told.{tells_kept, tells_first}
use Rattle.layers.proofs.Turns.{turn_first}

abbrev pub behind : Place → ℕ → Place
behind at k = record { block = at.block; offset = at.offset + k }

module _ (m : Meaning) {at at' : Place} {run run' : List ℕ} (e : (at' ≡ at) × (run' ≡ run)) where
  same_accepted : program_refusal m at.block at.offset (length run) ≡ None → program_refusal m at'.block at'.offset (length run') ≡ None
  same_accepted h = rw (e.0, e.1) h

  same_goes : {r : Answer} {n : Meaning} → Goes m at'.block at'.offset run' r n → Goes m at.block at.offset run r n
  same_goes h = rw (← e.0, ← e.1) h

module _ {F : Type 0} {g : Ghosts F} (sane : (x : F) → Sane (g.meaning x)) (w : WriteBuffer F g) (at : Place) (run : List ℕ) (none : program_refusal (means w) at.block at.offset (length run) ≡ None) where
  -- a run in two parts, of which the first is k bytes long
  module _ {k : ℕ} (within : k ≤ length run) (words : k % 4 ≡ 0) {at' : Place} {first : List ℕ} (is : (at' ≡ at) × (first ≡ take k run)) where
    pages : k % (means w).page ≡ 0
    unfolding buffered
    pages = words

    pub first_accepted : program_refusal (means w) at'.block at'.offset (length first) ≡ None
    first_accepted = same_accepted (means w) is (split_first k run within (means w) at.block at.offset (means-sane sane w) none pages)

    pub in_first : {n : Meaning} {e : Refusal} → Goes (means w) at'.block at'.offset first (Err e) n → Goes (means w) at.block at.offset run (Err e) n
    in_first {n} {e} h = split_failed k run within (means w) at.block at.offset (means-sane sane w) none pages n e (same_goes (means w) is h)

    module _ {at'' : Place} {rest : List ℕ} (is' : (at'' ≡ behind at k) × (rest ≡ drop k run)) {n : Meaning} (h : Goes (means w) at'.block at'.offset first (Ok tt) n) where
      pub rest_accepted : program_refusal n at''.block at''.offset (length rest) ≡ None
      rest_accepted = same_accepted n is' (split_rest k run within (means w) at.block at.offset (means-sane sane w) none pages n (same_goes (means w) is h))

      pub in_two : {n' : Meaning} {r : Answer} → Goes n at''.block at''.offset rest r n' → Goes (means w) at.block at.offset run r n'
      in_two {n'} {r} h' =
          split_then k run within (means w) at.block at.offset (means-sane sane w) none pages n n' r (same_goes (means w) is h) (same_goes n is' h')

  -- a run after one of nothing
  none_accepted : program_refusal (means w) at.block at.offset 0 ≡ None
  none_accepted = chain_first (means w) at.block at.offset [] run (means-sane sane w) none (zero-mod (means w).page)

  -- the held batch was passed down before a run
  module _ {start : Place} (asked : Ok (Some start) ≡ turn w.state at.block at.offset w.batch) (v : WriteBuffer F g) (same : v.batch ≡ w.batch) (empty : v.state ≡ Empty) where
    emptied : (r : Answer) → Programmed (g.meaning w.below) start.block start.offset (take w.batch w.held) r (g.meaning v.below) → Goes (means w) at.block at.offset [] r (means v)
    emptied r p =
        let q = turn_first at.block at.offset w.batch w.state start asked in
        rw (empty, same) (tells_first (sound_of sane w) at.block at.offset start q.0 q.1 none_accepted r (g.meaning v.below) (sane v.below) p v.held)

    pub not_emptied : {e : Refusal} → Programmed (g.meaning w.below) start.block start.offset (take w.batch w.held) (Err e) (g.meaning v.below) → Goes (means w) at.block at.offset run (Err e) (means v)
    not_emptied {e} p = chain_failed (means w) at.block at.offset [] run (means-sane sane w) none (zero-mod (means w).page) (means v) e (emptied (Err e) p)

    module _ (p : Programmed (g.meaning w.below) start.block start.offset (take w.batch w.held) (Ok tt) (g.meaning v.below)) where
      pub emptied_accepts : program_refusal (means v) at.block at.offset (length run) ≡ None
      emptied_accepts = nothing_rest (means w) (means v) at.block at.offset run (means-sane sane w) none (emptied (Ok tt) p)

      pub emptied_then : {n : Meaning} {r : Answer} → Goes (means v) at.block at.offset run r n → Goes (means w) at.block at.offset run r n
      emptied_then {n} {r} = nothing_then (means w) (means v) n at.block at.offset run r (means-sane sane w) none (emptied (Ok tt) p)

-- a run that stays in its batch
module _ {F : Type 0} {g : Ghosts F} (sane : (x : F) → Sane (g.meaning x)) (w : WriteBuffer F g) (at : Place) (run : List ℕ) (none : program_refusal (means w) at.block at.offset (length run) ≡ None) (near : IsNear w at)
    (short : at.offset % w.batch + length run < w.batch) (bytes : 0 < length run) (put : List ℕ) (is : put ≡ run) where
  abbrev into : ℕ
  into = at.offset % w.batch

  abbrev new : List ℕ
  new = put_mid into (into + length run - into) w.held put

  pub kept : (n : ℕ) → n ≡ used (take w.batch new) → (st : State) → st ≡ begun n at.block (at.offset - into)
      → Holding (g.meaning w.below) st (take w.batch new) × Goes (means w) at.block at.offset run (Ok tt) (buffered (g.meaning w.below) st (take w.batch new))
  kept =
      tells_kept (sound_of sane w) at.block at.offset run none near bytes short new
      (put_batch w.batch w.held into run (omega arith) (omega (arith, w.small, w.full)) put is)
