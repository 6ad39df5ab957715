-- Erase, restart and arm of a write buffer.
use Rattle.std.proofs.Common.{◌≡◌, ℕ, ◌+◌, cond, List, length, take, replicate, None, Ok, Err, sym, refl, ap, ◌∙◌, subst, ⊎_elim}
use Rattle.std.proofs.lemmas.Bool.{cases_eq}
use Rattle.flash.specs.Cells.{Cell, cells, blank, over}
use Rattle.flash.specs.Meaning.{Meaning, Sane, armed, with_at}
use Rattle.flash.specs.Refused.{place_refusal, arm_refusal}
use Rattle.flash.specs.Rules.{Answer, Programmed, broken, erased, batch_of, Worn, Erased, powered, Armed, restarted, Restarted, mark_answer}
use Rattle.flash.specs.declared.interface.Flash.{Ghosts}
use Rattle.flash.specs.declared.refusal.Refusal.{Refusal}
use Rattle.flash.specs.declared.refusal.Refusal.TheVariants.{NoPower}
use Rattle.flash.proofs.Over.{by_place, here, elsewhere}
use Rattle.flash.proofs.Refusals.{not_some, refused_as}
use Rattle.flash.specs.Extent.{used}
use Rattle.layers.specs.Batch.{filling, up, without, left, kept}
use Rattle.layers.specs.Buffered.{raised, buffered, Fills, Holding, Bearing, Sound}
use Rattle.layers.specs.WriteBuffer.{means}
use Rattle.layers.specs.declared.buffer.State.{State}
use Rattle.layers.specs.declared.buffer.WriteBuffer.{WriteBuffer}
use Rattle.layers.specs.declared.buffer.State.TheVariants.{Empty, Filling}
use Rattle.layers.specs.Sanity.Rows.{has_batch}
use Rattle.layers.proofs.Moves.{shape_after, blank_holds}
use Rattle.layers.proofs.Refuse.{same_place}
use Rattle.layers.specs.Sanity.{sound_of, batch_long}
use Rattle.layers.proofs.Steps.{Mine, mine_shown, mine_mark}
use Rattle.layers.specs.Sanity.Rounding.{up_zero}

module _ (m : Meaning) (b : ℕ) where
  erased_shape : ((erased m b).page ≡ m.page) × ((erased m b).batch ≡ m.batch)
  unfolding erased
  erased_shape = (refl, refl)

  broken_shape : (xs : List Cell) (k : ℕ → ℕ) → ((broken m b xs k).page ≡ m.page) × ((broken m b xs k).batch ≡ m.batch)
  unfolding broken
  broken_shape xs k = (refl, refl)

  module _ (bear : Bearing m) (held : List ℕ) where
    erased_mark : (i : ℕ) → up m.batch (with_at m.mark b 0 i) ≡ with_at (raised m) b 0 i
    erased_mark i =
        by_place (λ v. up m.batch (cond v 0 (m.mark i)) ≡ cond v 0 (raised m i)) i b
        (λ _. up_zero m.batch (has_batch m bear))
        (λ _. refl)

    -- the held batch goes with its block
    erased_mine : (long : length held ≡ m.batch) (st : State) → Mine st b → (rest : List ℕ) → buffered (erased m b) Empty rest ≡ erased (buffered m st held) b
    unfolding buffered erased
    erased_mine long st mine rest =
        λ u. record {
          blocks = m.blocks;
          size = m.size;
          page = 4;
          batch = m.batch;
          shown = λ i. sym (mine_shown m bear held long b st mine (blank m.size) i) u;
          settled = λ i. with_at m.settled b (blank m.size) i;
          mark = λ i. (erased_mark i ∙ sym (mine_mark m bear held long b st mine 0 i)) u;
          power = m.power;
        }

    swap : {X : Type 0} (f : ℕ → X) (c : ℕ) (x y : X) → (c ≡ b → ⊥) → (i : ℕ) → with_at (with_at f b y) c x i ≡ with_at (with_at f c x) b y i
    swap f c x y ne i =
        ⊎_elim
        (λ (e : i ≡ c).
        ap (with_at (with_at f b y) c x) e
        ∙ (here (with_at f b y) c x
        ∙ sym (elsewhere (with_at f c x) b y i (λ q. ne (sym e ∙ q)) ∙ (ap (with_at f c x) e ∙ here f c x))))
        (λ (e : i ≡ c → ⊥).
        elsewhere (with_at f b y) c x i e
        ∙ by_place (λ v. cond v y (f i) ≡ cond v y (with_at f c x i)) i b (λ _. refl) (λ _. sym (elsewhere f c x i e)))
        (cases_eq i c)

    -- that of another block stays
    erased_other : (c s : ℕ) → (c ≡ b → ⊥) → buffered (erased m b) (filling c s) held ≡ erased (buffered m (filling c s) held) b
    unfolding buffered erased
    erased_other c s ne =
        let there : with_at m.shown b (blank m.size) c ≡ m.shown c = elsewhere m.shown b (blank m.size) c ne in
        let shown_is : (i : ℕ) → with_at (with_at m.shown b (blank m.size)) c (over (with_at m.shown b (blank m.size) c) s (cells held)) i
        ≡ with_at (with_at m.shown c (over (m.shown c) s (cells held))) b (blank m.size) i =
        λ i. ap (λ (x : List Cell). with_at (with_at m.shown b (blank m.size)) c (over x s (cells held)) i) there
        ∙ swap m.shown c (over (m.shown c) s (cells held)) (blank m.size) ne i in
        let mark_is : (i : ℕ) → with_at (λ j. up m.batch (with_at m.mark b 0 j)) c (s + used held) i ≡ with_at (with_at (raised m) c (s + used held)) b 0 i =
        λ i. by_place (λ v. cond v (s + used held) (up m.batch (with_at m.mark b 0 i)) ≡ cond v (s + used held) (with_at (raised m) b 0 i)) i c (λ _. refl) (λ _. erased_mark i)
        ∙ swap (raised m) c (s + used held) 0 ne i in
        λ u. record {
          blocks = m.blocks;
          size = m.size;
          page = 4;
          batch = m.batch;
          shown = λ i. shown_is i u;
          settled = λ i. with_at m.settled b (blank m.size) i;
          mark = λ i. mark_is i u;
          power = m.power;
        }

    erased_fills : (c s : ℕ) → (c ≡ b → ⊥) → Fills m c s held → Fills (erased m b) c s held
    unfolding erased
    erased_fills c s ne f = record {
      there = f.there;
      starts = f.starts;
      within = f.within;
      above = rw (elsewhere m.mark b 0 c ne) f.above;
      some = f.some;
      short = f.short;
    }

-- a failed erase, a restart and an arming, seen through the buffer
module _ (m : Meaning) (st : State) (held : List ℕ) where
  broken_buffered : (rest : List ℕ) (b : ℕ) (xs : List Cell) (k : ℕ → ℕ) → buffered (broken m b xs k) Empty rest ≡ broken (buffered m st held) b xs (λ i. up m.batch (k i))
  unfolding buffered broken
  broken_buffered rest b xs k = refl

  failed_buffered : (b : ℕ) (n : Meaning) (xs : List Cell) (k : ℕ → ℕ) → place_refusal m b 0 0 ≡ None → m.power ≡ armed → length xs ≡ m.size
      → ((i : ℕ) → Worn (batch_of m i (m.settled b)) (batch_of m i xs)) → n ≡ broken (buffered m st held) b xs k → Erased (buffered m st held) b (Err NoPower) n
  unfolding buffered
  failed_buffered b n xs k none a long worn e = Erased.failed xs k (same_place m st held b 0 0 ∙ none) a refl long worn e

  restarted_buffered : (rest : List ℕ) (k : ℕ → ℕ) → buffered (restarted m k) Empty rest ≡ restarted (buffered m st held) (λ i. up m.batch (k i))
  unfolding buffered restarted
  restarted_buffered rest k = refl

restarted_shape : (m : Meaning) (k : ℕ → ℕ) → ((restarted m k).page ≡ m.page) × ((restarted m k).batch ≡ m.batch)
unfolding restarted
restarted_shape m k = (refl, refl)

powered_buffered : (m : Meaning) (st : State) (held : List ℕ) → buffered (powered m armed) st held ≡ powered (buffered m st held) armed
unfolding buffered powered
powered_buffered m Empty held = refl
powered_buffered m (Filling at) held = refl

powered_shape : (m : Meaning) → ((powered m armed).page ≡ m.page) × ((powered m armed).batch ≡ m.batch)
unfolding powered
powered_shape m = (refl, refl)

powered_holding : (m : Meaning) (st : State) (held : List ℕ) → Holding m st held → Holding (powered m armed) st held
unfolding powered
powered_holding m Empty held h = h
powered_holding m (Filling at) held f = record { there = f.there; starts = f.starts; within = f.within; above = f.above; some = f.some; short = f.short }

arm_same : (m : Meaning) (st : State) (held : List ℕ) → arm_refusal (buffered m st held) ≡ arm_refusal m
unfolding buffered arm_refusal
arm_same m st held = refl

-- ─── as the calls make them ───

-- what the type of a write buffer says that a call may change
pub record Stands (n : Meaning) (batch : ℕ) (st : State) (held : List ℕ) : Type 0 where
  pub pages : n.page ≡ batch
  pub batches : n.batch ≡ batch
  pub holding : Holding n st (take batch held)

module _ {m : Meaning} {batch : ℕ} {st : State} {held : List ℕ} (s : Sound m batch st held) (n : Meaning) where
  shaped : (st' : State) (held' : List ℕ) → (n.page ≡ m.page) × (n.batch ≡ m.batch) → Holding n st' (take batch held') → Stands n batch st' held'
  shaped st' held' e h = record { pages = e.0 ∙ (s.bears.whole ∙ s.same); batches = e.1 ∙ s.same; holding = h }

  emptied : (held' : List ℕ) → (n.page ≡ m.page) × (n.batch ≡ m.batch) → held' ≡ replicate 512 255 → Stands n batch Empty held'
  emptied held' e h = shaped Empty held' e (blank_holds batch held' s.small h)

  abbrev M : Meaning
  M = buffered m st (take batch held)

  -- the held batch was passed down
  pub sends : (b o : ℕ) (run : List ℕ) (r : Answer) → Programmed m b o run r n → (held' : List ℕ) → held' ≡ replicate 512 255 → Stands n batch Empty held'
  sends b o run r p held' h = emptied held' (shape_after m n b o run r p) h

  pub restarts : Restarted m n → (held' : List ℕ) → held' ≡ replicate 512 255 → Stands n batch Empty held' × Restarted M (buffered n Empty (take batch held'))
  restarts r held' h = (
    emptied held' (ap (λ (x : Meaning). x.page) r.is ∙ (restarted_shape m r.marks).0, ap (λ (x : Meaning). x.batch) r.is ∙ (restarted_shape m r.marks).1) h,
    record {
      marks = λ i. up m.batch (r.marks i);
      is = ap (λ (x : Meaning). buffered x Empty (take batch held')) r.is ∙ restarted_buffered m st (take batch held) (take batch held') r.marks;
    },
  )

  pub arms : (r : Answer) → Armed m r n → Stands n batch st held × Armed M r (buffered n st (take batch held))
  arms r (Armed.refused e h q i) = (
    shaped st held (ap (λ (x : Meaning). x.page) i, ap (λ (x : Meaning). x.batch) i) (subst (λ (x : Meaning). Holding x st (take batch held)) (sym i) s.holding),
    Armed.refused e (arm_same m st (take batch held) ∙ h) q (ap (λ (x : Meaning). buffered x st (take batch held)) i),
  )
  arms r (Armed.done h q i) = (
    shaped st held (ap (λ (x : Meaning). x.page) i ∙ (powered_shape m).0, ap (λ (x : Meaning). x.batch) i ∙ (powered_shape m).1)
        (subst (λ (x : Meaning). Holding x st (take batch held)) (sym i) (powered_holding m st (take batch held) s.holding)),
    Armed.done (arm_same m st (take batch held) ∙ h) q (ap (λ (x : Meaning). buffered x st (take batch held)) i ∙ powered_buffered m st (take batch held)),
  )

  module _ (b : ℕ) (none : place_refusal m b 0 0 ≡ None) where
    erases_mine : Mine st b → n ≡ erased m b → (held' : List ℕ) → held' ≡ replicate 512 255
        → Stands n batch Empty held' × Erased M b (Ok tt) (buffered n Empty (take batch held'))
    erases_mine mine i held' h = (
      emptied held' (ap (λ (x : Meaning). x.page) i ∙ (erased_shape m b).0, ap (λ (x : Meaning). x.batch) i ∙ (erased_shape m b).1) h,
      Erased.done (same_place m st (take batch held) b 0 0 ∙ none) refl
          (ap (λ (x : Meaning). buffered x Empty (take batch held')) i ∙ erased_mine m b s.bears (take batch held) (batch_long s) st mine (take batch held')),
    )

    erase_fails : (xs : List Cell) (f : ℕ → ℕ) → m.power ≡ armed → length xs ≡ m.size
        → ((i : ℕ) → Worn (batch_of m i (m.settled b)) (batch_of m i xs)) → n ≡ broken m b xs f → (held' : List ℕ) → held' ≡ replicate 512 255
        → Stands n batch Empty held' × Erased M b (Err NoPower) (buffered n Empty (take batch held'))
    erase_fails xs f a l w e held' h = (
      emptied held' (ap (λ (x : Meaning). x.page) e ∙ (broken_shape m b xs f).0, ap (λ (x : Meaning). x.batch) e ∙ (broken_shape m b xs f).1) h,
      failed_buffered m st (take batch held) b (buffered n Empty (take batch held')) xs (λ i. up m.batch (f i)) none a l w
          (ap (λ (x : Meaning). buffered x Empty (take batch held')) e ∙ broken_buffered m st (take batch held) (take batch held') b xs f),
    )

-- what an erase of the block b with the answer r leaves of what was held
abbrev Leaves : Meaning → Meaning → ℕ → List ℕ → ℕ → State → Answer → State → Type 0
Leaves m n batch held b st r st' = Stands n batch st' (kept st' held) × Erased (buffered m st (take batch held)) b r (buffered n st' (take batch (kept st' held)))

module _ (m n : Meaning) (batch : ℕ) (held : List ℕ) (b : ℕ) (none : place_refusal m b 0 0 ≡ None) where
  -- by what it leaves held
  erases_done : (st : State) (s : Sound m batch st held) → n ≡ erased m b → Leaves m n batch held b st (Ok tt) (without st b)
  erases_done Empty s i = erases_mine s n b none tt i (replicate 512 255) refl
  erases_done (Filling at) s i =
      by_place (λ v. Leaves m n batch held b (Filling at) (Ok tt) (cond v Empty (Filling at))) at.block b
      (λ e. erases_mine s n b none e i (replicate 512 255) refl)
      (λ ne. (
        shaped s n (Filling at) held (ap (λ (x : Meaning). x.page) i ∙ (erased_shape m b).0, ap (λ (x : Meaning). x.batch) i ∙ (erased_shape m b).1)
            (subst (λ (x : Meaning). Fills x at.block at.offset (take batch held)) (sym i) (erased_fills m b s.bears (take batch held) at.block at.offset ne s.holding)),
        Erased.done (same_place m (Filling at) (take batch held) b 0 0 ∙ none) refl
            (ap (λ (x : Meaning). buffered x (Filling at) (take batch held)) i ∙ erased_other m b s.bears (take batch held) at.block at.offset ne),
      ))

  erases : (st : State) (s : Sound m batch st held) (r : Answer) → Erased m b r n → Leaves m n batch held b st r (left r st b)
  erases st s r (Erased.refused e h q i) = absurd (not_some (sym h ∙ none))
  erases st s r (Erased.done h q i) = subst (λ (x : Answer). Leaves m n batch held b st x (left x st b)) (sym q) (erases_done st s i)
  erases st s r (Erased.failed xs f h a q l w e) =
      subst (λ (x : Answer). Leaves m n batch held b st x (left x st b)) (sym q) (erase_fails s n b none xs f a l w e (replicate 512 255) refl)

-- an erase that was not, as the calls make it
pub erased_of : {F : Type 0} {g : Ghosts F} (sane : (x : F) → Sane (g.meaning x)) (w : WriteBuffer F g) {n : Meaning} {b : ℕ} {r : Answer} {st' : State} {held' : List ℕ}
    → place_refusal (g.meaning w.below) b 0 0 ≡ None → Erased (g.meaning w.below) b r n → st' ≡ left r w.state b → held' ≡ kept st' w.held
    → Stands n w.batch st' held' × Erased (means w) b r (buffered n st' (take w.batch held'))
erased_of {F} {g} sane w {n} {b} {r} none p e h = rw (h, e) (erases (g.meaning w.below) n w.batch w.held b none w.state (sound_of sane w) r p)

-- an erase that is refused from the start
pub erase_refused : (m : Meaning) (st : State) (held : List ℕ) (b : ℕ) (e : Refusal) → Err e ≡ mark_answer m b → Erased (buffered m st held) b (Err e) (buffered m st held)
erase_refused m st held b e h = Erased.refused e (same_place m st held b 0 0 ∙ refused_as (place_refusal m b 0 0) (m.mark b) e h) refl refl
