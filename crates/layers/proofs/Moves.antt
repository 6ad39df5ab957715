-- The steps of a program, as the calls of a write buffer make them.
use Rattle.std.proofs.Common.{◌≡◌, ℕ, ◌+◌, ◌-◌, ◌*◌, ◌/◌, ◌%◌, ◌<◌, ◌≤◌, List, [], length, take, replicate, None, sym, refl, ap, ◌∙◌, subst, ⊎_elim, div-add-mod', arith}
use native.Mathlib.Nat.{mod_self}
use Rattle.std.proofs.lemmas.List.{take-append-drop, take-replicate, nil_from_length}
use Rattle.std.proofs.lemmas.Bool.{cases_lt}
use Rattle.flash.specs.Cells.{Cell, cells, over}
use Rattle.flash.specs.Meaning.{Meaning, Sane, with_at, mixed, shown_at, settled_at}
use Rattle.flash.specs.Refused.{program_refusal}
use Rattle.flash.specs.Rules.{Answer, programmed, broken, Concerned, Passed, Goes, Programmed}
use Rattle.flash.proofs.Batches.{end_le, end_more, next_batch, whole_batches, mod_first}
use Rattle.flash.proofs.Mixed.{unchanged, over_none}
use Rattle.flash.proofs.Over.{here, over_front}
use Rattle.flash.proofs.Refusals.{Accepted, accepted}
use Rattle.flash.proofs.Settled.{nothing_held}
use Rattle.flash.specs.Extent.{used}
use Rattle.layers.specs.Batch.{filling}
use Rattle.layers.specs.Buffered.{shows, marks, buffered, Fills, Holding, Bearing, Near}
use Rattle.layers.specs.declared.buffer.State.{State}
use Rattle.layers.specs.declared.buffer.State.TheVariants.{Empty, Filling}
use Rattle.layers.proofs.Keep.{near_mine, start, start_starts, start_within, near_low, long', lay_shown, keeps_none, keeps_some}
use Rattle.layers.specs.Sanity.Rows.{has_batch, words_at, lies}
use Rattle.layers.proofs.Start.{used_blank}
use Rattle.layers.proofs.Steps.{last_held, accepted_mine, below_accepted, sent}
use Rattle.layers.specs.Sanity.Rounding.{next_is}

nothing_passes : (m : Meaning) (st : State) (held : List ℕ) (b o : ℕ) → (buffered m st held).mark b ≤ o
    → take (o / m.batch * m.batch) ((buffered m st held).shown b) ≡ take (o / m.batch * m.batch) (m.settled b) → Passed (buffered m st held) b o [] (buffered m st held)
unfolding buffered programmed
nothing_passes m st held b o top same =
    let z : o + 0 ≡ o = omega arith in
    let e : mixed ((o + 0) / m.batch * m.batch) (over (shows m st held b) o []) (m.settled b) ≡ m.settled b =
    rw (over_none (shows m st held b) o, z, same) (take-append-drop (o / m.batch * m.batch) (m.settled b)) in
    record {
      mark = marks m st held b;
      from = omega arith;
      to = omega arith;
      is = λ u. record {
        blocks = m.blocks;
        size = m.size;
        page = 4;
        batch = m.batch;
        shown = λ i. sym (unchanged (shows m st held) b _ (over_none (shows m st held b) o) i) u;
        settled = λ i. sym (unchanged m.settled b _ e i) u;
        mark = λ i. sym (unchanged (marks m st held) b (marks m st held b) refl i) u;
        power = m.power;
      };
    }

module _ (m : Meaning) (bear : Bearing m) (st : State) (held : List ℕ) (long : length held ≡ m.batch) (hold : Holding m st held) (b o : ℕ) where
  -- a run of nothing
  pub nothing_goes : (n : ℕ) (run : List ℕ) → program_refusal (buffered m st held) b o n ≡ None → Near st m.batch b o → length run ≡ 0 → Passed (buffered m st held) b o run (buffered m st held)
  unfolding buffered
  nothing_goes n run none near z =
      let a = accepted (buffered m st held) b o n none in
      subst (λ (x : List ℕ). Passed (buffered m st held) b o x (buffered m st held)) (sym (nil_from_length run z))
      (nothing_passes m st held b o a.above (agree st hold near a.there))
    where
      agree : (st : State) → Holding m st held → Near st m.batch b o → b < m.blocks → take (o / m.batch * m.batch) (shows m st held b) ≡ take (o / m.batch * m.batch) (m.settled b)
      agree Empty h q there = ap (take (o / m.batch * m.batch)) (nothing_held m bear.sane bear.whole b there)
      agree (Filling at) f q there =
          let e : shows m (Filling at) held b ≡ over (m.shown at.block) at.offset (cells held) = ap (shows m (Filling at) held) (sym q.0) ∙ here m.shown at.block (over (m.shown at.block) at.offset (cells held)) in
          ap (take (o / m.batch * m.batch)) e
          ∙ (ap (λ (x : ℕ). take x (over (m.shown at.block) at.offset (cells held))) (sym q.1)
          ∙ (over_front (m.shown at.block) at.offset (cells held) (lies m bear at.block at.offset held long f.there f.starts f.within f.above) at.offset (omega arith)
          ∙ (ap (λ (x : ℕ). take x (m.shown at.block)) q.1 ∙ ap (take (o / m.batch * m.batch)) (ap m.shown q.0 ∙ nothing_held m bear.sane bear.whole b there))))

  module _ (run : List ℕ) (none : program_refusal (buffered m st held) b o (length run) ≡ None) where
    facts : Accepted (buffered m st held) b o (length run)
    facts = accepted (buffered m st held) b o (length run) none

    there : b < m.blocks
    unfolding buffered
    there = facts.there

    fits : o + length run ≤ m.size
    unfolding buffered
    fits = facts.fits

    top : marks m st held b ≤ o
    unfolding buffered
    top = facts.above

    words : (o % 4 ≡ 0) × (length run % 4 ≡ 0)
    unfolding buffered
    words = (facts.o_pages, facts.n_pages)

    takes_it : 0 < length run → (c : ℕ) → c * m.batch < o + length run → o < c * m.batch + m.batch → Concerned (buffered m st held) b o (length run) c
    unfolding buffered
    takes_it z c lo hi = Concerned.takes z lo hi

    offset_is : o - start m bear b o ≡ o % m.batch
    offset_is = omega (arith, div-add-mod' o m.batch)

    module _ (near : Near st m.batch b o) (bytes : 0 < length run) (in_batch : o % m.batch + length run ≤ m.batch) where
      within : start m bear b o + m.batch ≤ m.size
      within = start_within m bear b o (omega (arith, fits))

      low : m.mark b ≤ start m bear b o
      low = near_low m bear b o held long st hold near top

      inside : o - start m bear b o + length run ≤ m.batch
      inside = omega (arith, offset_is)

      held_is : (new : List ℕ) → new ≡ over held (o % m.batch) run → new ≡ over held (o - start m bear b o) run
      held_is new e = e ∙ ap (λ (x : ℕ). over held x run) (sym offset_is)

      short : o % m.batch + length run < m.batch → o - start m bear b o + length run + 4 ≤ m.batch
      short h = omega (arith, h, offset_is, words, words_at m bear (start m bear b o) (start_starts m bear b o), bear.words, end_le m.batch (has_batch m bear) o)

      pub kept_none : o % m.batch + length run < m.batch → (new : List ℕ) → new ≡ over held (o % m.batch) run → used new ≡ 0
          → Passed (buffered m st held) b o run (buffered m Empty new) × Holding m Empty new
      kept_none h new e = keeps_none m bear b o held run long there within low inside st hold near top (short h) new (held_is new e)

      pub kept_some : o % m.batch + length run < m.batch → (new : List ℕ) → new ≡ over held (o % m.batch) run → 0 < used new
          → Passed (buffered m st held) b o run (buffered m (filling b (start m bear b o)) new) × Holding m (filling b (start m bear b o)) new
      kept_some h new e = keeps_some m bear b o held run long there within low inside st hold near top (short h) new (held_is new e)

      pub completes : o % m.batch + length run ≡ m.batch → (new : List ℕ) → new ≡ over held (o % m.batch) run
          → (r : Answer) (n : Meaning) (rest : List ℕ) → Sane n → Programmed m b (start m bear b o) new r n → Goes (buffered m st held) b o run r (buffered n Empty rest)
      completes h new e r n rest sane p =
          let s = start m bear b o in
          let e' = held_is new e in
          let l : length new ≡ m.batch = ap length e' ∙ long' m bear b o held run long there within low inside in
          let ends : (s + length new) / m.batch * m.batch ≡ s + length new = rw l (next_is m.batch (has_batch m bear) s (start_starts m bear b o)) in
          let fit : s + length new ≤ m.size = omega (arith, l, within) in
          let at_end : s + m.batch ≡ o + length run = omega (arith, offset_is, h, end_le m.batch (has_batch m bear) o) in
          let whole : length new % m.batch ≡ 0 = rw l (mod_self m.batch) in
          sent m bear held long b st hold o run (near_mine st m.batch b o near) there fits top s new ends (omega (arith, l, at_end)) fit
          (ap (λ (x : List ℕ). over (m.shown b) s (cells x)) e' ∙ lay_shown m bear b o held run long there within low inside st hold near top)
          (concerns new l at_end)
          r n rest sane
          (below_accepted m bear held long b st o (length run) facts s (length new) (start_starts m bear b o) whole fit low) p
        where
          concerns : (new : List ℕ) → length new ≡ m.batch → start m bear b o + m.batch ≡ o + length run → (c : ℕ) → 0 < length new → c * m.batch < start m bear b o + length new → start m bear b o < c * m.batch + m.batch → Concerned (buffered m st held) b o (length run) c
          concerns new l at_end c z lo hi = takes_it bytes c (omega (arith, l, at_end, lo))
              (⊎_elim (λ (k : c * m.batch < o / m.batch * m.batch). absurd (omega (arith, next_batch m.batch (has_batch m bear) c (o / m.batch) k, hi)))
              (λ (k : o / m.batch * m.batch ≤ c * m.batch). omega (arith, k, end_more m.batch (has_batch m bear) o)) (cases_lt (c * m.batch) (o / m.batch * m.batch)))

    -- whole batches go down as they are
    pub goes_down : st ≡ Empty → o % m.batch ≡ 0 → length run % m.batch ≡ 0 → (r : Answer) (n : Meaning) (rest : List ℕ) → Sane n → Programmed m b o run r n → Goes (buffered m st held) b o run r (buffered n Empty rest)
    goes_down e z w r n rest sane p =
        let s : o / m.batch * m.batch ≡ o = whole_batches o m.batch z in
        let ends : (o + length run) / m.batch * m.batch ≡ o + length run = whole_batches (o + length run) m.batch (mod_first o (length run) m.batch z ∙ w) in
        let near : Near st m.batch b o = rw e tt in
        sent m bear held long b st hold o run (near_mine st m.batch b o near) there fits top o run ends (omega arith) fits
        (ap (λ (x : State). over (shows m x held b) o (cells run)) (sym e))
        (λ c z lo hi. takes_it z c lo hi)
        r n rest sane
        (below_accepted m bear held long b st o (length run) facts o (length run) s w fits (omega (arith, near_low m bear b o held long st hold near top, end_le m.batch (has_batch m bear) o))) p

module _ (m : Meaning) (bear : Bearing m) (held : List ℕ) (long : length held ≡ m.batch) (b o : ℕ) where
  differs : (c s : ℕ) → Fills m c s held → c ≡ b → shown_at (buffered m (filling c s) held) b (s + used held - 1) ≡ settled_at (buffered m (filling c s) held) b (s + used held - 1) → ⊥
  unfolding buffered
  differs c s f q e =
      let l = last_held m bear held long b c s f in
      l.0 (ap (λ (x : ℕ). shown_at (buffered m (filling c s) held) x (s + used held - 1)) q
      ∙ (e ∙ bear.sane.settled_blank b (s + used held - 1) (rw (sym q) f.there) (omega (arith, ap m.mark q, f.above, f.some)) l.1))

  held_concerns : (c s : ℕ) → Fills m c s held → c ≡ b → (k : ℕ) → k * m.batch < s + length held → s < k * m.batch + m.batch → Concerned (buffered m (filling c s) held) b o 0 k
  unfolding buffered
  held_concerns c s f q k lo hi =
      let below : k * m.batch ≤ s / m.batch * m.batch =
      ⊎_elim (λ (j : s / m.batch * m.batch < k * m.batch). absurd (omega (arith, next_batch m.batch (has_batch m bear) (s / m.batch) k j, f.starts, long)))
      (λ j. j) (cases_lt (s / m.batch * m.batch) (k * m.batch)) in
      let above : s / m.batch * m.batch ≤ k * m.batch =
      ⊎_elim (λ (j : k * m.batch < s / m.batch * m.batch). absurd (omega (arith, next_batch m.batch (has_batch m bear) k (s / m.batch) j, f.starts)))
      (λ j. j) (cases_lt (k * m.batch) (s / m.batch * m.batch)) in
      Concerned.had (s + used held - 1) (omega (arith, below, f.starts, f.some)) (omega (arith, above, f.starts, f.some, f.short)) (differs c s f q)

  -- the batch of an earlier place goes down
  pub goes_first : (c s : ℕ) → Fills m c s held → program_refusal (buffered m (filling c s) held) b o 0 ≡ None → s + m.batch ≤ o
      → (r : Answer) (n : Meaning) (rest : List ℕ) → Sane n → Programmed m c s held r n → Goes (buffered m (filling c s) held) b o [] r (buffered n Empty rest)
  unfolding buffered
  goes_first c s f none far r n rest sane p =
      let a = accepted (buffered m (filling c s) held) b o 0 none in
      let q : c ≡ b = accepted_mine m bear held long b (filling c s) f o 0 a in
      let fit : o + 0 ≤ m.size = a.fits in
      let ends : (s + length held) / m.batch * m.batch ≡ s + length held = rw long (next_is m.batch (has_batch m bear) s f.starts) in
      let whole : length held % m.batch ≡ 0 = rw long (mod_self m.batch) in
      let lies_s : s + length held ≤ m.size = omega (arith, long, f.within) in
      let same : over (m.shown b) s (cells held) ≡ over (shows m (filling c s) held b) o [] =
      sym (over_none (shows m (filling c s) held b) o
      ∙ ((λ u. with_at m.shown (q u) (over (m.shown (q u)) s (cells held)) b) ∙ here m.shown b (over (m.shown b) s (cells held)))) in
      sent m bear held long b (filling c s) f o [] q a.there fit a.above s held ends (omega (arith, long, far)) lies_s same
      (λ k z lo hi. held_concerns c s f q k lo hi)
      r n rest sane
      (below_accepted m bear held long b (filling c s) o 0 a s (length held) f.starts whole lies_s (omega (arith, ap m.mark q, f.above)))
      (subst (λ (x : ℕ). Programmed m x s held r n) q p)

shape_programmed : (m : Meaning) (b o : ℕ) (run : List ℕ) (k : ℕ) → ((programmed m b o run k).page ≡ m.page) × ((programmed m b o run k).batch ≡ m.batch)
unfolding programmed
shape_programmed m b o run k = (refl, refl)

shape_broken : (m : Meaning) (b : ℕ) (left : List Cell) (k : ℕ → ℕ) → ((broken m b left k).page ≡ m.page) × ((broken m b left k).batch ≡ m.batch)
unfolding broken
shape_broken m b left k = (refl, refl)

-- a flash that took a run can still bear a write buffer
pub shape_after : (m n : Meaning) (b o : ℕ) (run : List ℕ) (r : Answer) → Programmed m b o run r n → (n.page ≡ m.page) × (n.batch ≡ m.batch)
shape_after m n b o run r (Programmed.refused e h _ q) = (ap (λ (x : Meaning). x.page) q, ap (λ (x : Meaning). x.batch) q)
shape_after m n b o run r (Programmed.goes h (Goes.done e q)) =
    let u = shape_programmed m b o run q.mark in
    (ap (λ (x : Meaning). x.page) q.is ∙ u.0, ap (λ (x : Meaning). x.batch) q.is ∙ u.1)
shape_after m n b o run r (Programmed.goes h (Goes.failed e f)) =
    let u = shape_broken m b f.left f.marks in
    (ap (λ (x : Meaning). x.page) f.is ∙ u.0, ap (λ (x : Meaning). x.batch) f.is ∙ u.1)

-- nothing is held of an array that is all 0xFF
pub blank_holds : (batch : ℕ) (held : List ℕ) → batch ≤ 512 → held ≡ replicate 512 255 → used (take batch held) ≡ 0
blank_holds batch held small h = rw (h, take-replicate {X = ℕ} batch 512 255 small) (used_blank batch)
