-- Bytes over into the batch of their place.
use Rattle.std.proofs.Common.{◌≡◌, ℕ, ◌+◌, ◌-◌, ◌*◌, ◌/◌, ◌<◌, ◌≤◌, eqb, List, length, get_or, sym, refl, ap, ◌∙◌, subst, ⊎_elim, mul-div_cancel, arith}
use lib.ListN.{length-map}
use Rattle.std.proofs.lemmas.List.{get_or-map, ext_get_or, take-append-drop}
use Rattle.std.proofs.lemmas.Bool.{cases_lt}
use Rattle.flash.specs.Cells.{Cell, byte, lost, cells, over}
use Rattle.flash.specs.Meaning.{Meaning, with_at, mixed}
use Rattle.flash.specs.Rules.{programmed, Passed}
use Rattle.flash.proofs.Batches.{end_le, next_batch}
use Rattle.flash.proofs.Mixed.{unchanged}
use Rattle.flash.proofs.Over.{here, over_length, over_below, over_in, over_above, over_front}
use Rattle.flash.proofs.Settled.{nothing_held}
use Rattle.flash.specs.Extent.{used}
use Rattle.layers.specs.Batch.{filling}
use Rattle.layers.specs.Buffered.{shows, raised, marks, buffered, Fills, Holding, Bearing, Near}
use Rattle.layers.specs.declared.buffer.State.{State}
use Rattle.layers.specs.declared.buffer.State.TheVariants.{Empty, Filling}
use Rattle.layers.specs.Sanity.Rows.{has_batch, size_whole, lies, held_long, held_below, held_in, held_above, held_none}
use Rattle.layers.proofs.Steps.{Mine, mine_shown, mine_mark}
use Rattle.flash.proofs.Extents.{extent_le, unused, used_last, used_below, used_above}
use Rattle.layers.specs.Sanity.Rounding.{up_le, up_start, start_is}

pub near_mine : (st : State) (g b o : ℕ) → Near st g b o → Mine st b
near_mine Empty g b o q = tt
near_mine (Filling at) g b o q = q.0

module _ (m : Meaning) (bear : Bearing m) (b o : ℕ) where
  abbrev pub start : ℕ
  start = o / m.batch * m.batch

  pub start_starts : start / m.batch * m.batch ≡ start
  start_starts = ap (λ (x : ℕ). x * m.batch) (mul-div_cancel (o / m.batch) (has_batch m bear))

  -- the batch of a place below the block's end ends in the block
  pub start_within : o < m.size → start + m.batch ≤ m.size
  start_within h =
      omega (arith, next_batch m.batch (has_batch m bear) (o / m.batch) (m.size / m.batch) (omega (arith, size_whole m bear, end_le m.batch (has_batch m bear) o)), size_whole m bear)

  module _ (held : List ℕ) (long : length held ≡ m.batch) where
    pub near_low : (st : State) → Holding m st held → Near st m.batch b o → marks m st held b ≤ o → m.mark b ≤ start
    near_low Empty h q top = omega (arith, up_start m.batch (has_batch m bear) (m.mark b) o top, up_le m.batch (has_batch m bear) (m.mark b))
    near_low (Filling at) f q top = omega (arith, ap m.mark q.0, f.above, q.1)

    near_used : (st : State) → Holding m st held → Near st m.batch b o → marks m st held b ≤ o → used held ≤ o - start
    near_used Empty h q top = omega (arith, h)
    near_used (Filling at) f q top =
        omega (arith, (λ u. with_at (raised m) (q.0 u) (at.offset + used held) b) ∙ here (raised m) b (at.offset + used held), q.1)

    near_mark : (st : State) → Holding m st held → Near st m.batch b o → marks m st held b ≤ o → marks m st held b ≤ start + used held
    near_mark Empty h q top = omega (arith, up_start m.batch (has_batch m bear) (m.mark b) o top)
    near_mark (Filling at) f q top =
        omega (arith, (λ u. with_at (raised m) (q.0 u) (at.offset + used held) b) ∙ here (raised m) b (at.offset + used held), q.1)

    near_empty : (st : State) → Holding m st held → used held ≡ 0 → marks m st held b ≡ raised m b
    near_empty Empty h z = refl
    near_empty (Filling at) f z = absurd (omega (arith, f.some))

    near_shows : (st : State) → Holding m st held → Near st m.batch b o → b < m.blocks → start + m.batch ≤ m.size → m.mark b ≤ start
        → (i : ℕ) → shows m st held i ≡ with_at m.shown b (over (m.shown b) start (cells held)) i
    near_shows Empty h q there within low i =
        sym (unchanged m.shown b (over (m.shown b) start (cells held)) (held_none m bear b start held long there start_starts within low h) i)
    near_shows (Filling at) f q there within low i =
        λ u. with_at m.shown (q.0 u) (over (m.shown (q.0 u)) (q.1 u) (cells held)) i

  -- bytes over buffered the held ones
  module _ (held run : List ℕ) (long : length held ≡ m.batch) (there : b < m.blocks) (within : start + m.batch ≤ m.size) (low : m.mark b ≤ start)
      (in_batch : o - start + length run ≤ m.batch) where
    abbrev held' : List ℕ
    held' = over held (o - start) run

    fits_held : o - start + length run ≤ length held
    fits_held = omega (arith, long)

    pub long' : length held' ≡ m.batch
    long' = over_length held (o - start) run fits_held ∙ long

    abbrev L : List Cell
    L = over (m.shown b) start (cells held)

    from : start ≤ o
    from = end_le m.batch (has_batch m bear) o

    L_long : length L ≡ m.size
    L_long = held_long m bear b start held long there start_starts within low

    fits_L : o + length (cells run) ≤ length L
    fits_L = rw (length-map run byte, L_long) (omega (arith, from))

    lay_inside : over (m.shown b) start (cells held') ≡ over L o (cells run)
    lay_inside =
        ext_get_or lost (over (m.shown b) start (cells held')) (over L o (cells run))
        (held_long m bear b start held' long' there start_starts within low ∙ sym (over_length L o (cells run) fits_L ∙ L_long))
        (λ i _.
        let hb = held_below m bear b start held long there start_starts within low i in
        let hi = held_in m bear b start held long there start_starts within low i in
        let ha = held_above m bear b start held long there start_starts within low i in
        let hb' = held_below m bear b start held' long' there start_starts within low i in
        let hi' = held_in m bear b start held' long' there start_starts within low i in
        let ha' = held_above m bear b start held' long' there start_starts within low i in
        ⊎_elim
        (λ (k : i < start). hb' k ∙ sym (over_below L o (cells run) fits_L i lost (omega (arith, from)) ∙ hb k))
        (λ (k : start ≤ i). ⊎_elim
        (λ (j : i < start + m.batch).
        hi' k j ∙ ⊎_elim
        (λ (n : i < o).
        ap byte (over_below held (o - start) run fits_held (i - start) 0 (omega arith)) ∙ sym (over_below L o (cells run) fits_L i lost n ∙ hi k j))
        (λ (n : o ≤ i). ⊎_elim
        (λ (e : i < o + length run).
        let z : i - start - (o - start) ≡ i - o = omega (arith, from) in
        ap byte (over_in held (o - start) run fits_held (i - start) 0 (omega arith) (omega arith) ∙ ap (λ (x : ℕ). get_or run x 0) z)
        ∙ sym (over_in L o (cells run) fits_L i lost n (omega (arith, length-map run byte)) ∙ get_or-map byte run (i - o) 0 lost (omega arith)))
        (λ (e : o + length run ≤ i).
        ap byte (over_above held (o - start) run fits_held (i - start) 0 (omega (arith, from)))
        ∙ sym (over_above L o (cells run) fits_L i lost (omega (arith, length-map run byte)) ∙ hi k j))
        (cases_lt i (o + length run)))
        (cases_lt i o))
        (λ (j : start + m.batch ≤ i). ha' j ∙ sym (over_above L o (cells run) fits_L i lost (omega (arith, length-map run byte, from)) ∙ ha j))
        (cases_lt i (start + m.batch)))
        (cases_lt i start))

    used_grows : used held ≤ o - start → used held ≤ used held'
    used_grows h =
        ⊎_elim
        (λ (z : 0 < used held).
        omega (
          arith,
          used_above held' (used held - 1) (omega (arith, long', extent_le (λ x. eqb x 255) held, long))
              (λ e. used_last held z (sym (over_below held (o - start) run fits_held (used held - 1) 0 (omega arith)) ∙ e)),
        ))
        (λ (z : used held ≤ 0). omega arith) (cases_lt 0 (used held))

    used_ends : used held ≤ o - start → used held' ≤ o - start + length run
    used_ends h =
        used_below held' (o - start + length run)
        (λ i k l. over_above held (o - start) run fits_held i 0 k ∙ unused held i (omega arith) (omega (arith, long, long')))

    module _ (st : State) (hold : Holding m st held) (near : Near st m.batch b o) (top : marks m st held b ≤ o) where
      shown_was : (i : ℕ) → shows m st held i ≡ with_at m.shown b L i
      shown_was = near_shows held long st hold near there within low

      pub lay_shown : over (m.shown b) start (cells held') ≡ over (shows m st held b) o (cells run)
      lay_shown = lay_inside ∙ ap (λ (x : List Cell). over x o (cells run)) (sym (shown_was b ∙ here m.shown b L))

      -- a run that stays within the batch
      module _ (short : o - start + length run < m.batch) (st' : State) (near' : Near st' m.batch b o) (hold' : Holding m st' held')
          (high : marks m st' held' b ≤ o + length run) (rises : marks m st held b ≤ marks m st' held' b) where
        stays : (held'' : List ℕ) → held'' ≡ held' → buffered m st' held'' ≡ programmed (buffered m st held) b o run (marks m st' held' b)
        unfolding buffered programmed
        stays held'' e =
            let L' = over (m.shown b) start (cells held') in
            let y = over (shows m st held b) o (cells run) in
            let z : (o + length run) / m.batch * m.batch ≡ start = start_is m.batch (has_batch m bear) start (o + length run) start_starts (omega (arith, from)) (omega (arith, from)) in
            let shown_is : (i : ℕ) → shows m st' held' i ≡ with_at (shows m st held) b y i =
            λ i. near_shows held' long' st' hold' near' there within low i
            ∙ (sym (mine_shown m bear held long b st (near_mine st m.batch b o near) L' i) ∙ ap (λ (x : List Cell). with_at (shows m st held) b x i) lay_shown) in
            let keeps : mixed ((o + length run) / m.batch * m.batch) y (m.settled b) ≡ m.settled b =
            rw (z, ← lay_shown, over_front (m.shown b) start (cells held') (lies m bear b start held' long' there start_starts within low) start (omega arith), nothing_held m bear.sane bear.whole b there)
            (take-append-drop start (m.settled b)) in
            let settled_is : (i : ℕ) → m.settled i ≡ with_at m.settled b (mixed ((o + length run) / m.batch * m.batch) y (m.settled b)) i =
            λ i. sym (unchanged m.settled b _ keeps i) in
            let k = marks m st' held' b in
            let mark_is : (i : ℕ) → marks m st' held' i ≡ with_at (marks m st held) b k i =
            λ i. sym (unchanged (marks m st' held') b k refl i)
            ∙ (mine_mark m bear held' long' b st' (near_mine st' m.batch b o near') k i
            ∙ sym (mine_mark m bear held long b st (near_mine st m.batch b o near) k i)) in
            ap (λ (x : List ℕ). buffered m st' x) e
            ∙ (λ u. record {
              blocks = m.blocks;
              size = m.size;
              page = 4;
              batch = m.batch;
              shown = λ i. shown_is i u;
              settled = λ i. settled_is i u;
              mark = λ i. mark_is i u;
              power = m.power;
            })

        stays_passed : (held'' : List ℕ) → held'' ≡ held' → Passed (buffered m st held) b o run (buffered m st' held'')
        unfolding buffered
        stays_passed held'' e = record { mark = marks m st' held' b; from = rises; to = high; is = stays held'' e }

      -- what the state is to be, by whether a byte is not 0xFF
      module _ (short : o - start + length run + 4 ≤ m.batch) where
        grows : used held ≤ used held'
        grows = used_grows (near_used held long st hold near top)

        ended : used held' ≤ o - start + length run
        ended = used_ends (near_used held long st hold near top)

        pub keeps_none : (held'' : List ℕ) → held'' ≡ held' → used held'' ≡ 0 → Passed (buffered m st held) b o run (buffered m Empty held'') × Holding m Empty held''
        keeps_none held'' e z =
            let z' : used held' ≡ 0 = ap used (sym e) ∙ z in
            let q = near_empty held long st hold (omega (arith, grows, z')) in
            (stays_passed (omega arith) Empty tt z' (omega (arith, q, top)) (omega (arith, q)) held'' e, z)

        pub keeps_some : (held'' : List ℕ) → held'' ≡ held' → 0 < used held'' → Passed (buffered m st held) b o run (buffered m (filling b start) held'') × Holding m (filling b start) held''
        keeps_some held'' e z =
            let z' : 0 < used held' = omega (arith, z, ap used e) in
            let f : Fills m b start held' = record { there = there; starts = start_starts; within = within; above = low; some = z'; short = omega (arith, ended) } in
            let k = here (raised m) b (start + used held') in (
              stays_passed (omega arith) (filling b start) (refl, refl) f (omega (arith, k, ended, from)) (omega (arith, k, near_mark held long st hold near top, grows)) held'' e,
              subst (λ (x : List ℕ). Fills m b start x) (sym e) f,
            )
