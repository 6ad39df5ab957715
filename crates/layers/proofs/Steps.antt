-- What a program does to a write buffer, step by step.
use Rattle.std.proofs.Common.{◌≡◌, ℕ, ◌+◌, ◌-◌, ◌*◌, ◌/◌, ◌%◌, ◌<◌, ◌≤◌, true, false, cond, List, ◌++◌, length, get_or, take, drop, None, sym, refl, ap, ◌∙◌, subst, ⊎_elim, div-add-mod', arith}
use lib.ListN.{length-map}
use Rattle.std.proofs.lemmas.List.{take-append-drop}
use Rattle.std.proofs.lemmas.Bool.{cases_lt, cases_eq, true≢false}
use Rattle.flash.specs.Cells.{Cell, byte, lost, cells, over}
use Rattle.flash.specs.Meaning.{Meaning, Sane, with_at, mixed, shown_at}
use Rattle.flash.specs.Refused.{other_held, program_refusal}
use Rattle.flash.specs.Rules.{Answer, programmed, broken, Concerned, Passed, Failed, Goes, Programmed}
use Rattle.flash.proofs.Accepting.{acceptable, some_other}
use Rattle.flash.proofs.Batches.{end_mono}
use Rattle.flash.proofs.Mixed.{again}
use Rattle.flash.proofs.Over.{by_place, here, elsewhere, over_below, over_back}
use Rattle.flash.proofs.Refusals.{Accepted, none_other}
use Rattle.flash.proofs.Settled.{nothing_held}
use Rattle.flash.specs.Extent.{used}
use Rattle.layers.specs.Batch.{filling, up}
use Rattle.layers.specs.Buffered.{shows, raised, marks, buffered, Fills, Holding, Bearing}
use Rattle.layers.specs.declared.buffer.State.{State}
use Rattle.layers.specs.declared.buffer.State.TheVariants.{Empty, Filling}
use Rattle.layers.specs.Sanity.Rows.{has_batch, held_long, held_in}
use Rattle.flash.proofs.Extents.{used_last}
use Rattle.layers.specs.Sanity.Rounding.{up_le, up_mono, up_at}

-- the batch that fills, if any, is of the block b
abbrev pub Mine : State → ℕ → Type 0
Mine Empty b = Unit {0}
Mine (Filling at) b = at.block ≡ b

-- then no other block has bytes held
pub mine_held : (m : Meaning) (bear : Bearing m) (held : List ℕ) (b : ℕ) (st : State) → Mine st b → other_held (buffered m st held) b ≡ false
unfolding buffered
mine_held m bear held b Empty q = none_other (buffered m Empty held) b (λ c h _. nothing_held m bear.sane bear.whole c h)
mine_held m bear held b (Filling at) q =
    none_other (buffered m (Filling at) held) b
    (λ d h ne. elsewhere m.shown at.block (over (m.shown at.block) at.offset (cells held)) d (λ e. ne (e ∙ q)) ∙ nothing_held m bear.sane bear.whole d h)

module _ (m : Meaning) (bear : Bearing m) (held : List ℕ) (long : length held ≡ m.batch) (b : ℕ) where
  pub mine_shown : (st : State) → Mine st b → (y : List Cell) (i : ℕ) → with_at (shows m st held) b y i ≡ with_at m.shown b y i
  mine_shown Empty q y i = refl
  mine_shown (Filling at) q y i =
      (λ t. with_at (with_at m.shown (q t) (over (m.shown (q t)) at.offset (cells held))) b y i) ∙ again m.shown b (over (m.shown b) at.offset (cells held)) y i

  pub mine_mark : (st : State) → Mine st b → (k i : ℕ) → with_at (marks m st held) b k i ≡ with_at (raised m) b k i
  mine_mark Empty q k i = refl
  mine_mark (Filling at) q k i =
      (λ t. with_at (with_at (raised m) (q t) (at.offset + used held)) b k i) ∙ again (raised m) b (at.offset + used held) k i

  -- a byte that is held
  pub last_held : (c s : ℕ) → Fills m c s held → (shown_at (buffered m (filling c s) held) c (s + used held - 1) ≡ byte 255 → ⊥) × (s + used held - 1 < m.size)
  unfolding buffered
  last_held c s f =
      let p = s + used held - 1 in
      let z : p - s ≡ used held - 1 = omega (arith, f.some) in
      let v : get_or (with_at m.shown c (over (m.shown c) s (cells held)) c) p lost ≡ byte (get_or held (used held - 1) 0) =
      ap (λ (x : List Cell). get_or x p lost) (here m.shown c (over (m.shown c) s (cells held)))
      ∙ (held_in m bear c s held long f.there f.starts f.within f.above p (omega (arith, f.some)) (omega (arith, f.some, f.short))
      ∙ ap (λ (n : ℕ). byte (get_or held n 0)) z) in
      ((λ e. used_last held f.some (let q : byte (get_or held (used held - 1) 0) ≡ byte 255 = sym v ∙ e in cc)), omega (arith, f.short, f.within))

  last_held_shown : (c s : ℕ) → Fills m c s held → get_or (shows m (filling c s) held c) (s + used held - 1) lost ≡ byte 255 → ⊥
  unfolding buffered
  last_held_shown c s f = (last_held c s f).0

  pub other_holds : (c s : ℕ) → Fills m c s held → (c ≡ b → ⊥) → other_held (buffered m (filling c s) held) b ≡ true
  unfolding buffered
  other_holds c s f ne =
      let l = last_held c s f in
      some_other (buffered m (filling c s) held) b c (s + used held - 1) f.there ne
      (λ e. l.0 (e ∙ bear.sane.settled_blank c (s + used held - 1) f.there (omega (arith, f.above, f.some)) l.1))

  pub accepted_mine : (st : State) → Holding m st held → (o n : ℕ) → Accepted (buffered m st held) b o n → Mine st b
  accepted_mine Empty h o n a = tt
  accepted_mine (Filling at) f o n a =
      ⊎_elim (λ e. e) (λ (ne : at.block ≡ b → ⊥). absurd (true≢false (sym (other_holds at.block at.offset f ne) ∙ a.alone))) (cases_eq at.block b)

  -- the flash below takes whole batches that are not below its mark
  pub below_accepted : (st : State) (o n : ℕ) → Accepted (buffered m st held) b o n → (t k : ℕ) → t / m.batch * m.batch ≡ t → k % m.batch ≡ 0 → t + k ≤ m.size → m.mark b ≤ t
      → program_refusal m b t k ≡ None
  unfolding buffered
  below_accepted st o n a t k e z fits low =
      acceptable m b t k (record {
        on = a.on;
        there = a.there;
        fits = fits;
        o_pages = rw bear.whole (omega (arith, div-add-mod' t m.batch, e));
        n_pages = rw bear.whole z;
        above = low;
        alone = none_other m b (λ c h _. nothing_held m bear.sane bear.whole c h);
      })

  -- a run of whole batches at t goes down for a run of the layer's at o
  module _ (st : State) (hold : Holding m st held) (o : ℕ) (run : List ℕ) (mine : Mine st b) (there : b < m.blocks) (fits : o + length run ≤ m.size) (top : marks m st held b ≤ o)
      (t : ℕ) (down : List ℕ) (ends : (t + length down) / m.batch * m.batch ≡ t + length down) (reach : t + length down ≤ o + length run)
      (lies_t : t + length down ≤ m.size)
      (same : over (m.shown b) t (cells down) ≡ over (shows m st held b) o (cells run))
      (concerns : (c : ℕ) → 0 < length down → c * m.batch < t + length down → t < c * m.batch + m.batch → Concerned (buffered m st held) b o (length run) c) where
    down_fits : t + length (cells down) ≤ length (m.shown b)
    down_fits = rw (length-map down byte, bear.sane.shown_length b there) lies_t

    back : (k : ℕ) → t + length down ≤ k → mixed k (over (m.shown b) t (cells down)) (m.settled b) ≡ over (m.shown b) t (cells down)
    back k h =
        rw (← nothing_held m bear.sane bear.whole b there, ← over_back (m.shown b) t (cells down) down_fits k (rw (length-map down byte) h))
        (take-append-drop k (over (m.shown b) t (cells down)))

    reach_end : t + length down ≤ (o + length run) / m.batch * m.batch
    reach_end = omega (arith, end_mono m.batch (has_batch m bear) (t + length down) (o + length run) reach, ends)

    programmed_over : (k : ℕ) (rest : List ℕ) → buffered (programmed m b t down k) Empty rest ≡ programmed (buffered m st held) b o run (up m.batch k)
    unfolding buffered programmed
    programmed_over k rest =
        let w = over (m.shown b) t (cells down) in
        let shown_is : (i : ℕ) → with_at m.shown b w i ≡ with_at (shows m st held) b (over (shows m st held b) o (cells run)) i =
        λ i. sym (mine_shown st mine w i) ∙ ap (λ (x : List Cell). with_at (shows m st held) b x i) same in
        let both : mixed ((t + length down) / m.batch * m.batch) w (m.settled b) ≡ mixed ((o + length run) / m.batch * m.batch) (over (shows m st held b) o (cells run)) (m.settled b) =
        back ((t + length down) / m.batch * m.batch) (omega (arith, ends))
        ∙ (sym (back ((o + length run) / m.batch * m.batch) reach_end)
        ∙ ap (λ (x : List Cell). mixed ((o + length run) / m.batch * m.batch) x (m.settled b)) same) in
        let mark_is : (i : ℕ) → up m.batch (with_at m.mark b k i) ≡ with_at (marks m st held) b (up m.batch k) i =
        λ i. by_place (λ v. up m.batch (cond v k (m.mark i)) ≡ cond v (up m.batch k) (raised m i)) i b (λ _. refl) (λ _. refl)
        ∙ sym (mine_mark st mine (up m.batch k) i) in
        λ u. record {
          blocks = m.blocks;
          size = m.size;
          page = 4;
          batch = m.batch;
          shown = λ i. shown_is i u;
          settled = λ i. with_at m.settled b (both u) i;
          mark = λ i. mark_is i u;
          power = m.power;
        }

    -- the mark does not fall
    kept_mark : (st : State) (hold : Holding m st held) (mine : Mine st b) (top : marks m st held b ≤ o) (w : List Cell) → w ≡ over (shows m st held b) o (cells run)
        → (k : ℕ) → m.mark b ≤ k → ((i : ℕ) → k ≤ i → i < m.size → get_or w i lost ≡ byte 255) → marks m st held b ≤ up m.batch k
    kept_mark Empty hold mine top w e k low blank = up_mono m.batch (has_batch m bear) (m.mark b) k low
    kept_mark (Filling at) f q top w e k low blank =
        let l = last_held at.block at.offset f in
        let p = at.offset + used held - 1 in
        let at_b : marks m (Filling at) held b ≡ at.offset + used held = (λ u. with_at (raised m) (q u) (at.offset + used held) b) ∙ here (raised m) b (at.offset + used held) in
        let fit : o + length (cells run) ≤ length (shows m (Filling at) held b) =
        rw (length-map run byte, shows_long at.block at.offset f q) fits in
        let v : get_or w p lost ≡ get_or (shows m (Filling at) held at.block) p lost =
        ap (λ (x : List Cell). get_or x p lost) e
        ∙ (over_below (shows m (Filling at) held b) o (cells run) fit p lost (omega (arith, top, at_b, f.some))
        ∙ ap (λ (x : ℕ). get_or (shows m (Filling at) held x) p lost) (sym q)) in
        ⊎_elim (λ (h : p < k). omega (arith, at_b, h, up_le m.batch (has_batch m bear) k, f.some))
        (λ (h : k ≤ p). absurd (over_last at.block at.offset f (sym v ∙ blank p h l.1)))
        (cases_lt p k)
      where
        shows_long : (c s : ℕ) → Fills m c s held → c ≡ b → length (shows m (filling c s) held b) ≡ m.size
        shows_long c s f q =
            ap (λ (x : ℕ). length (shows m (filling c s) held x)) (sym q)
            ∙ (ap length (here m.shown c (over (m.shown c) s (cells held)))
            ∙ held_long m bear c s held long f.there f.starts f.within f.above)

        over_last : (c s : ℕ) (f : Fills m c s held) → get_or (shows m (filling c s) held c) (s + used held - 1) lost ≡ byte 255 → ⊥
        over_last c s f e = last_held_shown c s f e

    sent_passed : (n : Meaning) (rest : List ℕ) → Sane n → Passed m b t down n → Passed (buffered m st held) b o run (buffered n Empty rest)
    unfolding buffered programmed
    sent_passed n rest sane p =
        let is : buffered n Empty rest ≡ programmed (buffered m st held) b o run (up m.batch p.mark) =
        ap (λ (x : Meaning). buffered x Empty rest) p.is ∙ programmed_over p.mark rest in
        let sane' : Sane (programmed m b t down p.mark) = subst Sane p.is sane in
        record {
          mark = up m.batch p.mark;
          from = kept_mark st hold mine top (over (m.shown b) t (cells down)) same p.mark p.from
              (λ i h l. ap (λ (x : List Cell). get_or x i lost) (sym (here m.shown b (over (m.shown b) t (cells down)))) ∙ sane'.shown_blank b i there (omega (arith, here m.mark b p.mark, h)) l);
          to = omega (arith, up_at m.batch (has_batch m bear) (t + length down) p.mark ends p.to, reach);
          is = is;
        }

    sent_failed : (n : Meaning) (rest : List ℕ) → Failed m b t down n → Failed (buffered m st held) b o run (buffered n Empty rest)
    unfolding buffered broken
    sent_failed n rest f = record {
      armed_before = f.armed_before;
      left = f.left;
      torn = record {
        at = f.torn.at;
        concerned = concern f.torn.at f.torn.concerned;
        spoilt = f.torn.spoilt;
        is_spoilt = f.torn.is_spoilt;
        is = f.torn.is ∙ ap (λ (x : List Cell). take (f.torn.at * m.batch) x ++ (f.torn.spoilt ++ drop (f.torn.at * m.batch + m.batch) (m.settled b))) same;
      };
      marks = λ i. up m.batch (f.marks i);
      is = ap (λ (x : Meaning). buffered x Empty rest) f.is;
    }
      where
        concern : (c : ℕ) → Concerned m b t (length down) c → Concerned (buffered m st held) b o (length run) c
        concern c (Concerned.takes z lo hi) = concerns c z lo hi
        concern c (Concerned.had i lo hi ne) =
            absurd (ne (ap (λ (x : List Cell). get_or x i lost) (nothing_held m bear.sane bear.whole b there)))

    pub sent : (r : Answer) (n : Meaning) (rest : List ℕ) → Sane n → program_refusal m b t (length down) ≡ None → Programmed m b t down r n → Goes (buffered m st held) b o run r (buffered n Empty rest)
    sent r n rest sane none (Programmed.refused e h _ _) = absurd (let z : ◌≡◌ {A = ℕ} 0 1 = cc in omega arith)
    sent r n rest sane none (Programmed.goes h (Goes.done e p)) = Goes.done e (sent_passed n rest sane p)
    sent r n rest sane none (Programmed.goes h (Goes.failed e f)) = Goes.failed e (sent_failed n rest f)
