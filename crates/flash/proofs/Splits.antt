-- A program of a run is that of its first part, and then that of the rest.
use Rattle.std.proofs.Common.{◌≡◌, ℕ, ◌+◌, ◌*◌, ◌<◌, ◌≤◌, ◌⊎◌, List, ◌++◌, length, get_or, take, drop, sym, ap, ◌∙◌, subst, inl, inr, ⊎_elim, arith, length-append}
use mathlib.Core.List.{map-append}
use lib.ListN.{length-map}
use Rattle.std.proofs.lemmas.Bool.{cases_lt}
use Rattle.std.proofs.lemmas.List.{get_or_past}
use Rattle.flash.specs.Cells.{Cell, byte, lost, cells, over}
use Rattle.flash.specs.Meaning.{Meaning, Sane, off, with_at, mixed, shown_at, settled_at, batch_end}
use Rattle.flash.specs.Rules.{Answer, meant, programmed, broken, Concerned, Torn, Passed, Failed, Goes}
use Rattle.flash.proofs.Batches.{end_le, end_mono}
use Rattle.flash.proofs.Mixed.{again, mixed_length, mixed_below, mixed_above, mixed_back}
use Rattle.flash.proofs.Over.{here, over_length, over_below, over_above, over_front, over_twice}

module _ (m : Meaning) (b o : ℕ) (xs ys : List ℕ) (sane : Sane m) (there : b < m.blocks) (fits : o + (length xs + length ys) ≤ m.size) where
  long_xs : o + length (cells xs) ≤ length (m.shown b)
  long_xs = rw (length-map xs byte, sane.shown_length b there) (omega arith)

  meant_long : length (meant m b o xs) ≡ m.size
  meant_long = over_length (m.shown b) o (cells xs) long_xs ∙ sane.shown_length b there

  lay_both : over (meant m b o xs) (o + length xs) (cells ys) ≡ meant m b o (xs ++ ys)
  lay_both =
      rw (map-append byte xs ys)
      (ap (λ (n : ℕ). over (meant m b o xs) (o + n) (cells ys)) (sym (length-map xs byte))
      ∙ over_twice (m.shown b) o (cells xs) (cells ys)
      (rw (length-map xs byte, length-map ys byte, sane.shown_length b there) (omega arith)))

  sum : o + length xs + length ys ≡ o + length (xs ++ ys)
  sum = simp length-append (omega arith)

  module _ (k : ℕ) where
    abbrev first : Meaning
    first = programmed m b o xs k

    first_end : ℕ
    first_end = batch_end m (o + length xs)

    meant_both : meant first b (o + length xs) ys ≡ meant m b o (xs ++ ys)
    unfolding programmed
    meant_both = ap (λ (s : List Cell). over s (o + length xs) (cells ys)) (here m.shown b (meant m b o xs)) ∙ lay_both

    settled_first : first.settled b ≡ mixed first_end (meant m b o xs) (m.settled b)
    unfolding programmed first_end
    settled_first = here m.settled b _

    shown_first : first.shown b ≡ meant m b o xs
    unfolding programmed
    shown_first = here m.shown b _

    first_low : first_end ≤ o + length xs
    unfolding first_end
    first_low = end_le m.batch sane.some_batch (o + length xs)

    same_long : length (meant m b o xs) ≡ length (m.settled b)
    same_long = meant_long ∙ sym (sane.settled_length b there)

    settled_back : (n : ℕ) → first_end ≤ n → drop n (first.settled b) ≡ drop n (m.settled b)
    settled_back n h = rw settled_first (mixed_back first_end (meant m b o xs) (m.settled b) same_long n h (omega (arith, first_low, meant_long)))

    programmed_both : (k' : ℕ) → programmed first b (o + length xs) ys k' ≡ programmed m b o (xs ++ ys) k'
    unfolding programmed
    programmed_both k' =
        let e1 = batch_end m (o + length xs) in
        let e2 = batch_end m (o + length (xs ++ ys)) in
        let w = meant_both in
        let back : drop e2 (with_at m.settled b (mixed e1 (meant m b o xs) (m.settled b)) b) ≡ drop e2 (m.settled b) =
        rw here (mixed_back e1 (meant m b o xs) (m.settled b) same_long e2
        (end_mono m.batch sane.some_batch (o + length xs) (o + length (xs ++ ys)) (omega (arith, sum)))
        (omega (arith, end_le m.batch sane.some_batch (o + length xs), meant_long))) in
        let low : mixed (batch_end m (o + length xs + length ys)) (meant first b (o + length xs) ys) (with_at m.settled b (mixed e1 (meant m b o xs) (m.settled b)) b)
        ≡ mixed e2 (meant m b o (xs ++ ys)) (m.settled b) =
        rw sum (ap (λ (s : List Cell). take e2 s ++ drop e2 (with_at m.settled b (mixed e1 (meant m b o xs) (m.settled b)) b)) w
        ∙ ap (λ (s : List Cell). take e2 (meant m b o (xs ++ ys)) ++ s) back) in
        let shows : (i : ℕ) → with_at (with_at m.shown b (meant m b o xs)) b (meant first b (o + length xs) ys) i ≡ with_at m.shown b (meant m b o (xs ++ ys)) i =
        λ i. again m.shown b _ _ i ∙ ap (λ (s : List Cell). with_at m.shown b s i) w in
        let settles : (i : ℕ) → with_at (with_at m.settled b (mixed e1 (meant m b o xs) (m.settled b))) b (mixed (batch_end m (o + length xs + length ys)) (meant first b (o + length xs) ys) (with_at m.settled b (mixed e1 (meant m b o xs) (m.settled b)) b)) i
        ≡ with_at m.settled b (mixed e2 (meant m b o (xs ++ ys)) (m.settled b)) i =
        λ i. again m.settled b _ _ i ∙ ap (λ (s : List Cell). with_at m.settled b s i) low in
        λ t. record {
          blocks = m.blocks;
          size = m.size;
          page = m.page;
          batch = m.batch;
          shown = λ i. shows i t;
          settled = λ i. settles i t;
          mark = λ i. again m.mark b k k' i t;
          power = m.power;
        }

    broken_both : (left : List Cell) (marks : ℕ → ℕ) → broken first b left marks ≡ broken m b left marks
    unfolding programmed broken
    broken_both left marks =
        let w = mixed (batch_end m (o + length xs)) (meant m b o xs) (m.settled b) in
        λ t. record {
          blocks = m.blocks;
          size = m.size;
          page = m.page;
          batch = m.batch;
          shown = λ i. again m.settled b w left i t;
          settled = λ i. again m.settled b w left i t;
          mark = marks;
          power = off;
        }

    -- a batch that the second part concerns is one that the whole concerns, and none of its bytes were settled by the first
    module _ (c : ℕ) where
      byte_was : (i : ℕ) → i < m.size → (i < o) ⊎ (o + length xs ≤ i) → shown_at first b i ≡ shown_at m b i
      byte_was i h =
          ⊎_elim
          (λ (l : i < o). ap (λ (s : List Cell). get_or s i lost) shown_first ∙ over_below (m.shown b) o (cells xs) long_xs i lost l)
          (λ (l : o + length xs ≤ i). ap (λ (s : List Cell). get_or s i lost) shown_first ∙ over_above (m.shown b) o (cells xs) long_xs i lost (omega (arith, length-map xs byte)))

      settled_below : (i : ℕ) → i < m.size → i < first_end → shown_at first b i ≡ settled_at first b i
      settled_below i h l =
          ap (λ (s : List Cell). get_or s i lost) shown_first
          ∙ (sym (mixed_below first_end (meant m b o xs) (m.settled b) same_long i lost l (omega (arith, meant_long)))
          ∙ sym (ap (λ (s : List Cell). get_or s i lost) settled_first))

      settled_above : (i : ℕ) → first_end ≤ i → settled_at first b i ≡ settled_at m b i
      settled_above i l =
          ap (λ (s : List Cell). get_or s i lost) settled_first
          ∙ mixed_above first_end (meant m b o xs) (m.settled b) same_long i lost l (omega (arith, first_low, meant_long))

      past : (i : ℕ) → m.size ≤ i → shown_at first b i ≡ settled_at first b i
      past i h =
          ap (λ (s : List Cell). get_or s i lost) shown_first
          ∙ (get_or_past (meant m b o xs) i lost (omega (arith, meant_long))
          ∙ sym (ap (λ (s : List Cell). get_or s i lost) settled_first
          ∙ get_or_past (mixed first_end (meant m b o xs) (m.settled b)) i lost
          (omega (arith, mixed_length first_end (meant m b o xs) (m.settled b) same_long, sane.settled_length b there))))

      differs : (i : ℕ) → (shown_at first b i ≡ settled_at first b i → ⊥) → (i < m.size) × (first_end ≤ i)
      differs i ne =
          let h : i < m.size = ⊎_elim (λ l. l) (λ (l : m.size ≤ i). absurd (ne (past i l))) (cases_lt i m.size) in
          (h, ⊎_elim (λ (l : i < first_end). absurd (ne (settled_below i h l))) (λ l. l) (cases_lt i first_end))

      concerned_both : Concerned first b (o + length xs) (length ys) c → Concerned m b o (length (xs ++ ys)) c × (first_end ≤ c * m.batch + m.batch)
      unfolding programmed
      concerned_both (Concerned.had i lo hi ne) =
          let d = differs i ne in
          let out : (i < o) ⊎ (o + length xs ≤ i) → Concerned m b o (length (xs ++ ys)) c =
          λ w. Concerned.had i lo hi (λ e. ne (byte_was i d.0 w ∙ (e ∙ sym (settled_above i d.1)))) in (
            ⊎_elim (λ (l : i < o). out (inl l))
                (λ (l : o ≤ i). ⊎_elim (λ (k : i < o + length xs). Concerned.takes (omega (arith, sum)) (omega (arith, sum)) (omega arith)) (λ k. out (inr k)) (cases_lt i (o + length xs)))
                (cases_lt i o),
            omega (arith, d.1),
          )
      concerned_both (Concerned.takes some lo hi) =
          (Concerned.takes (omega (arith, sum)) (omega (arith, sum)) (omega arith), omega (arith, first_low))

    torn_both : (left : List Cell) → Torn first b (o + length xs) ys left → Torn m b o (xs ++ ys) left
    unfolding programmed
    torn_both left t =
        let c = concerned_both t.at t.concerned in
        record {
          at = t.at;
          concerned = c.0;
          spoilt = t.spoilt;
          is_spoilt = t.is_spoilt;
          is = t.is ∙ (ap (λ (s : List Cell). take (t.at * m.batch) s ++ (t.spoilt ++ drop (t.at * m.batch + m.batch) (first.settled b))) meant_both
              ∙ ap (λ (s : List Cell). take (t.at * m.batch) (meant m b o (xs ++ ys)) ++ (t.spoilt ++ s)) (settled_back (t.at * m.batch + m.batch) c.1));
        }

    failed_both : (n : Meaning) → Failed first b (o + length xs) ys n → Failed m b o (xs ++ ys) n
    unfolding programmed
    failed_both n f = record {
      armed_before = f.armed_before;
      left = f.left;
      torn = torn_both f.left f.torn;
      marks = f.marks;
      is = f.is ∙ broken_both f.left f.marks;
    }

    passed_both : (n : Meaning) → m.mark b ≤ k → Passed first b (o + length xs) ys n → Passed m b o (xs ++ ys) n
    unfolding programmed
    passed_both n low p = record {
      mark = p.mark;
      from = omega (arith, p.from, here m.mark b k);
      to = omega (arith, p.to, sum);
      is = p.is ∙ programmed_both p.mark;
    }

  -- done as far as the first part goes, and then as the second part goes
  pub then_goes : (m' n : Meaning) (r : Answer) → Passed m b o xs m' → Goes m' b (o + length xs) ys r n → Goes m b o (xs ++ ys) r n
  then_goes m' n r p =
      subst (λ (x : Meaning). Goes x b (o + length xs) ys r n → Goes m b o (xs ++ ys) r n) (sym p.is)
      (λ g. go p.mark p.from g)
    where
      go : (k : ℕ) → m.mark b ≤ k → Goes (programmed m b o xs k) b (o + length xs) ys r n → Goes m b o (xs ++ ys) r n
      go k low (Goes.done e q) = Goes.done e (passed_both k n low q)
      go k low (Goes.failed e f) = Goes.failed e (failed_both k n f)

  -- failed in the first part
  pub first_failed : (n : Meaning) → m.mark b ≤ o → Failed m b o xs n → Failed m b o (xs ++ ys) n
  first_failed n low f = record
      { armed_before = f.armed_before; left = f.left; torn = torn_first f.torn; marks = f.marks; is = f.is }
    where
      near : (c : ℕ) → Concerned m b o (length xs) c → c * m.batch ≤ o + length xs
      near c (Concerned.takes some lo hi) = omega arith
      near c (Concerned.had i lo hi ne) =
          ⊎_elim
          (λ (l : o + length xs < c * m.batch).
          ⊎_elim
          (λ (h : i < m.size). absurd (ne (sane.shown_blank b i there (omega arith) h ∙ sym (sane.settled_blank b i there (omega arith) h))))
          (λ (h : m.size ≤ i). absurd (ne (get_or_past (m.shown b) i lost (omega (arith, sane.shown_length b there)) ∙ sym (get_or_past (m.settled b) i lost (omega (arith, sane.settled_length b there))))))
          (cases_lt i m.size))
          (λ l. l) (cases_lt (o + length xs) (c * m.batch))

      wider : (c : ℕ) → Concerned m b o (length xs) c → Concerned m b o (length (xs ++ ys)) c
      wider c (Concerned.had i lo hi ne) = Concerned.had i lo hi ne
      wider c (Concerned.takes some lo hi) = Concerned.takes (omega (arith, sum)) (omega (arith, sum)) hi

      torn_first : {left : List Cell} → Torn m b o xs left → Torn m b o (xs ++ ys) left
      torn_first t =
          let c = t.at * m.batch in
          let l : c ≤ o + length xs = near t.at t.concerned in
          let front : take c (meant m b o xs) ≡ take c (meant m b o (xs ++ ys)) =
          sym (over_front (meant m b o xs) (o + length xs) (cells ys) (omega (arith, meant_long, length-map ys byte)) c l)
          ∙ ap (λ (s : List Cell). take c s) lay_both in
          record {
            at = t.at;
            concerned = wider t.at t.concerned;
            spoilt = t.spoilt;
            is_spoilt = t.is_spoilt;
            is = t.is ∙ ap (λ (s : List Cell). s ++ (t.spoilt ++ drop (c + m.batch) (m.settled b))) front;
          }
