-- What a read of a write buffer finds.
use Rattle.std.proofs.Common.{◌≡◌, ℕ, zero, suc, ◌+◌, ◌<◌, ◌≤◌, Bool, true, false, cond, not, List, [], ◌∷◌, length, get_or, take, Some, None, Ok, Err, Option, sym, refl, ap, ◌∙◌, subst, ⊎_elim, arith}
use lib.ListN.{length-map}
use Rattle.std.proofs.lemmas.Bool.{cases_Bool, true≢false, false≢true}
use Rattle.flash.specs.Cells.{Cell, byte, lost, cells, over}
use Rattle.flash.specs.Meaning.{Meaning}
use Rattle.flash.specs.Refused.{first, place_refusal, readable, part, read_refusal}
use Rattle.flash.specs.Rules.{Fetched}
use Rattle.flash.specs.declared.refusal.Refusal.{Refusal}
use Rattle.flash.specs.declared.refusal.Refusal.TheVariants.{Unreadable}
use Rattle.flash.proofs.Over.{by_place, here}
use Rattle.flash.proofs.Refusals.{place_inside, not_some, read_by_place, read_past_place}
use Rattle.layers.specs.Batch.{begins}
use Rattle.layers.specs.Buffered.{shows, buffered, Fills, Holding, Bearing, Sound}
use Rattle.layers.specs.declared.buffer.State.{State}
use Rattle.layers.specs.declared.buffer.State.TheVariants.{Empty, Filling}
use Rattle.layers.proofs.Cover.{part_long, part_at}
use Rattle.layers.specs.Sanity.{batch_long}
use Rattle.layers.specs.Sanity.Rows.{byte_lost, held_long, lost_under, lost_over}
use Rattle.layers.proofs.Refuse.{same_place}
use Rattle.layers.proofs.Turns.{begins_at, none_shown}

readable_at : (xs : List Cell) → readable xs ≡ true → (i : ℕ) → i < length xs → get_or xs i lost ≡ lost → ⊥
readable_at [] h i l e = omega arith
readable_at (byte x ∷ xs) h zero l e = byte_lost e
readable_at (byte x ∷ xs) h (suc i) l e = readable_at xs h i (omega arith) e
readable_at (lost ∷ xs) h i l e = false≢true h

all_readable : (xs : List Cell) → ((i : ℕ) → i < length xs → get_or xs i lost ≡ lost → ⊥) → readable xs ≡ true
all_readable [] f = refl
all_readable (byte x ∷ xs) f = all_readable xs (λ i l. f (suc i) (omega arith))
all_readable (lost ∷ xs) f = absurd (f 0 (omega arith) refl)

-- whether a part can be read does not hang on held bytes
module _ (m : Meaning) (bear : Bearing m) (held : List ℕ) (long : length held ≡ m.batch) (b o n : ℕ) (there : b < m.blocks) (fits : o + n ≤ m.size) where
  below_fits : o + n ≤ length (m.shown b)
  below_fits = rw (bear.sane.shown_length b there) fits

  shown_long : (st : State) → Holding m st held → length (shows m st held b) ≡ m.size
  shown_long Empty h = bear.sane.shown_length b there
  shown_long (Filling at) f =
      by_place (λ v. length (cond v (over (m.shown at.block) at.offset (cells held)) (m.shown b)) ≡ m.size) b at.block
      (λ _. held_long m bear at.block at.offset held long f.there f.starts f.within f.above) (λ _. bear.sane.shown_length b there)

  -- a place is lost in both or in none
  lost_both : (st : State) → Holding m st held → (i : ℕ) → i < m.size → (get_or (shows m st held b) i lost ≡ lost → get_or (m.shown b) i lost ≡ lost) × (get_or (m.shown b) i lost ≡ lost → get_or (shows m st held b) i lost ≡ lost)
  lost_both Empty h i l = ((λ e. e), (λ e. e))
  lost_both (Filling at) f i l =
      let row = over (m.shown at.block) at.offset (cells held) in
      by_place (λ v. (get_or (cond v row (m.shown b)) i lost ≡ lost → get_or (m.shown b) i lost ≡ lost) × (get_or (m.shown b) i lost ≡ lost → get_or (cond v row (m.shown b)) i lost ≡ lost)) b at.block
      (λ q.
      subst (λ (x : ℕ). (get_or row i lost ≡ lost → get_or (m.shown x) i lost ≡ lost) × (get_or (m.shown x) i lost ≡ lost → get_or row i lost ≡ lost)) (sym q) (
        lost_under m bear at.block at.offset held long f.there f.starts f.within f.above i l,
        lost_over m bear at.block at.offset held long f.there f.starts f.within f.above i l,
      ))
      (λ _. ((λ e. e), (λ e. e)))

  readable_same : (st : State) → Holding m st held → readable (part (shows m st held b) o n) ≡ readable (part (m.shown b) o n)
  readable_same st h =
      let S = shows m st held b in
      let X = m.shown b in
      let fitS : o + n ≤ length S = rw (shown_long st h) fits in
      ⊎_elim
      (λ (t : readable (part S o n) ≡ true).
      t ∙ sym (all_readable (part X o n) (λ i l e.
      let k : i < n = omega (arith, l, part_long X o n below_fits) in
      readable_at (part S o n) t i (omega (arith, k, part_long S o n fitS))
      (part_at S o n fitS i k ∙ (lost_both st h (o + i) (omega (arith, fits, k))).1 (sym (part_at X o n below_fits i k) ∙ e)))))
      (λ (t : readable (part S o n) ≡ false).
      ⊎_elim
      (λ (u : readable (part X o n) ≡ true).
      absurd (true≢false (sym (all_readable (part S o n) (λ i l e.
      let k : i < n = omega (arith, l, part_long S o n fitS) in
      readable_at (part X o n) u i (omega (arith, k, part_long X o n below_fits))
      (part_at X o n below_fits i k ∙ (lost_both st h (o + i) (omega (arith, fits, k))).0 (sym (part_at S o n fitS i k) ∙ e)))) ∙ t)))
      (λ (u : readable (part X o n) ≡ false). t ∙ sym u)
      (cases_Bool (readable (part X o n))))
      (cases_Bool (readable (part S o n)))

same_read : (m : Meaning) (bear : Bearing m) (st : State) (held : List ℕ) → length held ≡ m.batch → Holding m st held → (b o n : ℕ) → read_refusal (buffered m st held) b o n ≡ read_refusal m b o n
unfolding buffered
same_read m bear st held long hold b o n = go (place_refusal m b o n) refl
  where
    go : (x : Option Refusal) → place_refusal m b o n ≡ x → read_refusal (buffered m st held) b o n ≡ read_refusal m b o n
    go (Some e) h = read_by_place (buffered m st held) b o n e (same_place m st held b o n ∙ h) ∙ sym (read_by_place m b o n e h)
    go None h =
        let f = place_inside m b o n h in
        read_past_place (buffered m st held) b o n (same_place m st held b o n ∙ h)
        ∙ (ap (λ (t : Bool). first ((not t, Unreadable) ∷ [])) (readable_same m bear held long b o n f.there f.fits st hold)
        ∙ sym (read_past_place m b o n h))

none_place : (m : Meaning) (b o n : ℕ) → read_refusal m b o n ≡ None → place_refusal m b o n ≡ None
none_place m b o n h = go (place_refusal m b o n) refl
  where
    go : (x : Option Refusal) → place_refusal m b o n ≡ x → x ≡ None
    go (Some e) p = absurd (not_some (sym (read_by_place m b o n e p) ∙ h))
    go None p = refl

module _ {m : Meaning} {batch : ℕ} {st : State} {held : List ℕ} (s : Sound m batch st held) (b o : ℕ) (old : List ℕ) where
  same : read_refusal (buffered m st (take batch held)) b o (length old) ≡ read_refusal m b o (length old)
  same = same_read m s.bears st (take batch held) (batch_long s) s.holding b o (length old)

  pub looks_err : (e : Refusal) (new : List ℕ) → Fetched m b o old (Err e) new → Fetched (buffered m st (take batch held)) b o old (Err e) new
  looks_err e new (Fetched.refused d h q k) = Fetched.refused d (same ∙ h) q k
  looks_err e new (Fetched.done h q k) = absurd (let z : ◌≡◌ {A = ℕ} 0 1 = cc in omega arith)

  fetched : (new : List ℕ) → Fetched m b o old (Ok tt) new → (read_refusal m b o (length old) ≡ None) × (cells new ≡ part (m.shown b) o (length old))
  fetched new (Fetched.refused d h q k) = absurd (let z : ◌≡◌ {A = ℕ} 0 1 = cc in omega arith)
  fetched new (Fetched.done h q k) = (h, k)

  shown_same : (buffered m st (take batch held)).shown b ≡ m.shown b → (new : List ℕ) → Fetched m b o old (Ok tt) new → Fetched (buffered m st (take batch held)) b o old (Ok tt) new
  shown_same e new f = let g = fetched new f in Fetched.done (same ∙ g.0) refl (g.1 ∙ ap (λ (x : List Cell). part x o (length old)) (sym e))

  pub looks_none : None ≡ begins st b → (new : List ℕ) → Fetched m b o old (Ok tt) new → Fetched (buffered m st (take batch held)) b o old (Ok tt) new
  unfolding buffered
  looks_none h = shown_same (none_shown m (take batch held) b st h)

  pub looks_here : (t : ℕ) → Some t ≡ begins st b → (mid new : List ℕ) → Fetched m b o old (Ok tt) mid
      → ((xs : List Cell) → o + length mid ≤ length xs → t + length (take batch held) ≤ length xs → cells mid ≡ part xs o (length mid) → cells new ≡ part (over xs t (cells (take batch held))) o (length mid))
      → Fetched (buffered m st (take batch held)) b o old (Ok tt) new
  unfolding buffered
  looks_here t h mid new f cover =
      let e = begins_at st b t h in
      let g = fetched mid f in
      let p = place_inside m b o (length old) (none_place m b o (length old) g.0) in
      let fill : Fills m b t (take batch held) = subst (λ (x : State). Holding m x (take batch held)) e s.holding in
      let X_long = s.bears.sane.shown_length b p.there in
      let mid_long : length mid ≡ length old = sym (length-map mid byte) ∙ (ap length g.1 ∙ part_long (m.shown b) o (length old) (omega (arith, X_long, p.fits))) in
      let at_b : shows m st (take batch held) b ≡ over (m.shown b) t (cells (take batch held)) =
      ap (λ (x : State). shows m x (take batch held) b) e ∙ here m.shown b _ in
      Fetched.done (same ∙ g.0) refl
      (cover (m.shown b) (omega (arith, mid_long, X_long, p.fits)) (omega (arith, batch_long s, X_long, fill.within)) (g.1 ∙ ap (part (m.shown b) o) (sym mid_long))
      ∙ (ap (part (over (m.shown b) t (cells (take batch held))) o) mid_long ∙ ap (λ (x : List Cell). part x o (length old)) (sym at_b)))
