-- What failures of a flash leave, by the laws of rows.
use Rattle.std.proofs.Common.{◌≡◌, ℕ, zero, suc, ◌+◌, ◌*◌, ◌/◌, ◌%◌, ◌<◌, ◌≤◌, Bool, true, false, cond, eqb, List, [], ◌∷◌, ◌++◌, length, get_or, take, drop, sym, refl, ap, ◌∙◌, subst, ⊎_elim, append_assoc, append-nil, mul-le-mul_right, lt_of_mul-lt-mul_right, div-add-mod', div-mul-le_self, arith, length-drop, length-take}
use lib.ListN.{length-replicate}
use Rattle.std.proofs.lemmas.List.{append_cancel_left, ext_get_or, get_or-take, get_or_past, length-append, length-map, length-take-le, take-append-le, take_at, take-take}
use Rattle.std.proofs.lemmas.Bool.{eqb-true, cases_lt, cases_eq, ne_eqb, not-false, true≢false, false≢true}
use Rattle.flash.specs.Cells.{Cell, byte, lost, cells, blank}
use Rattle.flash.specs.Meaning.{Meaning, Sane, mixed, batch_end, shown_at, settled_at}
use Rattle.flash.specs.Refused.{same_cell, same_cells, holds, of_another, other_held}
use Rattle.flash.specs.Rules.{Answer, Spoilt, bytes, unreadable, Concerned, had, takes, Torn, Failed, Erased, refused, done, failed, Restarted, meant, programmed, broken, erased, restarted}
use Rattle.flash.proofs.Over.{here, elsewhere, over_length, over_front}
use Rattle.flash.proofs.Settled.{nothing_held}
use Rattle.flash.proofs.Refusals.{Accepted, accepted}
use Rattle.nodes.specs.Items.{Item, size}
use Rattle.nodes.specs.Walk.{walk_from, walk, marked, marker, end_of}
use Rattle.nodes.proofs.Walks.{item_at, none_at}
use Rattle.nodes.proofs.Marks.{marked_cells, cells_marked, marker_stands, marker_size, walk_marked, walk_bare}
use Rattle.encode.specs.Laid.{run, placed}
use Rattle.encode.proofs.Laying.{appends, opens, before, blank_none, end_grows, same_part}
use Rattle.losses.specs.Fair.{Fair}
use Rattle.losses.specs.Laws as cut
use Rattle.losses.specs.Left.{FirstPart, Leading, Kept, Finished, Synced}
use Rattle.losses.specs.Laws.{Lost, ProgramLoss, OpeningLoss, ProgramSpares, EraseLoss, RestartLoss, SyncedKept, SyncedProgram, ProgramFinishes, HeldFinished, UnheldFinished, RestartShows}
use Rattle.losses.proofs.Leaving.{left, leading}
use Rattle.losses.proofs.Keeping.{keeps}

-- ─── rows of which the walk is known ───

lost_of : (want got : List Cell) (list : List (ℕ × Item)) → length want ≡ length got → walk want ≡ list → Lost want list got
lost_of want got list l w =
    (w, λ f. subst (λ (i : List (ℕ × Item)). Leading (walk got) i) w (left want got l (subst (λ (i : List (ℕ × Item)). Fair want i got) (sym w) f)))

kept_of : (want got : List Cell) (k : ℕ) (list : List (ℕ × Item)) → length want ≡ length got → walk want ≡ list → take k want ≡ take k got → Kept k list (walk got)
kept_of want got k list l w e = subst (λ (i : List (ℕ × Item)). Kept k i (walk got)) w (keeps want got l k e)

blank_walk : (n : ℕ) → walk (blank n) ≡ []
blank_walk n = go (marked (blank n)) refl
  where
    go : (b : Bool) → marked (blank n) ≡ b → walk (blank n) ≡ []
    go false t = walk_bare _ t
    go true t = walk_marked _ t ∙ none_at _ 0 (blank_none n)

-- a block with the marker ends at twelve or later
end_marked : (xs : List Cell) → marked xs ≡ true → 12 ≤ end_of 0 (walk_from xs 0)
unfolding walk_from
end_marked xs t =
    let a = ap (end_of 0) (item_at xs 0 marker (marker_stands xs t)) in
    let b = end_grows (length xs) xs (0 + size marker) in
    omega (arith, marker_size)

-- the items of a block stand in every block that is the same up to their end
same_start : (xs ys : List Cell) (e : ℕ) → length xs ≡ length ys → end_of 0 (walk xs) ≡ e → take e xs ≡ take e ys → Leading (walk xs) (walk ys)
unfolding walk_from
same_start xs ys e l n s = leading (walk xs) (walk ys) (go (marked xs) refl)
  where
    go : (b : Bool) → marked xs ≡ b → FirstPart (walk xs) (walk ys)
    go false t = (walk ys, ap (λ i. i ++ walk ys) (sym (walk_bare xs t)))
    go true t =
        let w = walk_marked xs t in
        let h : 12 ≤ e = omega (arith, end_marked xs t, ap (end_of 0) w, n) in
        let t' = cells_marked ys (sym (same_part e xs ys s 0 12 (omega arith)) ∙ marked_cells xs t) in
        (walk_from ys e, walk_marked ys t' ∙ before xs ys l e s (length xs) 0 (ap (end_of 0) (sym w) ∙ n) ∙ ap (λ i. i ++ walk_from ys e) (sym w))

-- ─── batches ───

-- a multiple below another is a whole one below it
whole : (g a c : ℕ) → a * g < c * g → a * g + g ≤ c * g
whole g a c h = let l : a < c = lt_of_mul-lt-mul_right g h in omega (arith, mul-le-mul_right g (let k : suc a ≤ c = omega arith in k))

below : (g a c : ℕ) → a * g < c * g + g → a * g ≤ c * g
below g a c h = let l : a < suc c = lt_of_mul-lt-mul_right g (omega arith) in mul-le-mul_right g (omega arith)

spoilt_length : (n : ℕ) (xs : List Cell) → Spoilt n xs → length xs ≡ n
spoilt_length n xs (bytes ys l e) = ap length e ∙ length-map ys byte ∙ l
spoilt_length n xs (unreadable e) = ap length e ∙ length-replicate n lost

-- ─── a program ───

module _ (m : Meaning) (s : Sane m) (b o : ℕ) (bs : List ℕ) (ok : Accepted m b o (length bs)) where
  meant_fits : o + length (cells bs) ≤ length (m.shown b)
  meant_fits = omega (arith, length-map bs byte, s.shown_length b ok.there, ok.fits)

  meant_length : length (meant m b o bs) ≡ m.size
  meant_length = over_length (m.shown b) o (cells bs) meant_fits ∙ s.shown_length b ok.there

  whole_batch : (c : ℕ) → c * m.batch < m.size → c * m.batch + m.batch ≤ m.size
  whole_batch c h =
      let d : m.size / m.batch * m.batch ≡ m.size = (let q = div-add-mod' m.size m.batch in let z = s.size_batches in omega arith) in
      omega (arith, d, whole m.batch c (m.size / m.batch) (omega (arith, d, h)))

  held_within : (i : ℕ) → (shown_at m b i ≡ settled_at m b i → ⊥) → i < m.size
  held_within i ne =
      ⊎_elim (λ (l : i < m.size). l)
      (λ (l : m.size ≤ i).
      absurd (ne (get_or_past (m.shown b) i lost (omega (arith, s.shown_length b ok.there)) ∙ sym (get_or_past (m.settled b) i lost (omega (arith, s.settled_length b ok.there))))))
      (cases_lt i m.size)

  concerned_within : (c : ℕ) → Concerned m b o (length bs) c → c * m.batch + m.batch ≤ m.size
  concerned_within c (had i lo hi ne) = whole_batch c (let l = held_within i ne in omega arith)
  concerned_within c (takes some lo hi) = whole_batch c (let l = ok.fits in omega arith)

  -- the batch that is spoilt does not lie before the end of those that are settled
  concerned_behind : Finished m b o → (c : ℕ) → Concerned m b o (length bs) c → batch_end m o ≤ c * m.batch
  concerned_behind f c (takes some lo hi) = below m.batch (o / m.batch) c (omega (arith, div-mul-le_self o m.batch, hi))
  concerned_behind f c (had i lo hi ne) =
      ⊎_elim
      (λ (l : i < batch_end m o).
      absurd (ne (sym (get_or-take (batch_end m o) (m.shown b) i lost l) ∙ ap (λ (x : List Cell). get_or x i lost) f ∙ get_or-take (batch_end m o) (m.settled b) i lost l)))
      (λ (l : batch_end m o ≤ i). below m.batch (o / m.batch) c (omega (arith, l, hi)))
      (cases_lt i (batch_end m o))

  module _ (xs : List Cell) (t : Torn m b o bs xs) where
    first_length : length (take (t.at * m.batch) (meant m b o bs)) ≡ t.at * m.batch
    first_length = length-take-le _ _ (omega (arith, meant_length, concerned_within t.at t.concerned))

    torn_length : length (meant m b o bs) ≡ length xs
    torn_length =
        omega (
          arith,
          meant_length,
          ap length t.is,
          first_length,
          spoilt_length m.batch t.spoilt t.is_spoilt,
          concerned_within t.at t.concerned,
          s.settled_length b ok.there,
          length-append (take (t.at * m.batch) (meant m b o bs)) (t.spoilt ++ drop (t.at * m.batch + m.batch) (m.settled b)),
          length-append t.spoilt (drop (t.at * m.batch + m.batch) (m.settled b)),
          length-drop (t.at * m.batch + m.batch) (m.settled b),
        )

    torn_front : (k : ℕ) → k ≤ t.at * m.batch → take k (meant m b o bs) ≡ take k xs
    torn_front k l =
        sym (take-take k (t.at * m.batch) (meant m b o bs) l)
        ∙ sym (take-append-le k (take (t.at * m.batch) (meant m b o bs)) _ (omega (arith, first_length, l)))
        ∙ ap (take k) (sym t.is)

    torn_kept : Finished m b o → take (batch_end m o) (meant m b o bs) ≡ take (batch_end m o) xs
    torn_kept f = torn_front (batch_end m o) (concerned_behind f t.at t.concerned)

broken_here : (m n : Meaning) (b : ℕ) (xs : List Cell) (k : ℕ → ℕ) → n ≡ broken m b xs k → n.settled b ≡ xs
unfolding broken
broken_here m n b xs k e = ap (λ (x : Meaning). x.settled b) e ∙ here m.settled b xs

broken_elsewhere : (m n : Meaning) (b : ℕ) (xs : List Cell) (k : ℕ → ℕ) → n ≡ broken m b xs k → (i : ℕ) → (i ≡ b → ⊥) → n.settled i ≡ m.settled i
unfolding broken
broken_elsewhere m n b xs k e i ne = ap (λ (x : Meaning). x.settled i) e ∙ elsewhere m.settled b xs i ne

pub program_loss : ProgramLoss
program_loss m n b e its s r f h ends w =
    let ok = accepted m b e (length (run its)) r in
    let here = broken_here m n b f.left f.marks f.is in
    let walked = (appends (m.shown b) e (run its) (omega (arith, s.shown_length b ok.there, ok.fits)) its w refl h ends).0 in
    let long = torn_length m s b e (run its) ok f.left f.torn in
    subst
    (λ (got : List Cell). Lost (meant m b e (run its)) (walk (m.shown b) ++ placed e its) got × (Finished m b e → Kept (batch_end m e) (walk (m.shown b) ++ placed e its) (walk got)))
    (sym here) (
      lost_of (meant m b e (run its)) f.left (walk (m.shown b) ++ placed e its) long walked,
      λ q. kept_of (meant m b e (run its)) f.left (batch_end m e) (walk (m.shown b) ++ placed e its) long walked (torn_kept m s b e (run its) ok f.left f.torn q),
    )

pub opening_loss : OpeningLoss
opening_loss m n b its s r f bare w =
    let ok = accepted m b 0 (length (run (marker ∷ its))) r in
    let here = broken_here m n b f.left f.marks f.is in
    let long = s.shown_length b ok.there in
    let walked = (opens (m.shown b) (run (marker ∷ its)) (omega (arith, long, ok.fits)) its w refl (bare ∙ ap blank (sym long))).0 in
    let none : walk (m.shown b) ≡ [] = ap walk bare ∙ blank_walk m.size in
    subst (Lost (meant m b 0 (run (marker ∷ its))) (walk (m.shown b) ++ placed 0 (marker ∷ its))) (sym here)
    (lost_of (meant m b 0 (run (marker ∷ its))) f.left (walk (m.shown b) ++ placed 0 (marker ∷ its))
    (torn_length m s b 0 (run (marker ∷ its)) ok f.left f.torn) (walked ∙ ap (λ i. i ++ placed 0 (marker ∷ its)) (sym none)))

-- ─── blocks on which nothing is held ───

cell_same : (x y : Cell) → same_cell x y ≡ true → x ≡ y
cell_same (byte x) (byte y) e = ap byte (eqb-true x y e)
cell_same (byte x) lost e = absurd (false≢true e)
cell_same lost (byte y) e = absurd (false≢true e)
cell_same lost lost e = refl

cells_same : (xs ys : List Cell) → same_cells xs ys ≡ true → xs ≡ ys
cells_same [] [] e = refl
cells_same [] (y ∷ ys) e = absurd (false≢true e)
cells_same (x ∷ xs) [] e = absurd (false≢true e)
cells_same (x ∷ xs) (y ∷ ys) e = go (same_cell x y) refl e (cells_same xs ys)
  where
    go : (t : Bool) → same_cell x y ≡ t → cond t (same_cells xs ys) false ≡ true → (same_cells xs ys ≡ true → xs ≡ ys) → x ∷ xs ≡ y ∷ ys
    go true t e rest = let p = cell_same x y t in let q = rest e in cc
    go false t e rest = absurd (false≢true e)

another_false : (P : ℕ → Bool) (b n : ℕ) → of_another P b n ≡ false → (c : ℕ) → c < n → (c ≡ b → ⊥) → P c ≡ false
another_false P b zero h c l ne = absurd (omega arith)
another_false P b (suc n) h c l ne =
    ⊎_elim
    (λ (e : c ≡ n).
    let ne' : n ≡ b → ⊥ = λ z. ne (e ∙ z) in
    ap P e ∙ first (eqb n b) (P n) (of_another P b n) (ne_eqb n b ne') h)
    (λ (e : c ≡ n → ⊥). another_false P b n (second (cond (eqb n b) false (P n)) (of_another P b n) h) c (omega (arith, e)) ne)
    (cases_eq c n)
  where
    first : (a p r : Bool) → a ≡ false → cond (cond a false p) true r ≡ false → p ≡ false
    first false false r z e = refl
    first false true r z e = absurd (true≢false e)
    first true p r z e = absurd (true≢false z)

    second : (a r : Bool) → cond a true r ≡ false → r ≡ false
    second true r e = absurd (true≢false e)
    second false r e = e

nothing_else_held : (m : Meaning) (b : ℕ) → other_held m b ≡ false → (i : ℕ) → i < m.blocks → (i ≡ b → ⊥) → m.shown i ≡ m.settled i
unfolding other_held
nothing_else_held m b h i l ne = cells_same (m.shown i) (m.settled i) (not-false _ (another_false (holds m) b m.blocks h i l ne))

pub program_spares : ProgramSpares
program_spares m n b o bs r f i l ne =
    broken_elsewhere m n b f.left f.marks f.is i ne ∙ sym (nothing_else_held m b (accepted m b o (length bs) r).alone i l ne)

-- ─── an erase and a restart ───

-- a block of which nothing but held bytes is lost
settled_lost : (m : Meaning) → Sane m → (i : ℕ) → i < m.blocks → (got : List Cell) → got ≡ m.settled i
    → Lost (m.shown i) (walk (m.shown i)) got × ((e : ℕ) → Finished m i e → Kept (batch_end m e) (walk (m.shown i)) (walk got))
settled_lost m s i l got e =
    let long : length (m.shown i) ≡ length (m.settled i) = s.shown_length i l ∙ sym (s.settled_length i l) in
    subst
    (λ (got : List Cell). Lost (m.shown i) (walk (m.shown i)) got × ((e : ℕ) → Finished m i e → Kept (batch_end m e) (walk (m.shown i)) (walk got)))
    (sym e)
    (lost_of (m.shown i) (m.settled i) (walk (m.shown i)) long refl, λ k f. keeps (m.shown i) (m.settled i) long (batch_end m k) f)

erased_here : (m n : Meaning) (b : ℕ) → n ≡ erased m b → n.settled b ≡ blank m.size
unfolding erased
erased_here m n b e = ap (λ (x : Meaning). x.settled b) e ∙ here m.settled b (blank m.size)

erased_elsewhere : (m n : Meaning) (b : ℕ) → n ≡ erased m b → (i : ℕ) → (i ≡ b → ⊥) → n.settled i ≡ m.settled i
unfolding erased
erased_elsewhere m n b e i ne = ap (λ (x : Meaning). x.settled i) e ∙ elsewhere m.settled b (blank m.size) i ne

after_elsewhere : (m n : Meaning) (b : ℕ) (r : Answer) → Erased m b r n → (i : ℕ) → (i ≡ b → ⊥) → n.settled i ≡ m.settled i
after_elsewhere m n b r (refused e h q is) i ne = ap (λ (x : Meaning). x.settled i) is
after_elsewhere m n b r (done h q is) i ne = erased_elsewhere m n b is i ne
after_elsewhere m n b r (failed xs k h p q l w is) i ne = broken_elsewhere m n b xs k is i ne

after_length : (m n : Meaning) (b : ℕ) (r : Answer) → Sane m → b < m.blocks → Erased m b r n → length (n.settled b) ≡ m.size
after_length m n b r s t (refused e h q is) = ap (λ (x : Meaning). length (x.settled b)) is ∙ s.settled_length b t
after_length m n b r s t (done h q is) = ap length (erased_here m n b is) ∙ length-replicate m.size (byte 255)
after_length m n b r s t (failed xs k h p q l w is) = ap length (broken_here m n b xs k is) ∙ l

pub erase_loss : EraseLoss
erase_loss m n b r s d i l = (
  ⊎_elim
      (λ (e : i ≡ b). lost_of (m.shown i) (n.settled i) (walk (m.shown i)) (s.shown_length i l ∙ sym (long e)) refl)
      (λ (e : i ≡ b → ⊥). (settled_lost m s i l (n.settled i) (after_elsewhere m n b r d i e)).0)
      (cases_eq i b),
  λ k ne f. (settled_lost m s i l (n.settled i) (after_elsewhere m n b r d i ne)).1 k f,
)
  where
    long : i ≡ b → length (n.settled i) ≡ m.size
    long e = ap (λ j. length (n.settled j)) e ∙ after_length m n b r s (subst (λ j. j < m.blocks) e l) d

pub restart_shows : RestartShows
unfolding restarted
restart_shows m n r b = ap (λ (x : Meaning). x.shown b) r.is

restart_settles : (m n : Meaning) → Restarted m n → (b : ℕ) → n.settled b ≡ m.settled b
unfolding restarted
restart_settles m n r b = ap (λ (x : Meaning). x.settled b) r.is

pub restart_loss : RestartLoss
restart_loss m n s r b l = settled_lost m s b l (n.shown b) (restart_shows m n r b)

-- ─── synced blocks ───

-- a block of which nothing but held bytes is lost
settled_synced : (m : Meaning) → Sane m → (b e : ℕ) → b < m.blocks → Synced m b e → (got : List Cell) → got ≡ m.settled b → Leading (walk (m.shown b)) (walk got)
settled_synced m s b e l y got is =
    subst (λ (g : List Cell). Leading (walk (m.shown b)) (walk g)) (sym is)
    (same_start (m.shown b) (m.settled b) e (s.shown_length b l ∙ sym (s.settled_length b l)) y.ends
    (subst (λ (k : ℕ). take k (m.shown b) ≡ take k (m.settled b)) y.at_batch y.settled))

program_synced : (m n : Meaning) → Sane m → (b e : ℕ) (bs : List ℕ) → Accepted m b e (length bs) → Failed m b e bs n → Synced m b e → Leading (walk (m.shown b)) (walk (n.settled b))
program_synced m n s b e bs ok f y =
    let front : take e (m.shown b) ≡ take e (meant m b e bs) = sym (over_front (m.shown b) e (cells bs) (meant_fits m s b e bs ok) e (omega arith)) in
    let kept : take e (meant m b e bs) ≡ take e f.left =
    subst (λ (k : ℕ). take k (meant m b e bs) ≡ take k f.left) y.at_batch (torn_kept m s b e bs ok f.left f.torn y.settled) in
    let long : length (m.shown b) ≡ length f.left = s.shown_length b ok.there ∙ sym (meant_length m s b e bs ok) ∙ torn_length m s b e bs ok f.left f.torn in
    subst (λ (g : List Cell). Leading (walk (m.shown b)) (walk g)) (sym (broken_here m n b f.left f.marks f.is))
    (same_start (m.shown b) f.left e long y.ends (front ∙ kept))

spared_synced : (m n : Meaning) (b : ℕ) → n.settled b ≡ m.shown b → Leading (walk (m.shown b)) (walk (n.settled b))
spared_synced m n b e = leading (walk (m.shown b)) (walk (n.settled b)) ([], ap walk e ∙ sym (append-nil (walk (m.shown b))))

pub synced_kept : SyncedKept
synced_kept m n b e s l y (cut.here bs r f) = program_synced m n s b e bs (accepted m b e (length bs) r) f y
synced_kept m n b e s l y (cut.elsewhere c o bs ne r f) = spared_synced m n b (program_spares m n c o bs r f b l ne)
synced_kept m n b e s l y (cut.erase c r ne d) = settled_synced m s b e l y (n.settled b) (after_elsewhere m n c r d b ne)
synced_kept m n b e s l y (cut.restart r) = settled_synced m s b e l y (n.settled b) (restart_settles m n r b)

-- what leads a list and begins with its first part has a first part of the rest behind it
between : (xs ys zs : List (ℕ × Item)) → FirstPart xs ys → FirstPart ys (xs ++ zs) → (some : List (ℕ × Item)) × (ys ≡ xs ++ some) × Leading some zs
between xs ys zs f g =
    let e : xs ++ zs ≡ xs ++ (f.0 ++ g.0) = g.1 ∙ ap (λ l. l ++ g.0) f.1 ∙ append_assoc xs f.0 g.0 in
    (f.0, f.1, leading f.0 zs (g.0, append_cancel_left xs zs (f.0 ++ g.0) e))

pub synced_program : SyncedProgram
synced_program m n b e its s r f h ends y w fair =
    between (walk (m.shown b)) (walk (n.settled b)) (placed e its)
    (program_synced m n s b e (run its) (accepted m b e (length (run its)) r) f y).items
    ((program_loss m n b e its s r f h ends w).0.1 fair).items

-- ─── finished batches ───

programmed_batch : (m n : Meaning) (b o : ℕ) (bs : List ℕ) (k : ℕ) → n ≡ programmed m b o bs k → n.batch ≡ m.batch
unfolding programmed
programmed_batch m n b o bs k e = ap (λ (x : Meaning). x.batch) e

programmed_shown : (m n : Meaning) (b o : ℕ) (bs : List ℕ) (k : ℕ) → n ≡ programmed m b o bs k → n.shown b ≡ meant m b o bs
unfolding programmed
programmed_shown m n b o bs k e = ap (λ (x : Meaning). x.shown b) e ∙ here m.shown b _

programmed_settled : (m n : Meaning) (b o : ℕ) (bs : List ℕ) (k : ℕ) → n ≡ programmed m b o bs k
    → n.settled b ≡ mixed (batch_end m (o + length bs)) (meant m b o bs) (m.settled b)
unfolding programmed
programmed_settled m n b o bs k e = ap (λ (x : Meaning). x.settled b) e ∙ here m.settled b _

pub program_finishes : ProgramFinishes
program_finishes m n b o bs s r p =
    let ok = accepted m b o (length bs) r in
    let end = batch_end m (o + length bs) in
    let g : batch_end n (o + length bs) ≡ end = ap (λ g. (o + length bs) / g * g) (programmed_batch m n b o bs p.mark p.is) in
    let l : length (take end (meant m b o bs)) ≡ end =
    length-take-le end (meant m b o bs) (omega (arith, meant_length m s b o bs ok, ok.fits, div-mul-le_self (o + length bs) m.batch)) in
    subst (λ k. take k (n.shown b) ≡ take k (n.settled b)) (sym g)
    (ap (take end) (programmed_shown m n b o bs p.mark p.is)
    ∙ sym (take_at (take end (meant m b o bs)) (drop end (m.settled b)) end l)
    ∙ ap (take end) (sym (programmed_settled m n b o bs p.mark p.is)))

pub held_finished : HeldFinished
held_finished m s b l =
    ext_get_or lost (take k (m.shown b)) (take k (m.settled b))
    (omega (arith, length-take k (m.shown b), length-take k (m.settled b), s.shown_length b l, s.settled_length b l))
    (λ i h.
    let q : i < k = omega (arith, h, length-take k (m.shown b)) in
    get_or-take k (m.shown b) i lost q
    ∙ s.agree b i l (omega (arith, h, length-take k (m.shown b), s.shown_length b l)) (λ _ lo hi. omega arith)
    ∙ sym (get_or-take k (m.settled b) i lost q))
  where
    k : ℕ
    k = batch_end m s.held_end

pub unheld_finished : UnheldFinished
unheld_finished m s p b e l z =
    let q : e % m.batch ≡ 0 = subst (λ g. e % g ≡ 0) p z in
    (omega (arith, div-add-mod' e m.batch, q), ap (take (batch_end m e)) (nothing_held m s p b l))
