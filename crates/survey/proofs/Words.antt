-- Words of a block, read one by one.
use Rattle.std.proofs.Common.{◌≡◌, ℕ, zero, suc, ◌+◌, ◌-◌, ◌*◌, ◌/◌, ◌<◌, ◌≤◌, Bool, true, false, cond, not, List, [], ◌∷◌, ◌++◌, length, get_or, take, drop, set, Some, None, is_ok, sym, refl, ap, ◌∙◌, subst, arith, length-drop, length-take}
use native.Mathlib.Decide.{dec_lt}
use borrow.Rule.Slice.PartMut.{put_mid}
use Rattle.std.proofs.lemmas.List.{drop-drop, ext_get_or, get_or-map, get_or-take, get_or-drop, get_or-set_same, get_or-set_other}
use Rattle.flash.specs.declared.refusal.Refusal.{Refusal}
use Rattle.flash.specs.declared.refusal.Refusal.TheVariants.{Unreadable}
use Rattle.flash.specs.Cells.{Cell, byte, lost, over}
use Rattle.flash.specs.Meaning.{Meaning, Sane, shown_at}
use Rattle.flash.specs.Refused.{first, place_causes, place_refusal, read_refusal, readable, part}
use Rattle.flash.specs.Rules.{Answer, Fetched, refused, done}
use Rattle.flash.proofs.Accepting.{place_accepted}
use Rattle.flash.proofs.Over.{over_below, over_in}
use Rattle.flash.proofs.Refusals.{first_none, Inside, place_inside}
use Rattle.nodes.specs.Seen.{seen, seen_from}
use Rattle.nodes.proofs.Cuts.{length_seen}
use Rattle.survey.specs.Surveyed.{WordRead, can, cannot, Noted, Fits}

-- a word was read, or could not be
pub word_tried : (m : Meaning) (b o : ℕ) (old new : List ℕ) (r : Answer) → Fetched m b o old r new → WordRead m b o old (is_ok r) new
word_tried m b o old new r (refused x q e n) = rw e (cannot refl x q n)
word_tried m b o old new r (done q e c) = rw e (can refl c)

-- a part written is laid over
pub put_over : (xs ys : List ℕ) (a k : ℕ) → length ys ≡ k → put_mid a k xs ys ≡ over xs a ys
put_over xs ys a k e = ap (λ l. take a xs ++ (ys ++ l)) (drop-drop k a xs ∙ ap (λ n. drop (a + n) xs) (sym e))

-- the cell that a byte and its flag stand for
abbrev pub cell_at : List Bool → List ℕ → ℕ → Cell
cell_at fs bs j = cond (get_or fs (j / 4) false) (byte (get_or bs j 0)) lost

seen_from_at : (fs : List Bool) (at : ℕ) (bs : List ℕ) (j : ℕ) → j < length bs → get_or (seen_from fs at bs) j lost ≡ cond (get_or fs ((at + j) / 4) false) (byte (get_or bs j 0)) lost
unfolding seen_from
seen_from_at fs at [] j h = absurd (omega arith)
seen_from_at fs at (b ∷ bs) zero h = ap (λ n. cond (get_or fs (n / 4) false) (byte b) lost) (let e : at ≡ at + 0 = omega arith in e)
seen_from_at fs at (b ∷ bs) (suc j) h =
    seen_from_at fs (suc at) bs j (omega arith) ∙ ap (λ n. cond (get_or fs (n / 4) false) (byte (get_or bs j 0)) lost) (let e : suc at + j ≡ at + suc j = omega arith in e)

pub seen_at : (fs : List Bool) (bs : List ℕ) (j : ℕ) → j < length bs → get_or (seen fs bs) j lost ≡ cell_at fs bs j
seen_at fs bs j h = seen_from_at fs 0 bs j h ∙ ap (λ n. cond (get_or fs (n / 4) false) (byte (get_or bs j 0)) lost) (let e : 0 + j ≡ j = omega arith in e)

-- bytes and flags of which each cell is as shown are what is shown
pub seen_all : (fs : List Bool) (bs : List ℕ) (cs : List Cell) → length bs ≡ length cs → ((j : ℕ) → j < length bs → cell_at fs bs j ≡ get_or cs j lost) → seen fs bs ≡ cs
seen_all fs bs cs n h =
    ext_get_or lost (seen fs bs) cs (length_seen fs 0 bs ∙ n) (λ j l. let k : j < length bs = omega (arith, length_seen fs 0 bs) in seen_at fs bs j k ∙ h j k)

unreadable_has : (xs : List Cell) → readable xs ≡ false → (k : ℕ) × (k < length xs) × (get_or xs k lost ≡ lost)
unreadable_has [] h = absurd (let z : ◌≡◌ {A = ℕ} 0 1 = cc in omega arith)
unreadable_has (byte b ∷ xs) h = let r = unreadable_has xs h in let l : suc r.0 < length (byte b ∷ xs) = omega (arith, r.1) in (suc r.0, l, r.2)
unreadable_has (lost ∷ xs) h = let l : 0 < length (lost ∷ xs) = omega arith in (0, l, refl)

read_unreadable : (m : Meaning) (b o n : ℕ) (e : Refusal) → place_refusal m b o n ≡ None → read_refusal m b o n ≡ Some e → readable (part (m.shown b) o n) ≡ false
unfolding place_refusal read_refusal
read_unreadable m b o n e p q = go (readable (part (m.shown b) o n)) (sym (first_none (place_causes m b o n) ((not (readable (part (m.shown b) o n)), Unreadable) ∷ []) p) ∙ q)
  where
    go : (t : Bool) → first ((not t, Unreadable) ∷ []) ≡ Some e → t ≡ false
    go true h = absurd (let z : ◌≡◌ {A = ℕ} 0 1 = cc in omega arith)
    go false h = refl

module _ (m : Meaning) (b : ℕ) (old : List ℕ) (fs : List Bool) (sane : Sane m) (F : Fits m b old fs) where
  is_there : Inside m b 0 (length old)
  is_there = place_inside m b 0 (length old) F.there

  -- a word that cannot be read has no cell that can
  word_lost : (i : ℕ) (e : Refusal) → i * 4 + 4 ≤ m.size → read_refusal m b (i * 4) 4 ≡ Some e → (j : ℕ) → i * 4 ≤ j → j < i * 4 + 4 → shown_at m b j ≡ lost
  word_lost i e room q j from to =
      sane.shown_pages b (i * 4 + k.0) j is_there.there (omega (arith, short)) (omega arith)
      (subst (λ (p : ℕ). (i * 4 + k.0) / p ≡ j / p) (sym F.words) same) here
    where
      k : (k : ℕ) × (k < length (part (m.shown b) (i * 4) 4)) × (get_or (part (m.shown b) (i * 4) 4) k lost ≡ lost)
      k = unreadable_has (part (m.shown b) (i * 4) 4) (read_unreadable m b (i * 4) 4 e (place_accepted m b (i * 4) 4 is_there.on is_there.there room) q)

      short : k.0 < 4
      short = let l : length (part (m.shown b) (i * 4) 4) ≤ 4 = simp length-take (omega arith) in omega (arith, k.1)

      same : (i * 4 + k.0) / 4 ≡ j / 4
      same = omega (arith, short)

      here : shown_at m b (i * 4 + k.0) ≡ lost
      here = sym (get_or-take 4 (drop (i * 4) (m.shown b)) k.0 lost short ∙ get_or-drop (i * 4) (m.shown b) k.0 lost) ∙ k.2

  module _ (bs : List ℕ) (gs : List Bool) (i : ℕ) (room : i * 4 + 4 ≤ length bs) (flag_room : i < length gs) (whole : length bs ≡ length old) where
    word_read : (flag : Bool) (word : List ℕ) → length word ≡ 4 → WordRead m b (i * 4) (take 4 (drop (i * 4) bs)) flag word
        → (j : ℕ) → i * 4 ≤ j → j < i * 4 + 4 → cond flag (byte (get_or word (j - i * 4) 0)) lost ≡ shown_at m b j
    word_read flag word n (can f c) j from to =
        rw f
        (sym (get_or-map byte word (j - i * 4) 0 lost (omega arith))
        ∙ ap (λ l. get_or l (j - i * 4) lost) (c ∙ ap (part (m.shown b) (i * 4)) four)
        ∙ get_or-take 4 (drop (i * 4) (m.shown b)) (j - i * 4) lost (omega arith)
        ∙ get_or-drop (i * 4) (m.shown b) (j - i * 4) lost
        ∙ ap (λ k. get_or (m.shown b) k lost) (let e : i * 4 + (j - i * 4) ≡ j = omega arith in e))
      where
        four : length (take 4 (drop (i * 4) bs)) ≡ 4
        four = simp (length-take, length-drop) (omega arith)
    word_read flag word n (cannot f e q same) j from to =
        rw f (sym (word_lost i e (let w = F.whole in omega arith) (ap (read_refusal m b (i * 4)) (sym four) ∙ q) j from to))
      where
        four : length (take 4 (drop (i * 4) bs)) ≡ 4
        four = simp (length-take, length-drop) (omega arith)

    -- one word more
    pub word_more : (new : List ℕ) (hs : List Bool) → Noted m b i bs gs new hs → ((j : ℕ) → j < i * 4 → cell_at gs bs j ≡ shown_at m b j)
        → (j : ℕ) → j < i * 4 + 4 → cell_at hs new j ≡ shown_at m b j
    word_more new hs N so_far j to = ap (λ l. cell_at l new j) N.flags ∙ go (dec_lt j (i * 4))
      where
        go : Dec (j < i * 4) → cell_at (set gs i N.flag) new j ≡ shown_at m b j
        go (yes l) =
            ap (λ f. cond f (byte (get_or new j 0)) lost) (get_or-set_other gs i (j / 4) N.flag false (λ e. omega arith))
            ∙ ap (λ x. cond (get_or gs (j / 4) false) (byte x) lost) (ap (λ l. get_or l j 0) N.bytes ∙ over_below bs (i * 4) N.word (omega (arith, N.long)) j 0 l)
            ∙ so_far j l
        go (no l) =
            ap (λ f. cond f (byte (get_or new j 0)) lost) (ap (λ k. get_or (set gs i N.flag) k false) (let e : j / 4 ≡ i = omega arith in e) ∙ get_or-set_same gs i N.flag false flag_room)
            ∙ ap (λ x. cond N.flag (byte x) lost) (ap (λ l. get_or l j 0) N.bytes ∙ over_in bs (i * 4) N.word (omega (arith, N.long)) j 0 (omega arith) (omega (arith, N.long)))
            ∙ word_read N.flag N.word N.long N.read j (omega arith) to

-- a block has as many cells as bytes were asked for
pub shown_whole : (m : Meaning) (b : ℕ) (old : List ℕ) (fs : List Bool) → Sane m → Fits m b old fs → length old ≡ length (m.shown b)
shown_whole m b old fs sane F = F.whole ∙ sym (sane.shown_length b (place_inside m b 0 (length old) F.there).there)
