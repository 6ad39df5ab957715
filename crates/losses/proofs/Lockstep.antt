-- Two walks, item by item.
use Rattle.std.proofs.Common.{◌≡◌, ℕ, zero, suc, ◌+◌, ◌<◌, ◌≤◌, max, Bool, true, false, cond, not, eqb, List, [], ◌∷◌, length, map, take, drop, Some, None, Option, sym, refl, ap, ◌∙◌, subst, arith, length-drop}
use Rattle.std.proofs.lemmas.Bool.{leb-true, eqb-true, eq-eqb, ne_eqb, cond-true, cond-false, both_ways, false≢true}
use Rattle.flash.specs.Cells.{Cell}
use Rattle.flash.specs.declared.place.Place.{Place}
use Rattle.nodes.specs.Fields.{le16, le32}
use Rattle.nodes.specs.Items.{Item, kind, totlen, is_word, reach, header, stands, size}
use Rattle.nodes.specs.Reading.{rest, found_at, to_find, first_of, behind}
use Rattle.nodes.specs.Records.{Entry, Content, read_entry, read_content}
use Rattle.nodes.specs.Views.{View, zero_word, marker_of, padding_of, unknown_of, entry_of, content_of, view}
use Rattle.nodes.specs.declared.image.Image.{Image}
use Rattle.nodes.specs.declared.reader.Reader.{Reader}
use Rattle.nodes.specs.Image.{seen_in}
use Rattle.nodes.specs.Walk.{walk_in, walk_from, walk, met, marked, marker, alike}
use Rattle.nodes.proofs.Standing.{Reads, stands_reads, sized, at_all, headed}
use Rattle.nodes.proofs.Walks.{item_at, none_at}
use Rattle.nodes.proofs.Marks.{alike_take, marked_cells, cells_marked, marker_stands, marker_size, walk_marked, walk_bare}
use Rattle.nodes.proofs.Cuts.{length_seen}
use Rattle.losses.specs.Compared.{view_counted}
use Rattle.losses.specs.Fair.{counted, parting, absent, nothing_at, fair, loss_fair}
use Rattle.losses.specs.Left.{Leading}
use Rattle.losses.proofs.Leaving.{left, elsewhere_nothing, start_nothing, parting_grows, kept}
use Rattle.losses.proofs.Fairness.{counted_fits}

-- whether the items met are the first of those that were to stand, by the bytes that count: of those met only the number counts
abbrev pub judged : {Y : Type 0} → List Cell → List Cell → List (ℕ × Item) → List Y → Bool
judged want got [] [] = true
judged want got (x ∷ xs) [] = true
judged want got [] (y ∷ ys) = false
judged want got (x ∷ xs) (y ∷ ys) = cond (alike (counted x.1) (drop x.0 want) (drop x.0 got)) (judged want got xs ys) false

-- what counts of each item lies in a block of n bytes, and is what the code takes it for
abbrev pub Ready : ℕ → List (ℕ × Item) → Type 0
Ready n [] = Unit {0}
Ready n (x ∷ xs) = (x.0 + view_counted (view x.1) ≤ n) × (0 < view_counted (view x.1)) × (view_counted (view x.1) ≡ counted x.1) × Ready n xs

-- ─── what counts ───

by_kind : (w m p e c : Bool) (k t : ℕ) (it : Item) (x : Entry) (y : Content) → (m ≡ true → p ≡ false) → (w ≡ false → e ≡ true → length it ≡ t) → (w ≡ false → e ≡ false → c ≡ true → length it ≡ t)
    → view_counted (cond w zero_word (cond m (marker_of t) (cond p (padding_of t) (cond e (entry_of it x) (cond c (content_of it y) (unknown_of k t)))))) ≡ cond w 4 (cond p 12 t)
by_kind true m p e c k t it x y f g h = refl
by_kind false true p e c k t it x y f g h = sym (cond-false p 12 t (f refl))
by_kind false false true e c k t it x y f g h = refl
by_kind false false false true c k t it x y f g h = g refl refl
by_kind false false false false true k t it x y f g h = h refl refl refl
by_kind false false false false false k t it x y f g h = refl

module _ (cs : List Cell) (it : Item) (r : Reads cs it) where
  low : is_word it ≡ false → max 12 (totlen it) ≡ totlen it
  low w = let l = leb-true 12 (totlen it) (at_all (header (length cs) it) (headed (length cs) it w r.good) 3) in omega arith

  entry_length : is_word it ≡ false → eqb (kind it) 0xE001 ≡ true → length it ≡ totlen it
  unfolding reach
  entry_length w e = sym r.whole ∙ cond-false _ _ _ w ∙ cond-true _ _ _ e ∙ low w

  content_length : is_word it ≡ false → eqb (kind it) 0xE001 ≡ false → eqb (kind it) 0xE002 ≡ true → length it ≡ totlen it
  unfolding reach
  content_length w e c = sym r.whole ∙ cond-false _ _ _ w ∙ cond-false _ _ _ e ∙ cond-true _ _ _ c ∙ low w

  view_counts : view_counted (view it) ≡ counted it
  unfolding view counted
  view_counts =
      by_kind (is_word it) (eqb (kind it) 0x2003) (eqb (kind it) 0x2004) (eqb (kind it) 0xE001) (eqb (kind it) 0xE002) (kind it) (totlen it) it
      (read_entry it) (read_content it)
      (λ m. ne_eqb (kind it) 0x2004 (λ p. let q = eqb-true (kind it) 0x2003 m in omega arith)) entry_length content_length

ready_in : (f : ℕ) (xs : List Cell) (p : ℕ) → Ready (length xs) (walk_in f xs p)
unfolding walk_in
ready_in zero xs p = tt
ready_in (suc f) xs p = go (ready_in f xs) (stands (drop p xs)) refl
  where
    go : ((q : ℕ) → Ready (length xs) (walk_in f xs q)) → (o : Option Item) → stands (drop p xs) ≡ o → Ready (length xs) (met (walk_in f xs) p o)
    go below None s = tt
    go below (Some it) s =
        let r = stands_reads (drop p xs) it s in
        let v = view_counts (drop p xs) it r in
        (omega (arith, v, counted_fits (drop p xs) it r, sized (drop p xs) it r, length-drop p xs), omega (arith, v, counted_fits (drop p xs) it r), v, below (p + size it))

pub ready_walk : (xs : List Cell) → Ready (length xs) (walk xs)
unfolding walk walk_from
ready_walk xs = go (marked xs)
  where
    go : (b : Bool) → Ready (length xs) (cond b (walk_in (length xs) xs 0) [])
    go true = ready_in (length xs) xs 0
    go false = tt

-- ─── the two walks judge fairness ───

none_left : (Y : Type 0) (want got : List Cell) (xs : List (ℕ × Item)) → judged {Y = Y} want got xs [] ≡ true
none_left Y want got [] = refl
none_left Y want got (x ∷ xs) = refl

from_marker : (xs : List Cell) → marked xs ≡ true → walk xs ≡ (0, marker) ∷ walk_from xs (0 + size marker)
from_marker xs t = walk_marked xs t ∙ item_at xs 0 marker (marker_stands xs t)

counted_marker : counted marker ≡ 12
unfolding counted le32 le16
counted_marker = refl

-- a row without the marker is not like one with it
unlike : (want got : List Cell) → marked want ≡ true → marked got ≡ false → (b : Bool) → alike (counted marker) want got ≡ b → alike (counted marker) want got ≡ false
unlike want got t u false e = e
unlike want got t u true e =
    let same : take 12 want ≡ take 12 got = subst (λ k. take k want ≡ take k got) counted_marker (alike_take (counted marker) want got e) in
    absurd (both_ways (marked got) u (cells_marked got (sym same ∙ marked_cells want t)))

module _ (want got : List Cell) (long : length want ≡ length got) where
  -- where no more items were to stand
  at_end : (p : ℕ) → judged want got [] (walk_from got p) ≡ absent (stands (drop p got))
  at_end p = go (stands (drop p got)) refl
    where
      go : (o : Option Item) → stands (drop p got) ≡ o → judged want got [] (walk_from got p) ≡ absent o
      go None e = ap (judged want got []) (none_at got p e)
      go (Some it) e = ap (judged want got []) (item_at got p it e)

  -- where an item was to stand: in got none does, or one does
  turn : (p : ℕ) (it : Item) (ys : List (ℕ × Item)) → stands (drop p want) ≡ Some it
      → judged want got ys (walk_from got (p + size it)) ≡ absent (stands (drop (parting want got (p + size it) ys) got))
      → (t : Bool) → alike (counted it) (drop p want) (drop p got) ≡ t → (o : Option Item) → stands (drop p got) ≡ o
      → judged want got ((p, it) ∷ ys) (walk_from got p) ≡ absent (stands (drop (cond t (parting want got (p + size it) ys) p) got))
  turn p it ys s below true t o e =
      let here = kept want got long p it t s in
      ap (judged want got ((p, it) ∷ ys)) (item_at got p it here) ∙ cond-true _ _ false t ∙ below
  turn p it ys s below false t None e =
      ap (judged want got ((p, it) ∷ ys)) (none_at got p e) ∙ sym (ap absent e)
  turn p it ys s below false t (Some i) e =
      ap (judged want got ((p, it) ∷ ys)) (item_at got p i e) ∙ cond-false _ (judged want got ys (walk_from got (p + size i))) _ t ∙ sym (ap absent e)

  judges : (f p : ℕ) → judged want got (walk_in f want p) (walk_from got p) ≡ absent (stands (drop (parting want got p (walk_in f want p)) got))
  unfolding walk_in
  judges zero p = at_end p
  judges (suc f) p = go (judges f) (stands (drop p want)) refl
    where
      go : ((q : ℕ) → judged want got (walk_in f want q) (walk_from got q) ≡ absent (stands (drop (parting want got q (walk_in f want q)) got)))
          → (o : Option Item) → stands (drop p want) ≡ o
          → judged want got (met (walk_in f want) p o) (walk_from got p) ≡ absent (stands (drop (parting want got p (met (walk_in f want) p o)) got))
      go below None s = at_end p
      go below (Some it) s =
          turn p it (walk_in f want (p + size it)) s (below (p + size it)) (alike (counted it) (drop p want) (drop p got)) refl (stands (drop p got)) refl

  behind_marker : marked got ≡ true → (t : Bool)
      → cond t (judged want got (walk_from want (0 + size marker)) (walk_from got (0 + size marker))) false
      ≡ nothing_at (cond t (parting want got (0 + size marker) (walk_from want (0 + size marker))) 0) got
  unfolding walk_from
  behind_marker u false = sym (start_nothing got ∙ ap not u)
  behind_marker u true =
      let q = parting want got (0 + size marker) (walk_from want (0 + size marker)) in
      let l : 0 + size marker ≤ q = parting_grows want got (length want) (0 + size marker) in
      judges (length want) (0 + size marker) ∙ sym (elsewhere_nothing q got (omega (arith, marker_size)))

  -- where got does not begin with the marker, the rows part there, or nothing was to stand
  bare : marked got ≡ false → (a : Bool) → marked want ≡ a → nothing_at (parting want got 0 (walk want)) got ≡ true
  bare u false t = ap (λ l. nothing_at (parting want got 0 l) got) (walk_bare want t) ∙ start_nothing got ∙ ap not u
  bare u true t =
      ap (λ l. nothing_at (parting want got 0 l) got) (from_marker want t)
      ∙ ap (λ q. nothing_at q got) (cond-false (alike (counted marker) want got) (parting want got (0 + size marker) (walk_from want (0 + size marker))) 0 (unlike want got t u (alike (counted marker) want got) refl))
      ∙ start_nothing got ∙ ap not u

  pub judged_fair : judged want got (walk want) (walk got) ≡ fair want (walk want) got
  unfolding fair
  judged_fair = go (marked want) refl (marked got) refl
    where
      go : (a : Bool) → marked want ≡ a → (b : Bool) → marked got ≡ b → judged want got (walk want) (walk got) ≡ nothing_at (parting want got 0 (walk want)) got
      go a t false u = ap (judged want got (walk want)) (walk_bare got u) ∙ none_left _ want got (walk want) ∙ sym (bare u a t)
      go false t true u =
          ap (λ l. judged want got l (walk got)) (walk_bare want t) ∙ ap (judged want got []) (from_marker got u)
          ∙ sym (ap (λ l. nothing_at (parting want got 0 l) got) (walk_bare want t) ∙ start_nothing got ∙ ap not u)
      go true t true u =
          ap (λ l. judged want got l (walk got)) (from_marker want t) ∙ ap (judged want got ((0, marker) ∷ walk_from want (0 + size marker))) (from_marker got u)
          ∙ behind_marker u (alike (counted marker) want got)
          ∙ ap (λ l. nothing_at (parting want got 0 l) got) (sym (from_marker want t))

-- ─── the code's start ───

-- what the code keeps true of the items that were to stand and those met, of which it has still to see xs and ys
pub record Judging (want got : Image) (xs : List (ℕ × Item)) (ys : List (Place × View)) : Type 0 where
  pub judges : judged (seen_in want) (seen_in got) xs ys ≡ fair (seen_in want) (walk (seen_in want)) (seen_in got)
  pub ready : Ready (length want.bytes.now) xs

as_found : (want got : List Cell) (b : ℕ) (xs ys : List (ℕ × Item)) → judged want got xs (map (found_at b) ys) ≡ judged want got xs ys
as_found want got b [] [] = refl
as_found want got b (x ∷ xs) [] = refl
as_found want got b [] (y ∷ ys) = refl
as_found want got b (x ∷ xs) (y ∷ ys) = ap (λ t. cond (alike (counted x.1) (drop x.0 want) (drop x.0 got)) t false) (as_found want got b xs ys)

pub begun : (want got : Image) (before after : Reader) → length want.bytes.now ≡ length got.bytes.now → rest before ≡ walk (seen_in want) → rest after ≡ walk (seen_in got) → Judging want got (rest before) (to_find after)
begun want got before after l e h =
    let long = length_seen want.readable.now 0 want.bytes.now in
    record {
      judges =
          as_found (seen_in want) (seen_in got) after.block (rest before) (rest after)
          ∙ ap (λ z. judged (seen_in want) (seen_in got) z (rest after)) e ∙ ap (judged (seen_in want) (seen_in got) (walk (seen_in want))) h
          ∙ judged_fair (seen_in want) (seen_in got) (long ∙ l ∙ sym (length_seen got.readable.now 0 got.bytes.now));
      ready = subst (Ready (length want.bytes.now)) (sym e) (subst (λ n. Ready n (walk (seen_in want))) long (ready_walk (seen_in want)));
    }

-- ─── a turn of the code ───

-- an item at p of which k bytes count was to stand, and something is met
pub record Turn (want got : Image) (xs : List (ℕ × Item)) (ys : List (Place × View)) (p k : ℕ) : Type 0 where
  pub within : p + k ≤ length want.bytes.now
  pub some : 0 < k
  pub again : true ≡ alike k (drop p (seen_in want)) (drop p (seen_in got)) → Judging want got xs ys
  pub stop : false ≡ alike k (drop p (seen_in want)) (drop p (seen_in got)) → false ≡ fair (seen_in want) (walk (seen_in want)) (seen_in got)

module _ (want got : Image) where
  pub none_met : {xs : List (ℕ × Item)} {ys : List (Place × View)} → Judging want got xs ys → ys ≡ [] → true ≡ fair (seen_in want) (walk (seen_in want)) (seen_in got)
  none_met {xs = xs} i e =
      sym (none_left _ (seen_in want) (seen_in got) xs) ∙ sym (ap (judged (seen_in want) (seen_in got) xs) e) ∙ i.judges

  pub too_many : {xs : List (ℕ × Item)} {ys zs : List (Place × View)} {y : Place × View} → Judging want got xs ys → ys ≡ y ∷ zs → (b : ℕ) → None ≡ first_of b xs → false ≡ fair (seen_in want) (walk (seen_in want)) (seen_in got)
  too_many {xs = []} i e b h = sym (ap (judged (seen_in want) (seen_in got) []) e) ∙ i.judges
  too_many {xs = x ∷ xs} i e b h = cc

  pub turn_of : {xs xs' : List (ℕ × Item)} {ys ys' : List (Place × View)} {y : Place × View} {k : ℕ} {q : Place} {v : View} (b : ℕ)
      → Judging want got xs ys → ys ≡ y ∷ ys' → Some (q, v) ≡ first_of b xs → xs' ≡ behind xs → k ≡ view_counted v → Turn want got xs' ys' q.offset k
  turn_of {xs = []} b i e f h d = cc
  turn_of {xs = x ∷ xs} {ys = ys} {ys' = ys'} {k = k} {q = q} {v = v} b i e f h d = record {
    within = omega (arith, i.ready.0, at, is);
    some = omega (arith, i.ready.1, is);
    again = λ a. record {
      judges = ap (λ z. judged (seen_in want) (seen_in got) z ys') h ∙ ap (λ s. cond s (judged (seen_in want) (seen_in got) xs ys') false) (a ∙ same) ∙ here;
      ready = subst (Ready (length want.bytes.now)) (sym h) i.ready.3;
    };
    stop = λ a. ap (λ s. cond s (judged (seen_in want) (seen_in got) xs ys') false) (a ∙ same) ∙ here;
  }
    where
      pair : ◌≡◌ {A = Place × View} (q, v) (found_at b x)
      pair = cc

      at : q.offset ≡ x.0
      at = ap (λ (w : Place × View). w.0.offset) pair

      is : k ≡ view_counted (view x.1)
      is = d ∙ ap (λ (w : Place × View). view_counted w.1) pair

      same : alike k (drop q.offset (seen_in want)) (drop q.offset (seen_in got)) ≡ alike (counted x.1) (drop x.0 (seen_in want)) (drop x.0 (seen_in got))
      same =
          ap (λ p. alike k (drop p (seen_in want)) (drop p (seen_in got))) at ∙ ap (λ k. alike k (drop x.0 (seen_in want)) (drop x.0 (seen_in got))) (is ∙ i.ready.2)

      here : cond (alike (counted x.1) (drop x.0 (seen_in want)) (drop x.0 (seen_in got))) (judged (seen_in want) (seen_in got) xs ys') false ≡ fair (seen_in want) (walk (seen_in want)) (seen_in got)
      here = sym (ap (judged (seen_in want) (seen_in got) (x ∷ xs)) e) ∙ i.judges

-- ─── the answer ───

module _ (want got : Image) where
  long : (length want.bytes.now ≡ length got.bytes.now) → length (seen_in want) ≡ length (seen_in got)
  long l = length_seen want.readable.now 0 want.bytes.now ∙ l ∙ sym (length_seen got.readable.now 0 got.bytes.now)

  pub lengths_differ : (length want.bytes.now ≡ length got.bytes.now → ⊥) → false ≡ loss_fair (seen_in want) (seen_in got)
  unfolding loss_fair
  lengths_differ ne =
      sym (cond-false _ _ _ (ne_eqb _ _ (λ e. ne (sym (length_seen want.readable.now 0 want.bytes.now) ∙ e ∙ length_seen got.readable.now 0 got.bytes.now))))

  pub lengths_same : (b : Bool) → length want.bytes.now ≡ length got.bytes.now → b ≡ fair (seen_in want) (walk (seen_in want)) (seen_in got) → b ≡ loss_fair (seen_in want) (seen_in got)
  unfolding loss_fair
  lengths_same b l e = e ∙ sym (cond-true _ _ _ (eq-eqb _ _ (long l)))

-- what a fair loss of a block leaves
pub fair_left : (want got : List Cell) → loss_fair want got ≡ true → Leading (walk got) (walk want)
unfolding loss_fair
fair_left want got e = go (eqb (length want) (length got)) refl e
  where
    go : (b : Bool) → eqb (length want) (length got) ≡ b → cond b (fair want (walk want) got) false ≡ true → Leading (walk got) (walk want)
    go true l f = left want got (eqb-true _ _ l) f
    go false l f = absurd (false≢true f)

-- the same fairness, of a list that is known to be that of the walk
pub fair_decided : (want got : List Cell) (list : List (ℕ × Item)) → length want ≡ length got → walk want ≡ list → fair want list got ≡ loss_fair want got
unfolding loss_fair
fair_decided want got list l e = ap (λ i. fair want i got) (sym e) ∙ sym (cond-true _ _ _ (eq-eqb _ _ l))
