-- Items laid where a walk ends follow those that stood.
use Rattle.std.proofs.Common.{zero-add, ◌≡◌, ℕ, zero, suc, ◌+◌, ◌-◌, ◌≤◌, Bool, true, false, ◌⊎◌, List, [], ◌∷◌, ◌++◌, length, take, drop, replicate, Some, None, Option, sym, refl, ap, ◌∙◌, subst, inl, inr, ⊎_elim, append_assoc, append-nil, arith, length-drop}
use lib.ListN.{length-replicate}
use Rattle.std.proofs.lemmas.List.{take_at, drop_at, drop-drop, drop-replicate, map-append, length-append, length-map, length-take-le, take-take, drop-take, take-map, drop-map}
use Rattle.std.proofs.lemmas.Bool.{eqb-true}
use Rattle.flash.specs.Cells.{Cell, byte, cells, blank, over}
use Rattle.nodes.specs.Fields.{le32}
use Rattle.nodes.specs.Items.{Item, stands, size, is_word, header}
use Rattle.nodes.specs.Walk.{walk_in, walk_from, walk, met, marked, marker, end_of}
use Rattle.encode.specs.Laid.{WellFormed, AllWellFormed, laid, run, placed, Ends}
use Rattle.encode.specs.Laws.{Appended, Opened, Appends, Opens}
use Rattle.nodes.proofs.Standing.{Reads, stands_reads, reads_stands, sized, shaped, roomier, at_all, headed, reach_least}
use Rattle.nodes.proofs.Walks.{stays, item_at, none_at}
use Rattle.nodes.proofs.Marks.{marked_cells, cells_marked, marker_passes, marker_reach, marker_size, walk_marked, walk_bare}

word_byte : (b : ℕ) (it : List ℕ) → is_word (b ∷ it) ≡ true → b ≡ 0
unfolding le32
word_byte b it e = let z = eqb-true _ _ e in omega arith

-- what passes begins with a zero or with the first byte of a header
first_byte : (b : ℕ) (cs : List Cell) (it : Item) → Reads (byte b ∷ cs) it → (b ≡ 0) ⊎ (b ≡ 0x85)
first_byte b cs [] r = absurd (let w = r.whole in let l = reach_least [] in omega arith)
first_byte b cs (c ∷ it) r = go (is_word (c ∷ it)) refl
  where
    same : b ≡ c
    same = let s = r.starts in cc

    go : (t : Bool) → is_word (c ∷ it) ≡ t → (b ≡ 0) ⊎ (b ≡ 0x85)
    go true t = inl (same ∙ word_byte c it t)
    go false t = inr (same ∙ eqb-true c 0x85 (at_all (header (length (byte b ∷ cs)) (c ∷ it)) (headed (length (byte b ∷ cs)) (c ∷ it) t r.good) 0))

-- nothing passes on blank cells
blank_reads : (n : ℕ) (it : Item) → Reads (blank n) it → ⊥
blank_reads zero it r = let s = sized [] it r in omega arith
blank_reads (suc n) it r =
    ⊎_elim (λ (e : 255 ≡ 0). omega arith) (λ (e : 255 ≡ 0x85). omega arith) (first_byte 255 (blank n) it r)

pub blank_none : (n : ℕ) → stands (blank n) ≡ None
blank_none n = go (stands (blank n)) refl
  where
    go : (o : Option Item) → stands (blank n) ≡ o → stands (blank n) ≡ None
    go None e = e
    go (Some it) e = absurd (blank_reads n it (stands_reads _ it e))

-- what decides an item is no longer than the item
short : (it : Item) → WellFormed it → length it ≤ size it
short it w = (shaped (size it + length it) it w.0 (roomier (size it) (size it + length it) it (omega arith) w.1) (omega arith)).1

pub laid_length : (it : Item) → WellFormed it → length (laid it) ≡ size it
laid_length it w = let l = short it w in simp (length-append, length-replicate) (omega arith)

-- runs of one item, of the marker, and of one run after another
pub run_one : (it : Item) → run (it ∷ []) ≡ laid it
unfolding run
run_one it = append-nil (laid it)

pub run_marker : run (marker ∷ []) ≡ marker
unfolding run size le32
run_marker = refl

pub run_append : (a b : List Item) → run (a ++ b) ≡ run a ++ run b
unfolding run
run_append [] b = refl
run_append (it ∷ a) b = ap (λ l. laid it ++ l) (run_append a b) ∙ sym (append_assoc (laid it) (run a) (run b))

-- the walk over items laid up to blank cells
run_walk : (its : List Item) (ys : List Cell) (e n : ℕ) → drop e ys ≡ cells (run its) ++ blank n → AllWellFormed its → walk_from ys e ≡ placed e its
unfolding run
run_walk [] ys e n d w = none_at ys e (ap stands d ∙ blank_none n)
run_walk (it ∷ its) ys e n d w =
    let behind = cells (run its) ++ blank n in
    let s : drop e ys ≡ cells (laid it) ++ behind = d ∙ ap (λ l. l ++ blank n) (map-append byte (laid it) (run its)) ∙ append_assoc (cells (laid it)) (cells (run its)) (blank n) in
    let zeros : List ℕ = replicate (size it - length it) 0 in
    let t : drop e ys ≡ cells it ++ (cells zeros ++ behind) = s ∙ ap (λ l. l ++ behind) (map-append byte it zeros) ∙ append_assoc (cells it) (cells zeros) behind in
    let k : length (cells (laid it)) ≡ size it = length-map (laid it) byte ∙ laid_length it w.0 in
    let l : size it ≤ length (drop e ys) = omega (arith, ap length s, length-append (cells (laid it)) behind) in
    let r : Reads (drop e ys) it = record { rest = cells zeros ++ behind; starts = t; whole = w.0.0; good = roomier (size it) (length (drop e ys)) it l w.0.1 } in
    let next : drop (e + size it) ys ≡ behind = sym (drop-drop (size it) e ys) ∙ ap (drop (size it)) s ∙ drop_at (cells (laid it)) behind (size it) k in
    item_at ys e it (reads_stands (drop e ys) it r) ∙ ap (λ l. (e, it) ∷ l) (run_walk its ys (e + size it) n next w.1)

pub end_grows : (f : ℕ) (xs : List Cell) (p : ℕ) → p ≤ end_of p (walk_in f xs p)
unfolding walk_in
end_grows zero xs p = omega arith
end_grows (suc f) xs p = go (end_grows f xs) (stands (drop p xs))
  where
    go : ((q : ℕ) → q ≤ end_of q (walk_in f xs q)) → (o : Option Item) → p ≤ end_of p (met (walk_in f xs) p o)
    go below None = omega arith
    go below (Some it) = let h = below (p + size it) in omega arith

-- a part of two lists that are the same up to k
pub same_part : {X : Type 0} (k : ℕ) (xs ys : List X) → take k xs ≡ take k ys → (p n : ℕ) → p + n ≤ k → take n (drop p xs) ≡ take n (drop p ys)
same_part k xs ys t p n h =
    sym (drop-take p n xs) ∙ ap (drop p) (sym (take-take (p + n) k xs h) ∙ ap (take (p + n)) t ∙ take-take (p + n) k ys h) ∙ drop-take p n ys

-- the walk up to the end of another that is the same so far
module _ (xs ys : List Cell) (long : length xs ≡ length ys) (e : ℕ) (same : take e xs ≡ take e ys) where
  pub before : (f p : ℕ) → end_of p (walk_in f xs p) ≡ e → walk_from ys p ≡ walk_in f xs p ++ walk_from ys e
  unfolding walk_in
  before zero p h = ap (walk_from ys) h
  before (suc f) p h = go (before f) (stands (drop p xs)) refl h
    where
      go : ((q : ℕ) → end_of q (walk_in f xs q) ≡ e → walk_from ys q ≡ walk_in f xs q ++ walk_from ys e)
          → (o : Option Item) → stands (drop p xs) ≡ o → end_of p (met (walk_in f xs) p o) ≡ e → walk_from ys p ≡ met (walk_in f xs) p o ++ walk_from ys e
      go below None s h = ap (walk_from ys) h
      go below (Some it) s h =
          let g = end_grows f xs (p + size it) in
          let t = stays xs ys p it long (same_part e xs ys same p (size it) (omega (arith, g, h))) s in
          item_at ys p it t ∙ ap (λ l. (p, it) ∷ l) (below (p + size it) h)

end_append : (p : ℕ) (a b : List (ℕ × Item)) → end_of p (a ++ b) ≡ end_of (end_of p a) b
end_append p [] b = refl
end_append p (x ∷ a) b = end_append (x.0 + size x.1) a b

end_placed : (e : ℕ) (its : List Item) → AllWellFormed its → end_of e (placed e its) ≡ e + length (run its)
unfolding run
end_placed e [] w = omega arith
end_placed e (it ∷ its) w =
    let h = end_placed (e + size it) its w.1 in
    let l = laid_length it w.0 in
    let k = length-append (laid it) (run its) in
    omega arith

-- bytes laid at e
module _ (xs : List Cell) (e : ℕ) (bs : List ℕ) (room : e + length bs ≤ length xs) where
  long : length (cells bs) ≡ length bs
  long = length-map bs byte

  over_front : take e xs ≡ take e (over xs e (cells bs))
  over_front = sym (take_at (take e xs) _ e (length-take-le e xs (omega arith)))

  over_rest : drop e (over xs e (cells bs)) ≡ cells bs ++ drop (e + length bs) xs
  over_rest = drop_at (take e xs) _ e (length-take-le e xs (omega arith)) ∙ ap (λ k. cells bs ++ drop (e + k) xs) long

  over_length : length xs ≡ length (over xs e (cells bs))
  over_length =
      let l = long in
      simp (length-append, length-drop) (omega (arith, length-take-le e xs (omega arith)))

  -- and what a walk meets from there on, where all was blank and the bytes are a run of items
  module _ (its : List Item) (w : AllWellFormed its) (r : bs ≡ run its) (bare : drop e xs ≡ blank (length xs - e)) where
    blank_behind : drop (e + length bs) xs ≡ blank (length xs - (e + length bs))
    blank_behind =
        sym (drop-drop (length bs) e xs) ∙ ap (drop (length bs)) bare ∙ drop-replicate (length bs) (length xs - e) (byte 255) ∙ ap blank (omega arith)

    rest_walk : walk_from (over xs e (cells bs)) e ≡ placed e its
    rest_walk =
        run_walk its (over xs e (cells bs)) e (length xs - (e + length bs))
        (over_rest ∙ ap (λ l. cells bs ++ l) blank_behind ∙ ap (λ l. cells l ++ blank (length xs - (e + length bs))) r) w

    rest_end : end_of e (placed e its) ≡ e + length bs
    rest_end = end_placed e its w ∙ ap (λ l. e + length l) (sym r)

    rest_behind : drop (e + length bs) (over xs e (cells bs)) ≡ blank (length (over xs e (cells bs)) - (e + length bs))
    rest_behind =
        sym (drop-drop (length bs) e (over xs e (cells bs))) ∙ ap (drop (length bs)) over_rest ∙ drop_at (cells bs) _ (length bs) long
        ∙ blank_behind ∙ ap (λ n. blank (n - (e + length bs))) over_length

begun : (xs : List Cell) (e : ℕ) → 12 ≤ e → Ends xs e → marked xs ≡ true
begun xs e h n = go (marked xs) refl
  where
    go : (b : Bool) → marked xs ≡ b → marked xs ≡ true
    go true t = t
    go false t = absurd (let z : end_of 0 (walk xs) ≡ 0 = ap (end_of 0) (walk_bare xs t) in let y = n.at in omega arith)

pub appends : Appends
unfolding walk_from
appends xs e bs room its w r h n = (walked, record { at = ends; behind = rest_behind xs e bs room its w r n.behind })
  where
    ys : List Cell
    ys = over xs e (cells bs)

    front : take e xs ≡ take e ys
    front = over_front xs e bs room

    t : marked xs ≡ true
    t = begun xs e h n

    t' : marked ys ≡ true
    t' = cells_marked ys (sym (same_part e xs ys front 0 12 (omega arith)) ∙ marked_cells xs t)

    upto : end_of 0 (walk_in (length xs) xs 0) ≡ e
    upto = ap (end_of 0) (sym (walk_marked xs t)) ∙ n.at

    walked : walk ys ≡ walk xs ++ placed e its
    walked =
        walk_marked ys t'
        ∙ before xs ys (over_length xs e bs room) e front (length xs) 0 upto
        ∙ ap (λ l. l ++ walk_from ys e) (sym (walk_marked xs t))
        ∙ ap (λ l. walk xs ++ l) (rest_walk xs e bs room its w r n.behind)

    ends : end_of 0 (walk ys) ≡ e + length bs
    ends =
        ap (end_of 0) walked ∙ end_append 0 (walk xs) (placed e its) ∙ ap (λ p. end_of p (placed e its)) n.at
        ∙ rest_end xs e bs room its w r n.behind

pub marker_well : WellFormed marker
marker_well = (marker_reach, marker_passes (size marker) (let s = marker_size in omega arith))

pub opens : Opens
unfolding run size le32
opens xs bs room its w r b = (walked, subst (Ends ys) (zero-add (length bs)) (record { at = ap (end_of 0) walked ∙ rest_end xs 0 bs fits (marker ∷ its) all r bare; behind = rest_behind xs 0 bs fits (marker ∷ its) all r bare }))
  where
    ys : List Cell
    ys = over xs 0 (cells bs)

    fits : 0 + length bs ≤ length xs
    fits = omega arith

    bare : drop 0 xs ≡ blank (length xs - 0)
    bare = b ∙ ap blank (omega arith)

    all : AllWellFormed (marker ∷ its)
    all = (marker_well, w)

    begins : ys ≡ cells marker ++ (cells (run its) ++ drop (0 + length (cells bs)) xs)
    begins = ap (λ l. cells l ++ drop (0 + length (cells bs)) xs) r

    walked : walk ys ≡ placed 0 (marker ∷ its)
    walked = walk_marked ys (cells_marked ys (ap (take 12) begins)) ∙ rest_walk xs 0 bs fits (marker ∷ its) all r bare

cells_over : (xs : List ℕ) (e : ℕ) (w : List ℕ) → cells (over xs e w) ≡ over (cells xs) e (cells w)
cells_over xs e w =
    let n : length (cells w) ≡ length w = length-map w byte in
    map-append byte (take e xs) (w ++ drop (e + length w) xs)
    ∙ ap (λ l. l ++ cells (w ++ drop (e + length w) xs)) (sym (take-map byte e xs))
    ∙ ap (λ l. take e (cells xs) ++ l) (map-append byte w (drop (e + length w) xs))
    ∙ ap (λ l. take e (cells xs) ++ (cells w ++ l)) (sym (drop-map byte (e + length w) xs))
    ∙ ap (λ k. take e (cells xs) ++ (cells w ++ drop (e + k) (cells xs))) (sym n)

-- the same of a block of bytes
pub block_appends : (xs : List ℕ) (e : ℕ) (bs ys : List ℕ) → e + length bs ≤ length xs → ys ≡ over xs e bs → Appended (cells xs) e bs (cells ys)
block_appends xs e bs ys h o =
    subst (Appended (cells xs) e bs) (sym (ap cells o ∙ cells_over xs e bs)) (appends (cells xs) e bs (let l = length-map xs byte in omega arith))

pub block_opens : (xs : List ℕ) (e : ℕ) (bs ys : List ℕ) → e + length bs ≤ length xs → ys ≡ over xs e bs → e ≡ 0 → Opened (cells xs) bs (cells ys)
block_opens xs e bs ys h o z =
    let first : ys ≡ over xs 0 bs = o ∙ ap (λ n. over xs n bs) z in
    subst (Opened (cells xs) bs) (sym (ap cells first ∙ cells_over xs 0 bs)) (opens (cells xs) bs (let l = length-map xs byte in omega arith))
