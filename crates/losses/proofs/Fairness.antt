-- Where all can be read and nothing is lost, the loss is fair.
use Rattle.std.proofs.Common.{◌≡◌, ℕ, zero, suc, ◌+◌, ◌<◌, ◌≤◌, Bool, true, false, not, List, [], ◌∷◌, length, drop, Some, None, Option, sym, refl, ap, ◌∙◌, subst, arith, length-drop}
use Rattle.std.proofs.lemmas.List.{length-map, drop-map}
use Rattle.std.proofs.lemmas.Bool.{leb-true, eq-eqb, cond-true}
use Rattle.std.proofs.lemmas.Bool.Decides.{nat_tests}
use Rattle.flash.specs.Cells.{Cell, byte, cells}
use Rattle.nodes.specs.Fields.{padded}
use Rattle.nodes.specs.Items.{Item, totlen, is_word, header, stands, size}
use Rattle.nodes.specs.Walk.{walk_in, walk_from, walk, met, marked, marker, alike}
use Rattle.nodes.proofs.Standing.{Reads, stands_reads, sized, at_all, headed}
use Rattle.nodes.proofs.Walks.{item_at}
use Rattle.nodes.proofs.Marks.{marker_stands, marker_size, walk_marked, walk_bare}
use Rattle.losses.specs.Fair.{counted, parting, absent, nothing_at, fair, Fair}
use Rattle.losses.proofs.Leaving.{counted_word, elsewhere_nothing, start_nothing, parting_grows}

alike_self : (n : ℕ) (bs : List ℕ) → n ≤ length bs → alike n (cells bs) (cells bs) ≡ true
unfolding alike
alike_self zero bs h = refl
alike_self (suc n) [] h = absurd (omega arith)
alike_self (suc n) (b ∷ bs) h = cond-true _ _ _ (eq-eqb b b refl) ∙ alike_self n bs (omega arith)

counted_least : (it : Item) → 12 ≤ totlen it → is_word it ≡ false → counted it ≤ totlen it
unfolding counted
counted_least it l w = grind (arith, nat_tests)

counted_some : (it : Item) → 12 ≤ totlen it → is_word it ≡ false → 0 < counted it
unfolding counted
counted_some it l w = grind (arith, nat_tests)

-- what counts of an item is something, and lies in the block
pub counted_fits : (cs : List Cell) (it : Item) → Reads cs it → (0 < counted it) × (counted it ≤ length cs)
unfolding size
counted_fits cs it r = go (is_word it) refl
  where
    s : (4 ≤ size it) × (length it ≤ size it) × (size it ≤ length cs)
    s = sized cs it r

    go : (b : Bool) → is_word it ≡ b → (0 < counted it) × (counted it ≤ length cs)
    go true e = (omega (arith, counted_word it e), omega (arith, counted_word it e, s))
    go false e =
        let a = headed (length cs) it e r.good in
        let low = leb-true 12 (totlen it) (at_all (header (length cs) it) a 3) in
        let high = leb-true (padded (totlen it)) (length cs) (at_all (header (length cs) it) a 4) in
        (counted_some it low e, omega (arith, counted_least it low e))

module _ (bs : List ℕ) where
  counts : (p : ℕ) (it : Item) → stands (drop p (cells bs)) ≡ Some it → alike (counted it) (drop p (cells bs)) (drop p (cells bs)) ≡ true
  counts p it s =
      let r = stands_reads (drop p (cells bs)) it s in
      let d : drop p (cells bs) ≡ cells (drop p bs) = drop-map byte p bs in
      let l : counted it ≤ length (drop p bs) = omega (arith, counted_fits (drop p (cells bs)) it r, ap length d, length-map (drop p bs) byte) in
      subst (λ c. alike (counted it) c c ≡ true) (sym d) (alike_self (counted it) (drop p bs) l)

  end_none : (f p : ℕ) → length bs ≤ p + f → stands (drop (parting (cells bs) (cells bs) p (walk_in f (cells bs) p)) (cells bs)) ≡ None
  unfolding walk_in
  end_none zero p h = go (stands (drop p (cells bs))) refl
    where
      go : (o : Option Item) → stands (drop p (cells bs)) ≡ o → stands (drop p (cells bs)) ≡ None
      go None e = e
      go (Some it) e = absurd (omega (arith, sized (drop p (cells bs)) it (stands_reads (drop p (cells bs)) it e), length-drop p (cells bs), length-map bs byte))
  end_none (suc f) p h = go (end_none f) (stands (drop p (cells bs))) refl
    where
      go : ((q : ℕ) → length bs ≤ q + f → stands (drop (parting (cells bs) (cells bs) q (walk_in f (cells bs) q)) (cells bs)) ≡ None)
          → (o : Option Item) → stands (drop p (cells bs)) ≡ o → stands (drop (parting (cells bs) (cells bs) p (met (walk_in f (cells bs)) p o)) (cells bs)) ≡ None
      go below None s = s
      go below (Some it) s =
          let z = sized (drop p (cells bs)) it (stands_reads (drop p (cells bs)) it s) in
          ap (λ q. stands (drop q (cells bs))) (cond-true _ _ p (counts p it s)) ∙ below (p + size it) (omega arith)

  behind_marker : marked (cells bs) ≡ true
      → nothing_at (parting (cells bs) (cells bs) (0 + size marker) (walk_from (cells bs) (0 + size marker))) (cells bs) ≡ true
  unfolding walk_from
  behind_marker t =
      let q = parting (cells bs) (cells bs) (0 + size marker) (walk_from (cells bs) (0 + size marker)) in
      let l : 0 + size marker ≤ q = parting_grows (cells bs) (cells bs) (length (cells bs)) (0 + size marker) in
      elsewhere_nothing q (cells bs) (omega (arith, marker_size))
      ∙ ap absent (end_none (length (cells bs)) (0 + size marker) (omega (arith, length-map bs byte)))

  pub nothing_lost : Fair (cells bs) (walk (cells bs)) (cells bs)
  unfolding fair
  nothing_lost = go (marked (cells bs)) refl
    where
      xs : List Cell
      xs = cells bs

      go : (b : Bool) → marked xs ≡ b → nothing_at (parting xs xs 0 (walk xs)) xs ≡ true
      go false t = ap (λ l. nothing_at (parting xs xs 0 l) xs) (walk_bare xs t) ∙ start_nothing xs ∙ ap not t
      go true t =
          ap (λ l. nothing_at (parting xs xs 0 l) xs) (walk_marked xs t ∙ item_at xs 0 marker (marker_stands xs t))
          ∙ ap (λ q. nothing_at q xs) (cond-true _ _ 0 (counts 0 marker (marker_stands xs t))) ∙ behind_marker t
