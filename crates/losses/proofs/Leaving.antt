-- What a fair loss leaves of a row of cells.
use Rattle.std.proofs.Common.{◌≡◌, ℕ, zero, suc, ◌+◌, ◌<◌, ◌≤◌, Bool, true, false, cond, not, List, [], ◌∷◌, ◌++◌, length, take, drop, Some, None, Option, sym, refl, ap, ◌∙◌, subst, arith, length-drop}
use Rattle.std.proofs.lemmas.Bool.{leb-true, cond-true, cond-false, ne_eqb, not-true, both_ways, false≢true}
use Rattle.std.proofs.lemmas.Bool.Decides.{nat_tests}
use Rattle.flash.specs.Cells.{Cell}
use Rattle.nodes.specs.Items.{Item, totlen, is_word, reach, header, stands, size}
use Rattle.nodes.specs.Walk.{walk_in, walk_from, walk, met, marked, marker, alike}
use Rattle.nodes.proofs.Standing.{Reads, stands_reads, reads_stands, moved, at_all, headed, reach_word}
use Rattle.nodes.proofs.Walks.{item_at, none_at}
use Rattle.nodes.proofs.Marks.{alike_take, marker_stands, marker_size, walk_marked, walk_bare}
use Rattle.losses.specs.Fair.{counted, parting, absent, nothing_at, fair, Fair}
use Rattle.losses.specs.Left.{FirstPart, is_node, nodes_of, Leading}

pub counted_word : (it : Item) → is_word it ≡ true → counted it ≡ 4
unfolding counted
counted_word it e = cond-true _ _ _ e

counted_more : (it : Item) → is_word it ≡ false → 12 ≤ totlen it → reach it ≤ counted it
unfolding counted reach
counted_more it e l = grind (arith, nat_tests)

-- what decides an item counts
covered : (cs : List Cell) (it : Item) → Reads cs it → length it ≤ counted it
covered cs it r = go (is_word it) refl
  where
    go : (b : Bool) → is_word it ≡ b → length it ≤ counted it
    go true e = omega (arith, counted_word it e, reach_word it e, r.whole)
    go false e =
        let a = headed (length cs) it e r.good in
        let low = leb-true 12 (totlen it) (at_all (header (length cs) it) a 3) in
        omega (arith, counted_more it e low, r.whole)

-- what passes nowhere but at the start
pub elsewhere_nothing : (p : ℕ) (got : List Cell) → 0 < p → nothing_at p got ≡ absent (stands (drop p got))
unfolding nothing_at
elsewhere_nothing p got h = cond-false _ _ _ (ne_eqb p 0 (λ e. omega arith))

pub start_nothing : (got : List Cell) → nothing_at 0 got ≡ not (marked got)
unfolding nothing_at
start_nothing got = refl

absent_none : (o : Option Item) → absent o ≡ true → o ≡ None
absent_none None e = refl
absent_none (Some it) e = absurd (false≢true e)

nodes_append : (a b : List (ℕ × Item)) → nodes_of (a ++ b) ≡ nodes_of a ++ nodes_of b
nodes_append [] b = refl
nodes_append (x ∷ a) b = ap (λ l. cond (is_node x.1) (x.1 ∷ l) l) (nodes_append a b) ∙ sym (out (is_node x.1) x.1 (nodes_of a) (nodes_of b))
  where
    out : (t : Bool) (it : Item) (m n : List Item) → cond t (it ∷ m) m ++ n ≡ cond t (it ∷ (m ++ n)) (m ++ n)
    out true it m n = refl
    out false it m n = refl

-- first items have first nodes
pub leading : (xs ys : List (ℕ × Item)) → FirstPart xs ys → Leading xs ys
leading xs ys f = record { items = f; nodes = (nodes_of f.0, ap nodes_of f.1 ∙ nodes_append xs f.0) }

module _ (want got : List Cell) where
  -- the places where rows part do not lie before the start of the items
  pub parting_grows : (f p : ℕ) → p ≤ parting want got p (walk_in f want p)
  unfolding walk_in
  parting_grows zero p = omega arith
  parting_grows (suc f) p = go (parting_grows f) (stands (drop p want))
    where
      turn : (t : Bool) (p q r : ℕ) → p ≤ q → q ≤ r → p ≤ cond t r p
      turn true p q r h k = omega arith
      turn false p q r h k = omega arith

      go : ((q : ℕ) → q ≤ parting want got q (walk_in f want q)) → (o : Option Item) → p ≤ parting want got p (met (walk_in f want) p o)
      go below None = omega arith
      go below (Some it) =
          turn (alike (counted it) (drop p want) (drop p got)) p (p + size it) (parting want got (p + size it) (walk_in f want (p + size it))) (omega arith)
          (below (p + size it))

module _ (want got : List Cell) (long : length want ≡ length got) where
  -- an item stands again where the cells that decide it are the same
  pub again : (p : ℕ) (it : Item) (n : ℕ) → length it ≤ n → take n (drop p want) ≡ take n (drop p got) → stands (drop p want) ≡ Some it → stands (drop p got) ≡ Some it
  again p it n l t e =
      reads_stands (drop p got) it
      (moved (drop p want) (drop p got) it n (omega (arith, length-drop p want, length-drop p got)) l t (stands_reads (drop p want) it e))

  pub kept : (p : ℕ) (it : Item) → alike (counted it) (drop p want) (drop p got) ≡ true → stands (drop p want) ≡ Some it → stands (drop p got) ≡ Some it
  kept p it t e = again p it (counted it) (covered (drop p want) it (stands_reads (drop p want) it e)) (alike_take (counted it) (drop p want) (drop p got) t) e

  none : (p : ℕ) (ys : List (ℕ × Item)) → stands (drop p got) ≡ None → FirstPart (walk_from got p) ys
  none p ys e = (ys, ap (λ l. l ++ ys) (sym (none_at got p e)))

  more : (p : ℕ) (it : Item) (ys : List (ℕ × Item)) → stands (drop p got) ≡ Some it → FirstPart (walk_from got (p + size it)) ys → FirstPart (walk_from got p) ((p, it) ∷ ys)
  more p it ys e f = (f.0, ap (λ l. (p, it) ∷ l) f.1 ∙ ap (λ l. l ++ f.0) (sym (item_at got p it e)))

  turn : (p : ℕ) (it : Item) (ys : List (ℕ × Item)) → stands (drop p want) ≡ Some it → (t : Bool) → alike (counted it) (drop p want) (drop p got) ≡ t
      → (stands (drop (parting want got (p + size it) ys) got) ≡ None → FirstPart (walk_from got (p + size it)) ys)
      → stands (drop (cond t (parting want got (p + size it) ys) p) got) ≡ None
      → FirstPart (walk_from got p) ((p, it) ∷ ys)
  turn p it ys s true t below e = more p it ys (kept p it t s) (below e)
  turn p it ys s false t below e = none p _ e

  first_part : (f p : ℕ) → stands (drop (parting want got p (walk_in f want p)) got) ≡ None → FirstPart (walk_from got p) (walk_in f want p)
  unfolding walk_in
  first_part zero p e = none p [] e
  first_part (suc f) p e = go (first_part f) (stands (drop p want)) refl e
    where
      go : ((q : ℕ) → stands (drop (parting want got q (walk_in f want q)) got) ≡ None → FirstPart (walk_from got q) (walk_in f want q))
          → (o : Option Item) → stands (drop p want) ≡ o → stands (drop (parting want got p (met (walk_in f want) p o)) got) ≡ None
          → FirstPart (walk_from got p) (met (walk_in f want) p o)
      go below None s e = none p [] e
      go below (Some it) s e = turn p it (walk_in f want (p + size it)) s (alike (counted it) (drop p want) (drop p got)) refl (below (p + size it)) e

  -- both begin with the marker: what parts them lies behind it
  behind_marker : marked got ≡ true → (t : Bool)
      → nothing_at (cond t (parting want got (0 + size marker) (walk_from want (0 + size marker))) 0) got ≡ true
      → FirstPart (walk_from got (0 + size marker)) (walk_from want (0 + size marker))
  unfolding walk_from
  behind_marker u false e = absurd (both_ways (marked got) (not-true (marked got) (sym (start_nothing got) ∙ e)) u)
  behind_marker u true e =
      let q = parting want got (0 + size marker) (walk_from want (0 + size marker)) in
      let l : 0 + size marker ≤ q = parting_grows want got (length want) (0 + size marker) in
      first_part (length want) (0 + size marker)
      (absent_none (stands (drop q got)) (sym (elsewhere_nothing q got (omega (arith, marker_size))) ∙ e))

  leaves : Fair want (walk want) got → FirstPart (walk got) (walk want)
  unfolding fair
  leaves f = go (marked want) refl (marked got) refl
    where
      go : (a : Bool) → marked want ≡ a → (b : Bool) → marked got ≡ b → FirstPart (walk got) (walk want)
      go a t false u = (walk want, ap (λ l. l ++ walk want) (sym (walk_bare got u)))
      go false t true u =
          let n : nothing_at 0 got ≡ true = subst (λ (l : List (ℕ × Item)). nothing_at (parting want got 0 l) got ≡ true) (walk_bare want t) f in
          absurd (both_ways (marked got) (not-true (marked got) (sym (start_nothing got) ∙ n)) u)
      go true t true u =
          let w = walk_marked want t ∙ item_at want 0 marker (marker_stands want t) in
          let b = behind_marker u (alike (counted marker) want got) (subst (λ (l : List (ℕ × Item)). nothing_at (parting want got 0 l) got ≡ true) w f) in
          let m = more 0 marker (walk_from want (0 + size marker)) (marker_stands got u) b in
          (m.0, w ∙ m.1 ∙ ap (λ l. l ++ m.0) (sym (walk_marked got u)))

  pub left : Fair want (walk want) got → Leading (walk got) (walk want)
  left f = leading (walk got) (walk want) (leaves f)
