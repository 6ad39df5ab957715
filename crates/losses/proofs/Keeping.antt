-- What a loss cannot take: items in a first part of the cells that is as it was to be.
use Rattle.std.proofs.Common.{◌≡◌, ℕ, zero, suc, ◌+◌, ◌≤◌, Bool, true, false, cond, leb, List, [], ◌∷◌, ◌++◌, length, take, drop, Some, None, Option, sym, refl, ap, ◌∙◌, subst, ⊎_elim, arith}
use mathlib.Core.List.Memᴰ
use mathlib.Core.List.{Memᴰ}
use Rattle.std.proofs.lemmas.Bool.{leb-true, lt-leb, cases_lt}
use Rattle.flash.specs.Cells.{Cell}
use Rattle.nodes.specs.Items.{Item, stands, size}
use Rattle.nodes.specs.Walk.{walk_in, walk_from, walk, met, marked, marker}
use Rattle.nodes.proofs.Standing.{stands_reads, sized}
use Rattle.nodes.proofs.Walks.{fuel, item_at}
use Rattle.nodes.proofs.Marks.{marked_cells, cells_marked, marker_stands, marker_size, walk_marked, walk_bare}
use Rattle.encode.proofs.Laying.{same_part}
use Rattle.losses.specs.Left.{FirstPart, finished, Kept}
use Rattle.losses.proofs.Leaving.{again, leading}

-- the places of a walk do not lie before its start
places : (f : ℕ) (xs : List Cell) (p : ℕ) (x : ℕ × Item) → Memᴰ x (walk_in f xs p) → p ≤ x.0
unfolding walk_in
places zero xs p x m = absurd (Memᴰ.not-nil m)
places (suc f) xs p x m = go (λ q. places f xs q x) (stands (drop p xs)) m
  where
    go : ((q : ℕ) → Memᴰ x (walk_in f xs q) → q ≤ x.0) → (o : Option Item) → Memᴰ x (met (walk_in f xs) p o) → p ≤ x.0
    go below None m = absurd (Memᴰ.not-nil m)
    go below (Some it) m =
        ⊎_elim (λ (e : x ≡ (p, it)). let q : x.0 ≡ p = ap (λ (y : ℕ × Item). y.0) e in omega arith)
        (λ n. let q : p + size it ≤ x.0 = below (p + size it) n in omega arith) (Memᴰ.cases_cons m)

module _ (want got : List Cell) (long : length want ≡ length got) (k : ℕ) (same : take k want ≡ take k got) where
  -- an item of which all that decides it lies before k stands again
  here : (p : ℕ) (it : Item) → p + length it ≤ k → stands (drop p want) ≡ Some it → stands (drop p got) ≡ Some it
  here p it l s = again want got long p it (length it) (omega arith) (same_part k want got same p (length it) l) s

  -- twelve cells that are the same bear the marker in both
  both_marked : 12 ≤ k → marked want ≡ true → marked got ≡ true
  both_marked l t = cells_marked got (sym (same_part k want got same 0 12 (omega arith)) ∙ marked_cells want t)

  module _ (x : ℕ × Item) (within : x.0 + length x.1 ≤ k) where
    settled_in : (f p : ℕ) → Memᴰ x (walk_in f want p) → Memᴰ x (walk_from got p)
    unfolding walk_in
    settled_in zero p m = absurd (Memᴰ.not-nil m)
    settled_in (suc f) p m = go (settled_in f) (stands (drop p want)) refl m
      where
        go : ((q : ℕ) → Memᴰ x (walk_in f want q) → Memᴰ x (walk_from got q))
            → (o : Option Item) → stands (drop p want) ≡ o → Memᴰ x (met (walk_in f want) p o) → Memᴰ x (walk_from got p)
        go below None s m = absurd (Memᴰ.not-nil m)
        go below (Some it) s m =
            let z = sized (drop p want) it (stands_reads (drop p want) it s) in
            ⊎_elim
            (λ (e : x ≡ (p, it)).
            let q : x.0 ≡ p = ap (λ (y : ℕ × Item). y.0) e in
            let r : length x.1 ≡ length it = ap (λ (y : ℕ × Item). length y.1) e in
            subst (Memᴰ x) (sym (item_at got p it (here p it (omega arith) s))) (Memᴰ.head e))
            (λ n.
            let q : p + size it ≤ x.0 = places f want (p + size it) x n in
            subst (Memᴰ x) (sym (item_at got p it (here p it (omega (arith, z.1)) s))) (Memᴰ.tail (below (p + size it) n)))
            (Memᴰ.cases_cons m)

    twelve : marked want ≡ true → Memᴰ x (walk_from want 0) → 12 ≤ k
    twelve t m =
        ⊎_elim
        (λ (e : x ≡ (0, marker)). let r : length x.1 ≡ 12 = ap (λ (y : ℕ × Item). length y.1) e in omega arith)
        (λ n. let q : 0 + size marker ≤ x.0 = places (length want) want (0 + size marker) x (subst (Memᴰ x) (sym (fuel (length want) want (0 + size marker) (omega arith))) n) in omega (arith, marker_size))
        (Memᴰ.cases_cons (subst (Memᴰ x) (item_at want 0 marker (marker_stands want t)) m))

    keeps_each : Memᴰ x (walk want) → Memᴰ x (walk got)
    unfolding walk_from
    keeps_each m = go (marked want) refl
      where
        go : (b : Bool) → marked want ≡ b → Memᴰ x (walk got)
        go false t = absurd (Memᴰ.not-nil (subst (Memᴰ x) (walk_bare want t) m))
        go true t =
            let n = subst (Memᴰ x) (walk_marked want t) m in
            subst (Memᴰ x) (sym (walk_marked got (both_marked (twelve t n) t))) (settled_in (length want) 0 n)

  first_kept : (f p : ℕ) → FirstPart (finished k (walk_in f want p)) (walk_from got p)
  unfolding walk_in
  first_kept zero p = (walk_from got p, refl)
  first_kept (suc f) p = go (first_kept f) (stands (drop p want)) refl
    where
      turn : (it : Item) → stands (drop p want) ≡ Some it → FirstPart (finished k (walk_in f want (p + size it))) (walk_from got (p + size it))
          → (t : Bool) → leb (p + length it) k ≡ t → FirstPart (cond t ((p, it) ∷ finished k (walk_in f want (p + size it))) []) (walk_from got p)
      turn it s below true t = (below.0, item_at got p it (here p it (leb-true _ _ t) s) ∙ ap (λ l. (p, it) ∷ l) below.1)
      turn it s below false t = (walk_from got p, refl)

      go : ((q : ℕ) → FirstPart (finished k (walk_in f want q)) (walk_from got q))
          → (o : Option Item) → stands (drop p want) ≡ o → FirstPart (finished k (met (walk_in f want) p o)) (walk_from got p)
      go below None s = (walk_from got p, refl)
      go below (Some it) s = turn it s (below (p + size it)) (leb (p + length it) k) refl

  -- where the marker does not lie before k, nothing does
  none_finished : k + 1 ≤ 12 → marked want ≡ true → finished k (walk_from want 0) ≡ []
  none_finished l t =
      ap (finished k) (item_at want 0 marker (marker_stands want t))
      ∙ ap (λ b. cond b ((0, marker) ∷ finished k (walk_from want (0 + size marker))) []) (lt-leb (0 + length marker) k (omega arith))

  keeps_first : FirstPart (finished k (walk want)) (walk got)
  unfolding walk_from
  keeps_first = go (marked want) refl
    where
      go : (b : Bool) → marked want ≡ b → FirstPart (finished k (walk want)) (walk got)
      go false t = (walk got, ap (λ l. finished k l ++ walk got) (sym (walk_bare want t)))
      go true t =
          ⊎_elim
          (λ l. (walk got, ap (λ i. i ++ walk got) (sym (ap (finished k) (walk_marked want t) ∙ none_finished (omega arith) t))))
          (λ l.
          let f = first_kept (length want) 0 in
          (f.0, walk_marked got (both_marked l t) ∙ f.1 ∙ ap (λ i. finished k i ++ f.0) (sym (walk_marked want t))))
          (cases_lt k 12)

  pub keeps : Kept k (walk want) (walk got)
  keeps = record { each = λ x m l. keeps_each x l m; leading = leading (finished k (walk want)) (walk got) keeps_first }
