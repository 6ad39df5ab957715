-- Folds: over the records that a test picks, over rows of records, two at once, and one that is seen through a view.
use Rattle.std.proofs.Common.{◌≡◌, ℕ, ◌+◌, min, ◌≤◌, length, count_by, Bool, true, false, cond, List, [], ◌∷◌, Some, None, fold, filter, flat_map, map, Option, sym, refl, ap, subst, ◌∙◌, arith}
use Rattle.std.specs.Fn.{Called}
use Rattle.std.specs.Iterator.{Drains}
use Rattle.std.specs.List.{FoldsTo}
use Rattle.std.proofs.lemmas.Iterator.{YieldsList, items_from_drains}
use Rattle.std.proofs.lemmas.List.Sums.{length-filter, fold-append}
use denote.Param.Members.{Mut}
use Rattle.tree.specs.Newest.{newest, better}
use Rattle.tree.proofs.Newest.{scanned}

-- the picked ones alone, or all with a test at each
pub folded_filter : {X Y : Type 0} (f : Y → X → Y) (p : X → Bool) (a : Y) (xs : List X) → fold f a (filter p xs) ≡ fold (λ b x. cond (p x) (f b x) b) a xs
folded_filter f p a [] = refl
folded_filter f p a (x ∷ xs) = go (p x) (folded_filter f p (f a x) xs) (folded_filter f p a xs)
  where
    go : (b : Bool) → fold f (f a x) (filter p xs) ≡ fold (λ b x. cond (p x) (f b x) b) (f a x) xs
        → fold f a (filter p xs) ≡ fold (λ b x. cond (p x) (f b x) b) a xs
        → fold f a (cond b (x ∷ filter p xs) (filter p xs)) ≡ fold (λ b x. cond (p x) (f b x) b) (cond b (f a x) a) xs
    go true more rest = more
    go false more rest = rest

-- two folds in one
pub folded_both : {X Y Z : Type 0} (f : Y → X → Y) (g : Z → X → Z) (a : Y) (b : Z) (xs : List X)
    → fold (λ (s : Y × Z) x. (f s.0 x, g s.1 x)) (a, b) xs ≡ (fold f a xs, fold g b xs)
folded_both f g a b [] = refl
folded_both f g a b (x ∷ xs) = folded_both f g (f a x) (g b x) xs

-- the newest of the picked ones, one record more at a time
pub newest_picked : {R : Type 0} (version : R → ℕ) (picked : R → Bool) (rs : List R) → fold (λ best r. Some (better version best r)) None (filter picked rs) ≡ newest version picked rs
newest_picked version picked rs = folded_filter _ picked None rs ∙ scanned version picked rs

-- a count that stops at m
counted_on : {X : Type 0} (m a : ℕ) (xs : List X) → a ≤ m → fold (λ n _. min (n + 1) m) a xs ≡ min (a + length xs) m
counted_on m a [] h = omega arith
counted_on m a (x ∷ xs) h = counted_on m (min (a + 1) m) xs (omega arith) ∙ omega arith

pub counted : {X : Type 0} (picked : X → Bool) (m : ℕ) (xs : List X) → fold (λ n _. min (n + 1) m) 0 (filter picked xs) ≡ min (count_by picked xs) m
counted picked m xs =
    let e : length (filter picked xs) ≡ count_by picked xs = length-filter picked xs in
    counted_on m 0 (filter picked xs) (omega arith) ∙ omega arith

-- what is folded over rows, row by row, is folded over all their elements
pub folded_rows : {W X Y : Type 0} (f : Y → X → Y) (g : W → List X) (a : Y) (ws : List W) → fold (λ b w. fold f b (g w)) a ws ≡ fold f a (flat_map g ws)
folded_rows f g a [] = refl
folded_rows f g a (w ∷ ws) = folded_rows f g (fold f a (g w)) ws ∙ sym (fold-append f a (g w) (flat_map g ws))

-- what a chain's `fold` gives, seen by w, where each turn is h on what is seen of what was so far and of the item
module _ {A B C D F : Type 0} (v : A → B) (w : C → D) (g : Mut F (C × (A × Unit {0})) C) (h : D → B → D) (f : F)
    (turn : (a : C) (x : A) (r : C) (q : F) → Called g f (a, (x, tt)) r q → (q ≡ f) × (w r ≡ h (w a) (v x))) where
  turns_seen : (xs : List A) (p q : F × C) → p.0 ≡ f → FoldsTo {P = F × C} (λ a x b. Called g a.0 (a.1, (x, tt)) b.1 b.0) p xs q → w q.1 ≡ fold h (w p.1) (map v xs)
  turns_seen [] p q e c = ap (λ z. w z.1) (sym c)
  turns_seen (x ∷ xs) p q e c =
      let m = turn p.1 x c.0.1 c.0.0 (subst (λ z. Called g z (p.1, (x, tt)) c.0.1 c.0.0) e c.1) in
      turns_seen xs c.0 q m.0 c.2 ∙ ap (λ b. fold h b (map v xs)) m.1

  pub fold_seen : {S : Type 0} {steps : S → Option A → S → Type 0} {s : S} {all : List B} (init r : C)
      → ((xs : List A) × (q : F) × Drains steps s xs × FoldsTo {P = F × C} (λ a x b. Called g a.0 (a.1, (x, tt)) b.1 b.0) (f, init) xs (q, r)) → YieldsList steps v s all
      → w r ≡ fold h (w init) all
  fold_seen init r d e = turns_seen d.0 (f, init) (d.1, r) refl d.3 ∙ ap (fold h (w init)) (items_from_drains d.0 (d.2.1.0, d.2.1.1, λ _. (d.2.0, d.2.1.2)) e)
