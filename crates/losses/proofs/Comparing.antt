-- Bytes of two blocks, as the code compares what it read of them.
use Rattle.std.proofs.Common.{◌≡◌, ℕ, zero, suc, ◌+◌, ◌-◌, ◌≤◌, Bool, true, false, cond, eqb, List, [], ◌∷◌, drop, Some, None, Option, MatchOption, Bor, sym, refl, ap, ◌∙◌, subst, inl, inr, arith}
use Rattle.std.proofs.lemmas.List.{drop-drop}
use Rattle.std.specs.Option.{option_zip}
use Rattle.std.specs.Str.{bytes_eq}
use Rattle.flash.specs.Cells.{Cell, byte, lost}
use Rattle.nodes.specs.Seen.{IsRead}
use Rattle.nodes.specs.Walk.{alike}
use Rattle.nodes.proofs.Marks.{alike_read, alike_short}

module _ (n : ℕ) (xs ys : List Cell) (r : Bool) (P : Bor (List ℕ) × Bor (List ℕ) → Type 0) (says : (p : Bor (List ℕ) × Bor (List ℕ)) → P p → r ≡ bytes_eq p.0.now p.1.now) where
  pair_alike : (a b : Option (Bor (List ℕ))) → IsRead xs n a → IsRead ys n b → MatchOption (option_zip a b) (r ≡ false) P → r ≡ alike n xs ys
  pair_alike None b f g h = h ∙ sym (alike_short n xs ys (inl f))
  pair_alike (Some a) None f g h = h ∙ sym (alike_short n xs ys (inr g))
  pair_alike (Some a) (Some b) f g h =
      says (a, b) h ∙ ap (λ x. bytes_eq x b.now) f.1 ∙ ap (bytes_eq _) g.1 ∙ alike_read n xs ys f.0 g.0

  pub read_alike : (a b : Option (Bor (List ℕ))) (o : Option (Bor (List ℕ) × Bor (List ℕ))) → IsRead xs n a → IsRead ys n b → o ≡ option_zip a b → MatchOption o (r ≡ false) P → r ≡ alike n xs ys
  read_alike a b o f g e h = pair_alike a b f g (subst (λ z. MatchOption z (r ≡ false) P) e h)

-- the first m of n cells, and then the k behind them
alike_parts : (n m k : ℕ) (xs ys : List Cell) → n ≡ m + k → alike n xs ys ≡ cond (alike m xs ys) (alike k (drop m xs) (drop m ys)) false
unfolding alike
alike_parts n zero k xs ys e = ap (λ j. alike j xs ys) (let z : n ≡ k = omega arith in z)
alike_parts zero (suc m) k xs ys e = absurd (omega arith)
alike_parts (suc n) (suc m) k [] ys e = refl
alike_parts (suc n) (suc m) k (lost ∷ xs) ys e = refl
alike_parts (suc n) (suc m) k (byte a ∷ xs) [] e = refl
alike_parts (suc n) (suc m) k (byte a ∷ xs) (lost ∷ ys) e = refl
alike_parts (suc n) (suc m) k (byte a ∷ xs) (byte b ∷ ys) e = go (eqb a b) (alike_parts n m k xs ys (omega arith))
  where
    go : (t : Bool) → alike n xs ys ≡ cond (alike m xs ys) (alike k (drop m xs) (drop m ys)) false
        → cond t (alike n xs ys) false ≡ cond (cond t (alike m xs ys) false) (alike k (drop m xs) (drop m ys)) false
    go true h = h
    go false h = refl

-- of the cells from i up to the end the next m decide first
pub same_part : (xs ys : List Cell) (end i m : ℕ) {t b : Bool} → i + m ≤ end → t ≡ alike m (drop i xs) (drop i ys) → alike (end - i) (drop i xs) (drop i ys) ≡ b
    → cond t (alike (end - (i + m)) (drop (i + m) xs) (drop (i + m) ys)) false ≡ b
same_part xs ys end i m l t e =
    rw (t, ← drop-drop m i xs, ← drop-drop m i ys)
    (sym (alike_parts (end - i) m (end - (i + m)) (drop i xs) (drop i ys) (omega arith)) ∙ e)

-- behind the end nothing is left
pub same_all : (xs ys : List Cell) (end i : ℕ) {b : Bool} → end ≤ i → alike (end - i) (drop i xs) (drop i ys) ≡ b → true ≡ b
unfolding alike
same_all xs ys end i l e = ap (λ k. alike k (drop i xs) (drop i ys)) (let z : 0 ≡ end - i = omega arith in z) ∙ e
