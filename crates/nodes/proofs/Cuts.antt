-- The cells of a block, from the bytes as they were read and the flags of its pages.
use Rattle.std.proofs.Common.{◌≡◌, ℕ, zero, suc, ◌+◌, ◌-◌, ◌*◌, ◌/◌, ◌<◌, ◌≤◌, Bool, true, false, cond, List, [], ◌∷◌, length, get_or, take, drop, Some, None, Option, MatchOption, Bor, sym, refl, ap, ◌∙◌, ⊎_elim, arith}
use Rattle.std.proofs.lemmas.List.{get_or-drop, get_or-take, get_or_past}
use Rattle.std.proofs.lemmas.List.Recursion.{and_at}
use Rattle.std.specs.Int.{div_ceil}
use Rattle.std.specs.List.{list_all, slice_range}
use Rattle.std.specs.Slice.{IsGetRangeResult}
use Rattle.std.proofs.lemmas.Bool.{cond-true, cond-false, cases_lt, true≢false, false≢true}
use Rattle.flash.specs.Cells.{byte, lost, front}
use Rattle.nodes.specs.Seen.{seen_from, readable}

pub length_seen : (fs : List Bool) (at : ℕ) (bs : List ℕ) → length (seen_from fs at bs) ≡ length bs
unfolding seen_from
length_seen fs at [] = refl
length_seen fs at (b ∷ bs) = ap suc (length_seen fs (suc at) bs)

pub drop_seen : (fs : List Bool) (at n : ℕ) (bs : List ℕ) → drop n (seen_from fs at bs) ≡ seen_from fs (at + n) (drop n bs)
unfolding seen_from
drop_seen fs at zero bs = ap (λ k. seen_from fs k bs) (let e : at ≡ at + 0 = omega arith in e)
drop_seen fs at (suc n) [] = refl
drop_seen fs at (suc n) (b ∷ bs) = drop_seen fs (suc at) n bs ∙ ap (λ k. seen_from fs k (drop n bs)) (let e : suc at + n ≡ at + suc n = omega arith in e)

-- the bytes up to the first that cannot be read are the first of all
pub front_seen : (fs : List Bool) (at : ℕ) (bs : List ℕ) → front (seen_from fs at bs) ≡ take (length (front (seen_from fs at bs))) bs
unfolding seen_from front
front_seen fs at [] = refl
front_seen fs at (b ∷ bs) = go (get_or fs (at / 4) false) (front_seen fs (suc at) bs)
  where
    go : (t : Bool) → front (seen_from fs (suc at) bs) ≡ take (length (front (seen_from fs (suc at) bs))) bs → front (cond t (byte b) lost ∷ seen_from fs (suc at) bs) ≡ take (length (front (cond t (byte b) lost ∷ seen_from fs (suc at) bs))) (b ∷ bs)
    go true h = ap (λ l. b ∷ l) h
    go false h = refl

-- so many bytes are readable just where the first unreadable one lies behind them
pub reaches : (fs : List Bool) (at n : ℕ) (bs : List ℕ) → n ≤ length bs → readable fs at n ≡ true → n ≤ length (front (seen_from fs at bs))
unfolding seen_from front readable
reaches fs at zero bs h e = omega arith
reaches fs at (suc n) [] h e = absurd (omega arith)
reaches fs at (suc n) (b ∷ bs) h e = go (get_or fs (at / 4) false) (reaches fs (suc at) n bs (omega arith)) e
  where
    go : (t : Bool) → (readable fs (suc at) n ≡ true → n ≤ length (front (seen_from fs (suc at) bs))) → cond t (readable fs (suc at) n) false ≡ true → suc n ≤ length (front (cond t (byte b) lost ∷ seen_from fs (suc at) bs))
    go true below e = omega (arith, below e)
    go false below e = absurd (false≢true e)

pub falls_short : (fs : List Bool) (at n : ℕ) (bs : List ℕ) → readable fs at n ≡ false → length (front (seen_from fs at bs)) < n
unfolding seen_from front readable
falls_short fs at zero bs e = absurd (true≢false e)
falls_short fs at (suc n) [] e = omega arith
falls_short fs at (suc n) (b ∷ bs) e = go (get_or fs (at / 4) false) (falls_short fs (suc at) n bs) e
  where
    go : (t : Bool) → (readable fs (suc at) n ≡ false → length (front (seen_from fs (suc at) bs)) < n) → cond t (readable fs (suc at) n) false ≡ false → length (front (cond t (byte b) lost ∷ seen_from fs (suc at) bs)) < suc n
    go true below e = omega (arith, below e)
    go false below e = omega arith

-- the flags of all words that the bytes lie in
readable_all : (fs : List Bool) (at n : ℕ) → ((k : ℕ) → at / 4 ≤ k → 4 * k < at + n → get_or fs k false ≡ true) → readable fs at n ≡ true
unfolding readable
readable_all fs at zero h = refl
readable_all fs at (suc n) h =
    cond-true _ _ _ (h (at / 4) (omega arith) (omega arith)) ∙ readable_all fs (suc at) n (λ k l m. h k (omega arith) (omega arith))

readable_not : (fs : List Bool) (at n k : ℕ) → 0 < n → at / 4 ≤ k → 4 * k < at + n → get_or fs k false ≡ false → readable fs at n ≡ false
unfolding readable
readable_not fs at zero k p l m e = absurd (omega arith)
readable_not fs at (suc n) k p l m e =
    ⊎_elim
    (λ (s : at / 4 < k). go (get_or fs (at / 4) false) (readable_not fs (suc at) n k (omega arith) (omega arith) (omega arith) e))
    (λ (s : k ≤ at / 4). let q : at / 4 ≡ k = omega arith in cond-false _ _ _ (ap (λ i. get_or fs i false) q ∙ e))
    (cases_lt (at / 4) k)
  where
    go : (t : Bool) → readable fs (suc at) n ≡ false → cond t (readable fs (suc at) n) false ≡ false
    go true h = h
    go false h = refl

-- the flags of the words from a up to b, as the code looks at them
unset : (xs : List Bool) → list_all (λ x. x) xs ≡ false → (k : ℕ) × (k < length xs) × (get_or xs k false ≡ false)
unset [] e = absurd (true≢false e)
unset (false ∷ xs) e = (0, omega arith, refl)
unset (true ∷ xs) e = let h = unset xs e in (suc h.0, omega (arith, h.1), h.2)

in_part : (fs : List Bool) (a b k : ℕ) → k < b - a → get_or (slice_range fs a b) k false ≡ get_or fs (a + k) false
in_part fs a b k l = get_or-take (b - a) (drop a fs) k false l ∙ get_or-drop a fs k false

module _ (fs : List Bool) (at n a b : ℕ) (some : 0 < n) (low : a ≡ at / 4) (high : b ≡ div_ceil (at + n) 4) where
  words_readable : (part : List Bool) → length part + a ≡ b → part ≡ slice_range fs a b → (r : Bool) → list_all (λ x. x) part ≡ r → r ≡ readable fs at n
  words_readable part l p true e = sym (readable_all fs at n each)
    where
      each : (k : ℕ) → at / 4 ≤ k → 4 * k < at + n → get_or fs k false ≡ true
      each k m h =
          let i : a + (k - a) ≡ k = omega arith in
          ap (λ j. get_or fs j false) (sym i) ∙ sym (in_part fs a b (k - a) (omega arith)) ∙ ap (λ xs. get_or xs (k - a) false) (sym p)
          ∙ and_at (list_all (λ x. x)) (λ x. x) refl (λ _ _. refl) part (k - a) false (omega arith) e
  words_readable part l p false e =
      let u = unset part e in
      sym (readable_not fs at n (a + u.0) some (omega arith) (omega (arith, u.1)) (sym (in_part fs a b u.0 (omega (arith, u.1))) ∙ ap (λ xs. get_or xs u.0 false) (sym p) ∙ u.2))

  pub flags_readable : (o : Option (Bor (List Bool))) (r : Bool) → IsGetRangeResult fs a b o → MatchOption o (r ≡ false) (λ part. r ≡ list_all (λ x. x) part.now) → r ≡ readable fs at n
  flags_readable None r g h =
      ⊎_elim (λ (l : b < a). absurd (omega arith))
      (λ (l : length fs < b). h ∙ sym (readable_not fs at n (b - 1) some (omega arith) (omega arith) (get_or_past fs (b - 1) false (omega arith)))) g.0
  flags_readable (Some part) r g h = words_readable part.now g.0.3 g.0.2 r (sym h)
