-- Cells that are alike, and the marker at the start of a block.
use Rattle.std.proofs.lemmas.Bool.Decides.{same_from_decides}
use Rattle.std.proofs.lemmas.Slice.Eq.{bytes_eq-Decides}
use Rattle.std.proofs.Common.{Decides, IsTrue, ◌↔◌, ◌<◌, ◌⊎◌, ◌&&◌, ⊎_elim, inl, inr, None, Option, MatchOption, Bor, ◌≡◌, ℕ, zero, suc, ◌≤◌, Bool, true, false, cond, eqb, List, [], ◌∷◌, ◌++◌, length, take, drop, Some, sym, refl, ap, ◌∙◌, arith, length-take}
use Rattle.std.proofs.lemmas.List.{take-append-drop}
use Rattle.std.proofs.lemmas.Bool.{eqb-true, eq-eqb, le-leb, cond-true, cond-false}
use Rattle.std.specs.Str.{bytes_eq}
use Rattle.crc32.specs.Sum.{sum, sum_from, fed, rounds}
use Rattle.flash.specs.Cells.{Cell, byte, lost, cells, front}
use Rattle.nodes.specs.Fields.{le16, le32}
use Rattle.nodes.specs.Items.{stands, size, reach, passes}
use Rattle.nodes.specs.Seen.{IsRead}
use Rattle.nodes.specs.Walk.{walk_from, walk, marked, marker, alike}
use Rattle.nodes.proofs.Standing.{reads_stands}

pub alike_take : (n : ℕ) (xs ys : List Cell) → alike n xs ys ≡ true → take n xs ≡ take n ys
unfolding alike
alike_take zero xs ys e = refl
alike_take (suc n) [] ys e = cc
alike_take (suc n) (lost ∷ xs) ys e = cc
alike_take (suc n) (byte a ∷ xs) [] e = cc
alike_take (suc n) (byte a ∷ xs) (lost ∷ ys) e = cc
alike_take (suc n) (byte a ∷ xs) (byte b ∷ ys) e = go (alike_take n xs ys) (eqb a b) refl e
  where
    go : (alike n xs ys ≡ true → take n xs ≡ take n ys) → (t : Bool) → eqb a b ≡ t → cond t (alike n xs ys) false ≡ true → take (suc n) (byte a ∷ xs) ≡ take (suc n) (byte b ∷ ys)
    go below true t e = let h = below e in let s = eqb-true a b t in cc
    go below false t e = cc

alike_cells : (bs : List ℕ) (ys : List Cell) → take (length bs) ys ≡ cells bs → alike (length bs) (cells bs) ys ≡ true
unfolding alike
alike_cells [] ys e = refl
alike_cells (b ∷ bs) [] e = cc
alike_cells (b ∷ bs) (lost ∷ ys) e = cc
alike_cells (b ∷ bs) (byte c ∷ ys) e =
    let t : b ≡ c = cc in
    let r : take (length bs) ys ≡ cells bs = cc in
    cond-true _ _ _ (eq-eqb b c t) ∙ alike_cells bs ys r

-- where n bytes of both can be read
pub alike_read : (n : ℕ) (xs ys : List Cell) → n ≤ length (front xs) → n ≤ length (front ys) → bytes_eq (take n (front xs)) (take n (front ys)) ≡ alike n xs ys
unfolding alike front
alike_read zero xs ys h k = refl
alike_read (suc n) [] ys h k = absurd (omega arith)
alike_read (suc n) (lost ∷ xs) ys h k = absurd (omega arith)
alike_read (suc n) (byte a ∷ xs) [] h k = absurd (omega arith)
alike_read (suc n) (byte a ∷ xs) (lost ∷ ys) h k = absurd (omega arith)
alike_read (suc n) (byte a ∷ xs) (byte b ∷ ys) h k = go (eqb a b) (alike_read n xs ys (omega arith) (omega arith))
  where
    go : (t : Bool) → bytes_eq (take n (front xs)) (take n (front ys)) ≡ alike n xs ys → (t && bytes_eq (take n (front xs)) (take n (front ys))) ≡ cond t (alike n xs ys) false
    go true e = e
    go false e = refl

-- where fewer can be read of one of them
pub alike_short : (n : ℕ) (xs ys : List Cell) → (length (front xs) < n) ⊎ (length (front ys) < n) → alike n xs ys ≡ false
unfolding alike front
alike_short zero xs ys h = ⊎_elim (λ (l : length (front xs) < 0). absurd (omega arith)) (λ (l : length (front ys) < 0). absurd (omega arith)) h
alike_short (suc n) [] ys h = refl
alike_short (suc n) (lost ∷ xs) ys h = refl
alike_short (suc n) (byte a ∷ xs) [] h = refl
alike_short (suc n) (byte a ∷ xs) (lost ∷ ys) h = refl
alike_short (suc n) (byte a ∷ xs) (byte b ∷ ys) h =
    go (eqb a b) (alike_short n xs ys (⊎_elim (λ (l : suc (length (front xs)) < suc n). inl (omega arith)) (λ (l : suc (length (front ys)) < suc n). inr (omega arith)) h))
  where
    go : (t : Bool) → alike n xs ys ≡ false → cond t (alike n xs ys) false ≡ false
    go true e = e
    go false e = refl

-- the code's test of the first twelve bytes
pub marked_read : (xs : List Cell) (o : Option (Bor (List ℕ))) (r : Bool) → IsRead xs 12 o → MatchOption o (r ≡ false) (λ bs. IsTrue r ↔ (bs.now ≡ marker)) → r ≡ marked xs
unfolding marked front
marked_read xs (Some bs) r f h = same_from_decides r (bytes_eq marker (take 12 (front xs))) h same ∙ alike_read 12 (cells marker) xs (omega arith) f.0
  where
    same : Decides (bytes_eq marker (take 12 (front xs))) (bs.now ≡ marker)
    same =
        let d = bytes_eq-Decides marker (take 12 (front xs)) in
        (λ e. f.1 ∙ sym (d.0 e), λ e. d.1 (sym e ∙ f.1))
marked_read xs None r f h = h ∙ sym (alike_short 12 (cells marker) xs (inr f))

pub marked_cells : (xs : List Cell) → marked xs ≡ true → take 12 xs ≡ cells marker
unfolding marked
marked_cells xs e = sym (alike_take 12 (cells marker) xs e)

pub cells_marked : (xs : List Cell) → take 12 xs ≡ cells marker → marked xs ≡ true
unfolding marked
cells_marked xs e = alike_cells marker xs e

pub marker_size : size marker ≡ 12
unfolding size le32
marker_size = refl

pub marker_reach : reach marker ≡ 12
unfolding reach le32 le16
marker_reach = refl

pub marker_passes : (room : ℕ) → 12 ≤ room → passes room marker ≡ true
unfolding passes le32 le16 sum sum_from fed rounds
marker_passes room h = ap (λ b. cond (cond b true false) true false) (le-leb 12 room h)

pub marker_stands : (xs : List Cell) → marked xs ≡ true → stands xs ≡ Some marker
marker_stands xs t =
    let e = marked_cells xs t in
    let l : 12 ≤ length xs = omega (arith, ap length e, length-take 12 xs) in
    reads_stands xs marker (record {
      rest = drop 12 xs;
      starts = sym (take-append-drop 12 xs) ∙ ap (λ l. l ++ drop 12 xs) e;
      whole = marker_reach;
      good = marker_passes (length xs) l;
    })

pub walk_marked : (xs : List Cell) → marked xs ≡ true → walk xs ≡ walk_from xs 0
unfolding walk
walk_marked xs e = cond-true _ _ _ e

pub walk_bare : (xs : List Cell) → marked xs ≡ false → walk xs ≡ []
unfolding walk
walk_bare xs e = cond-false _ _ _ e
