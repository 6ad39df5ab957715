-- Rows of bytes and of cells, with others laid over them.
use Rattle.std.proofs.Common.{◌≡◌, ℕ, zero, suc, ◌+◌, ◌-◌, ◌*◌, ◌≤◌, true, List, [], ◌∷◌, ◌++◌, length, take, drop, replicate, sym, refl, ap, ◌∙◌, append_assoc, append-nil, arith, length-append, take-append-drop, length-take}
use mathlib.Core.List.{map-append}
use lib.ListN.{length-map}
use borrow.Rule.Slice.PartMut.{put_mid}
use Rattle.std.proofs.lemmas.List.{take_at, take-take, drop-take, drop-drop, drop_all, take-map, drop-map}
use Rattle.flash.specs.Cells.{Cell, byte, cells, blank, over}
use Rattle.flash.specs.Refused.{readable, part}
use Rattle.devices.specs.Memory.{part_of}

-- a write to the part of k elements at a
pub put_over : {X : Type 0} (a k : ℕ) (xs ys : List X) → length ys ≡ k → put_mid a k xs ys ≡ over xs a ys
put_over a k xs ys e = cc (drop-drop k a xs)

-- a whole row laid anew
pub over_whole : {X : Type 0} (xs ys : List X) → length ys ≡ length xs → over xs 0 ys ≡ ys
over_whole xs ys l = ap (λ r. ys ++ r) (drop_all (0 + length ys) xs (omega arith)) ∙ append-nil ys

-- a part of a block is a part of the memory
pub in_block : {X : Type 0} (size : ℕ) (mem : List X) (b o n : ℕ) → o + n ≤ size → take n (drop (b * size + o) mem) ≡ take n (drop o (part_of size mem b))
in_block size mem b o n h =
    let X = drop (b * size) mem in
    let e : o + (size - o) ≡ size = omega arith in
    let q : drop o (take size X) ≡ take (size - o) (drop o X) = ap (λ m. drop o (take m X)) (sym e) ∙ drop-take o (size - o) X in
    ap (take n) (sym (drop-drop o (b * size) mem)) ∙ sym (ap (take n) q ∙ take-take n (size - o) (drop o X) (omega arith))

-- what is settled once whole batches were laid is what is shown
pub settled_is : {X : Type 0} (xs ys : List X) (o e : ℕ) → e ≡ o + length ys → e ≤ length xs → take e (over xs o ys) ++ drop e xs ≡ over xs o ys
settled_is xs ys o e p h =
    let l : length (take o xs ++ ys) ≡ e = simp (length-append, length-take) (omega arith) in
    let q : over xs o ys ≡ (take o xs ++ ys) ++ drop (o + length ys) xs = sym (append_assoc (take o xs) ys (drop (o + length ys) xs)) in
    ap (λ r. take e r ++ drop e xs) q
    ∙ rw (take_at (take o xs ++ ys) (drop (o + length ys) xs) e l, p) (append_assoc (take o xs) ys (drop (o + length ys) xs))

-- the first w elements of a run, and then sp in place of those behind them
pub cut_split : {X : Type 0} (xs run sp : List X) (o w : ℕ) → o ≤ length xs → w ≤ length run
    → over xs o (take w run ++ sp) ≡ take (o + w) (over xs o run) ++ (sp ++ drop (o + w + length sp) xs)
cut_split {X} xs run sp o w h l =
    let P = take o xs in
    let W = take w run in
    let lPW : length (P ++ W) ≡ o + w = simp (length-append, length-take) (omega arith) in
    let n : o + length (W ++ sp) ≡ o + w + length sp = simp (length-append, length-take) (omega arith) in
    let right : take (o + w) (over xs o run) ≡ P ++ W =
    ap (λ (r : List X). take (o + w) (P ++ (r ++ drop (o + length run) xs))) (sym (take-append-drop w run))
    ∙ (ap (λ (r : List X). take (o + w) (P ++ r)) (append_assoc W (drop w run) (drop (o + length run) xs))
    ∙ (ap (take (o + w)) (sym (append_assoc P W (drop w run ++ drop (o + length run) xs))) ∙ take_at (P ++ W) _ (o + w) lPW)) in
    ap (λ m. P ++ ((W ++ sp) ++ drop m xs)) n
    ∙ (ap (λ (r : List X). P ++ r) (append_assoc W sp (drop (o + w + length sp) xs))
    ∙ (sym (append_assoc P W (sp ++ drop (o + w + length sp) xs)) ∙ ap (λ (r : List X). r ++ (sp ++ drop (o + w + length sp) xs)) (sym right)))

-- ─── cells ───

pub cells_over : (xs run : List ℕ) (o : ℕ) → cells (over xs o run) ≡ over (cells xs) o (cells run)
cells_over xs run o =
    map-append byte (take o xs) _ ∙ (ap (λ (r : List Cell). cells (take o xs) ++ r) (map-append byte run _)
    ∙ rw (← take-map byte o xs, ← drop-map byte (o + length run) xs, length-map run byte))

pub cells_blank : (n : ℕ) → cells (replicate n 255) ≡ blank n
cells_blank zero = refl
cells_blank (suc n) = ap (λ (r : List Cell). byte 255 ∷ r) (cells_blank n)

pub readable_cells : (xs : List ℕ) → readable (cells xs) ≡ true
readable_cells [] = refl
readable_cells (x ∷ xs) = readable_cells xs

pub part_cells : (xs : List ℕ) (o n : ℕ) → part (cells xs) o n ≡ cells (take n (drop o xs))
part_cells xs o n = ap (take n) (drop-map byte o xs) ∙ take-map byte n (drop o xs)
