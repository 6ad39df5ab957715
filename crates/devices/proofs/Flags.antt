-- Flags of pages, as the code sets them.
use Rattle.std.proofs.Common.{◌≡◌, ℕ, ◌+◌, ◌-◌, ◌<◌, ◌≤◌, Bool, false, List, [], ◌∷◌, ◌++◌, length, take, drop, set, replicate, sym, ap, ◌∙◌, arith, take-append-drop, length-drop, length-take}
use lib.ListN.{length-replicate}
use borrow.Rule.Slice.PartMut.{put_mid}
use Rattle.std.proofs.lemmas.List.{take-set, drop-set}
use Rattle.flash.specs.Cells.{over}
use Rattle.flash.proofs.Over.{over_length, over_twice}
use Rattle.devices.proofs.Rows.{put_over}

-- a part of the flags that was filled
pub filled_is : (fs ys : List Bool) (a n : ℕ) (t : Bool) → a + n ≤ length fs → ys ≡ replicate (length (take (a + n - a) (drop a fs))) t
    → put_mid a (a + n - a) fs ys ≡ over fs a (replicate n t)
filled_is fs ys a n t fits filled =
    let k : length (take (a + n - a) (drop a fs)) ≡ n = simp (length-take, length-drop) (omega arith) in
    let e : ys ≡ replicate n t = filled ∙ ap (λ m. replicate m t) k in
    put_over a (a + n - a) fs ys (ap length e ∙ (length-replicate n t ∙ omega arith)) ∙ ap (over fs a) e

set_is : {X : Type 0} (xs : List X) (i : ℕ) (y : X) → i < length xs → set xs i y ≡ over xs i (y ∷ [])
set_is xs i y h =
    sym (take-append-drop i (set xs i y)) ∙ (λ t. take-set xs i y t ++ drop-set xs i y h t)

-- and then the one behind it
pub filled_more : (fs ys : List Bool) (a n : ℕ) (t : Bool) → a + n < length fs → ys ≡ replicate (length (take (a + n - a) (drop a fs))) false
    → set (put_mid a (a + n - a) fs ys) (a + n) t ≡ over fs a (replicate n false ++ (t ∷ []))
filled_more fs ys a n t fits filled =
    let gs = replicate n false in
    let l : length gs ≡ n = length-replicate n false in
    let e : put_mid a (a + n - a) fs ys ≡ over fs a gs = filled_is fs ys a n false (omega arith) filled in
    let full : length (over fs a gs) ≡ length fs = over_length fs a gs (omega arith) in
    ap (λ (x : List Bool). set x (a + n) t) e
    ∙ (set_is (over fs a gs) (a + n) t (omega arith)
    ∙ (ap (λ m. over (over fs a gs) (a + m) (t ∷ [])) (sym l) ∙ over_twice fs a gs (t ∷ []) (omega arith)))
