-- The walk of a block, item by item.
use Rattle.std.proofs.Common.{◌≡◌, ℕ, zero, suc, ◌+◌, ◌≤◌, List, [], ◌∷◌, length, take, drop, Some, None, Option, sym, refl, ap, ◌∙◌, arith, length-drop}
use Rattle.flash.specs.Cells.{Cell}
use Rattle.nodes.specs.Items.{Item, stands, size}
use Rattle.nodes.specs.Walk.{walk_in, walk_from, met}
use Rattle.nodes.proofs.Standing.{stands_reads, reads_stands, sized, moved}

both : (f g : ℕ → List (ℕ × Item)) (p : ℕ) (o : Option Item) → ((it : Item) → o ≡ Some it → f (p + size it) ≡ g (p + size it)) → met f p o ≡ met g p o
both f g p None h = refl
both f g p (Some it) h = ap (λ l. (p, it) ∷ l) (h it refl)

bounds : (xs : List Cell) (p : ℕ) (it : Item) → stands (drop p xs) ≡ Some it → (4 ≤ size it) × (p + size it ≤ length xs)
bounds xs p it e =
    let s = sized (drop p xs) it (stands_reads (drop p xs) it e) in
    (s.0, omega (arith, s.0, s.2, length-drop p xs))

nothing : (xs : List Cell) (p : ℕ) → length xs ≤ p → (o : Option Item) → stands (drop p xs) ≡ o → (f : ℕ → List (ℕ × Item)) → met f p o ≡ []
nothing xs p h None e f = refl
nothing xs p h (Some it) e f = absurd (omega (arith, bounds xs p it e))

enough : (f g : ℕ) (xs : List Cell) (p : ℕ) → length xs ≤ p + f → length xs ≤ p + g → walk_in f xs p ≡ walk_in g xs p
unfolding walk_in
enough zero zero xs p h k = refl
enough zero (suc g) xs p h k = sym (nothing xs p (omega arith) (stands (drop p xs)) refl (walk_in g xs))
enough (suc f) zero xs p h k = nothing xs p (omega arith) (stands (drop p xs)) refl (walk_in f xs)
enough (suc f) (suc g) xs p h k =
    both (walk_in f xs) (walk_in g xs) p (stands (drop p xs))
    (λ it e. enough f g xs (p + size it) (omega (arith, bounds xs p it e)) (omega (arith, bounds xs p it e)))

pub fuel : (f : ℕ) (xs : List Cell) (p : ℕ) → length xs ≤ p + f → walk_in f xs p ≡ walk_from xs p
unfolding walk_from
fuel f xs p h = enough f (length xs) xs p h (omega arith)

unfolds : (xs : List Cell) (p : ℕ) → walk_from xs p ≡ met (walk_from xs) p (stands (drop p xs))
unfolding walk_from walk_in
unfolds xs p =
    enough (length xs) (suc (length xs)) xs p (omega arith) (omega arith)

pub stays : (xs ys : List Cell) (p : ℕ) (it : Item) → length xs ≡ length ys → take (size it) (drop p xs) ≡ take (size it) (drop p ys) → stands (drop p xs) ≡ Some it → stands (drop p ys) ≡ Some it
stays xs ys p it l t e =
    let r = stands_reads (drop p xs) it e in
    let s = sized (drop p xs) it r in
    let d : length (drop p xs) ≡ length (drop p ys) = omega (arith, length-drop p xs, length-drop p ys) in
    reads_stands (drop p ys) it (moved (drop p xs) (drop p ys) it (size it) d s.1 t r)

-- what is met at a place where an item stands, and where none does
pub item_at : (xs : List Cell) (p : ℕ) (it : Item) → stands (drop p xs) ≡ Some it → walk_from xs p ≡ (p, it) ∷ walk_from xs (p + size it)
item_at xs p it e = unfolds xs p ∙ ap (met (walk_from xs) p) e

pub none_at : (xs : List Cell) (p : ℕ) → stands (drop p xs) ≡ None → walk_from xs p ≡ []
none_at xs p e = unfolds xs p ∙ ap (met (walk_from xs) p) e
