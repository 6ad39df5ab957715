-- Standing in lists put together.
use Rattle.std.proofs.Common.{◌⊎◌, List, [], ◌∷◌, ◌++◌, inl, inr}
use Rattle.tree.specs.Newest.{In, first, later}

pub in_left : {A : Type 0} {x : A} (xs ys : List A) → In x xs → In x (xs ++ ys)
in_left [] ys i = elim i [ ]
in_left (y ∷ xs) ys (first q) = first q
in_left (y ∷ xs) ys (later i) = later (in_left xs ys i)

pub in_right : {A : Type 0} {x : A} (xs ys : List A) → In x ys → In x (xs ++ ys)
in_right [] ys i = i
in_right (y ∷ xs) ys i = later (in_right xs ys i)

pub in_either : {A : Type 0} {x : A} (xs ys : List A) → In x (xs ++ ys) → In x xs ⊎ In x ys
in_either [] ys i = inr i
in_either (y ∷ xs) ys (first q) = inl (first q)
in_either {A} {x} (y ∷ xs) ys (later i) = go (in_either xs ys i)
  where
    go : In x xs ⊎ In x ys → In x (y ∷ xs) ⊎ In x ys
    go (inl j) = inl (later j)
    go (inr j) = inr j

-- what stands on either side of b stands around it
pub in_around : {A : Type 0} {x : A} (xs b ys : List A) → In x (xs ++ ys) → In x (xs ++ (b ++ ys))
in_around [] b ys i = in_right b ys i
in_around (y ∷ xs) b ys (first q) = first q
in_around (y ∷ xs) b ys (later i) = later (in_around xs b ys i)
