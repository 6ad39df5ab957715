-- The examples come out as they should.
use Rattle.std.proofs.Common.{◌≡◌, ◌<◌, Bool, true, not, ◌&&◌, ◌||◌, eqb, ltb, List, [], ◌∷◌, Some, sym, refl, ap, ◌∙◌, inl, inr, arith}
use Rattle.std.proofs.lemmas.Bool.Decides.{nat_tests}
use Rattle.tree.specs.Newest.{first, later, newest}
use Rattle.tree.specs.Nodes.{Node, titled, of_file, covers, number, version}
use Rattle.tree.specs.Lookups.{counts, named, needed_entry, seen}
use Rattle.tree.specs.Tree.{tree, Names}
use Rattle.tree.specs.Fresh.{Above, Begun}
use Rattle.tree.specs.Examples.{a, file, bytes, hole, resized, removal, made, filled, Trees, Applied, Wanted, Blocks, Calls, Examples}
use Rattle.tree.proofs.Newest.{none_some, no_one, true_false}
use Rattle.tree.proofs.Nodes.{both}

trees : Trees
unfolding newest titled of_file covers
trees = record {
  found = refl;
  other_name = refl;
  other_directory = refl;
  filled_long = refl;
  filled_bytes = refl;
  cut_long = refl;
  regrown_bytes = refl;
  regrown_elsewhere = refl;
  gone_name = refl;
  new_number = refl;
  twice = refl;
  once = refl;
  inside = refl;
}

applied : Applied
unfolding newest titled of_file covers
applied = record {
  cut_long = refl;
  cut = refl;
  regrown_long = refl;
  regrown = refl;
  longer = refl;
  over = refl;
  removed = refl;
  removed_bytes = refl;
  removed_long = refl;
}

wanted : Wanted
unfolding newest titled of_file covers counts named needed_entry seen
wanted = record {
  of_filled = refl;
  of_overwritten = refl;
  of_cut = refl;
  of_gone = refl;
  of_gone_for_good = refl;
  of_again = refl;
  of_once = refl;
  of_waiting = refl;
  of_inside = refl;
}

blocks : Blocks
unfolding newest titled of_file covers counts named needed_entry seen
blocks = record { twins = refl; alike = refl; apart = refl; idle = refl; by_twos = refl }

-- a test for Above, to be computed
abbrev above_all : Node → List Node → Bool
above_all n [] = true
above_all n (m ∷ p) = (not (eqb (number m) (number n)) || ltb (version m) (version n)) && above_all n p

above : (n : Node) (p : List Node) → above_all n p ≡ true → Above n p
above n [] q m i e = absurd (no_one i)
above n (x ∷ p) q m (later i) e =
    above n p (both (not (eqb (number x) (number n)) || ltb (version x) (version n)) (above_all n p) q).1 m i e
above n (x ∷ p) q m (first y) e =
    let h = (both (not (eqb (number x) (number n)) || ltb (version x) (version n)) (above_all n p) q).0 in
    let k : number x ≡ number n = sym (ap number y) ∙ e in
    let v : version m ≡ version x = ap version y in
    grind (arith, nat_tests)

named_a : (p : List Node) → (tree p).there 1 a ≡ Some (record { ino = 2; dtype = 8 }) → Names (tree p) 2
named_a p q = record { dir = 1; name = a; dtype = 8; is = q }

empty_file : Begun (resized 1 0 ∷ []) (resized 1 0 ∷ []) 2
unfolding newest of_file
empty_file = record {
  start = record { ino = 2; version = 1; mode = 33188; isize = 0; offset = 0; dsize = 0; compr = 0; payload = [] };
  by_call = first refl;
  newest = refl;
  empty = refl;
}

data_at_two : Node
data_at_two = bytes 3 5 2 (7 ∷ 8 ∷ 9 ∷ [])

calls : Calls
unfolding newest titled of_file covers data_at_two
calls = record {
  create = ((above (resized 1 0) [] refl, inr refl), ((above (file 1 1 2 a) (resized 1 0 ∷ []) refl, inr (inr empty_file)), tt));
  write = (
    (above (hole 2 2 0 2) made refl, inl (named_a made refl, λ i l h. grind (arith, nat_tests))),
    ((above data_at_two (hole 2 2 0 2 ∷ made) refl, inl (named_a (hole 2 2 0 2 ∷ made) refl, λ i l h. grind (arith, nat_tests))), tt),
  );
  shorten = ((above (resized 4 3) filled refl, inl (named_a filled refl, λ i l h. absurd (omega arith))), tt);
  unlink = ((above (removal 1 2 a) filled refl, inl refl), tt);
  no_gap = λ s. elim s.0.1 [ inl h ↦ true_false (h.1 0 (omega arith) (omega arith)) refl | inr q ↦ omega arith ];
  no_orphan = λ s. elim s.0.1 [ inl q ↦ omega arith | inr h ↦ elim h [ inl N ↦ none_some N.is | inr b ↦ no_one b.by_call ] ];
  no_twin = λ s. let l : 1 < 1 = s.0.0 (file 1 1 2 a) (first refl) refl in omega arith;
}

pub examples : Examples
examples = record { trees = trees; applied = applied; wanted = wanted; blocks = blocks; calls = calls }
