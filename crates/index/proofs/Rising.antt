-- The rising look for spent blocks.
use Rattle.std.proofs.Common.{◌≡◌, ℕ, zero, suc, ◌<◌, ◌≤◌, Bool, true, false, cond, not, ◌&&◌, ◌||◌, List, [], ◌∷◌, ◌++◌, map, length, get_or, take, drop, set, sym, refl, ap, ◌∙◌, subst, append_assoc, append-nil, arith, length-append}
use Rattle.std.proofs.lemmas.List.{drop_all, take_at, drop_at, map-append}
use Rattle.std.specs.List.{flat_map, list_any}
use Rattle.tree.specs.Spent.{pool, has_twin, replaced, marks}
use Rattle.tree.specs.Lookups.{needed_entry, needed_content}
use Rattle.tree.specs.Nodes.{entry, content}
use Rattle.index.specs.declared.block.Block.{Block}
use Rattle.index.specs.declared.block.State.{State}
use Rattle.index.specs.declared.block.State.TheVariants.{Spent, Full}
use Rattle.index.specs.Blocks.{entries_in, contents_in}
use Rattle.index.specs.Missed.{Kept, nodes_in, kept_in, elsewhere, twin_of, need, missed, misses, with_state, changed, marked}
use Rattle.index.specs.Shown.{entry_shown, span_shown}
use Rattle.std.proofs.lemmas.Grind.{flat_map-append}

abbrev full : Block → Block
full = with_state Full

abbrev kept : List Block → List Kept
kept = flat_map (kept_in nodes_in)

pub set_changed : (bs : List Block) (i : ℕ) (s : State) (d : Block) → set bs i (with_state s (get_or bs i d)) ≡ changed i s bs
set_changed [] i s d = refl
set_changed (b ∷ bs) zero s d = refl
set_changed (b ∷ bs) (suc i) s d = ap (λ l. b ∷ l) (set_changed bs i s d)

changed_at : (xs : List Block) (s : State) (b : Block) (ys : List Block) → changed (length xs) s (xs ++ b ∷ ys) ≡ xs ++ with_state s b ∷ ys
changed_at [] s b ys = refl
changed_at (x ∷ xs) s b ys = ap (λ l. x ∷ l) (changed_at xs s b ys)

-- what is left of a list at a place within it
pub record Split {X : Type 0} (xs : List X) (i : ℕ) : Type 0 where
  pub head : X
  pub is : drop i xs ≡ head ∷ drop (suc i) xs

pub split : {X : Type 0} (xs : List X) (i : ℕ) → i < length xs → Split xs i
split [] i h = absurd (omega arith)
split (x ∷ xs) zero h = record { head = x; is = refl }
split (x ∷ xs) (suc i) h = let s = split xs i (omega arith) in record { head = s.head; is = s.is }

-- blocks that differ in their states alone have the same records
full_entries : (bs : List Block) → flat_map entries_in (map full bs) ≡ flat_map entries_in bs
full_entries [] = refl
full_entries (b ∷ bs) = ap (λ l. entries_in b ++ l) (full_entries bs)

full_contents : (bs : List Block) → flat_map contents_in (map full bs) ≡ flat_map contents_in bs
full_contents [] = refl
full_contents (b ∷ bs) = ap (λ l. contents_in b ++ l) (full_contents bs)

need_full : (bs : List Block) (m : Kept) → need (map full bs) m ≡ need bs m
unfolding need
need_full bs (entry e) = ap (λ es. needed_entry entry_shown es (entry_shown e)) (full_entries bs)
need_full bs (content c) =
    ap (λ es. needed_content entry_shown span_shown es (flat_map contents_in (map full bs)) (span_shown c)) (full_entries bs)
    ∙ ap (λ cs. needed_content entry_shown span_shown (flat_map entries_in bs) cs (span_shown c)) (full_contents bs)

pub same_need : (bs cs : List Block) → map full bs ≡ map full cs → (m : Kept) → need bs m ≡ need cs m
same_need bs cs e m = sym (need_full bs m) ∙ ap (λ l. need l m) e ∙ need_full cs m

-- blocks that are taken for full keep all that they have
kept_full : (bs : List Block) → kept (map full bs) ≡ pool (map nodes_in bs)
kept_full [] = refl
kept_full (b ∷ bs) = ap (λ l. nodes_in b ++ l) (kept_full bs)

-- each needed node is replaced, unless one would be missed
unreplaced : (f g : Kept → Bool) (others : List Kept) → ((m : Kept) → g m ≡ f m) → (ms : List Kept)
    → list_any (λ m. g m && not (has_twin twin_of m others)) ms ≡ not (replaced twin_of f ms others)
unreplaced f g others e [] = refl
unreplaced f g others e (m ∷ ms) = ap (λ b. (g m && not (has_twin twin_of m others)) || b) (unreplaced f g others e ms) ∙ ap (λ b. (b && not (has_twin twin_of m others)) || not (replaced twin_of f ms others)) (e m) ∙ go (f m) (has_twin twin_of m others) (replaced twin_of f ms others)
  where
    go : (a b c : Bool) → ((a && not b) || not c) ≡ not ((not a || b) && c)
    go true true c = refl
    go true false c = refl
    go false b c = refl

pub full_twice : (cs : List Block) → map full (map full cs) ≡ map full cs
full_twice [] = refl
full_twice (c ∷ cs) = ap (λ l. full c ∷ l) (full_twice cs)

module _ (bs : List Block) where
  -- the states of the blocks below i are found, those from i on are taken for full
  pub record Risen (blocks : List Block) (i : ℕ) : Type 0 where
    pub done : List Block
    pub count : length done ≡ i
    pub is : blocks ≡ done ++ map full (drop i bs)
    pub same : map full blocks ≡ map full bs
    pub goal : done ++ marked (marks twin_of (need bs) (kept done) (map nodes_in (drop i bs))) (drop i bs)
        ≡ marked (marks twin_of (need bs) [] (map nodes_in bs)) bs

  pub risen_none : Risen (map full bs) 0
  risen_none = record { done = []; count = refl; is = refl; same = full_twice bs; goal = refl }

  -- what a block misses is what is not replaced in it
  missed_here : (done : List Block) (b : Block) (rest : List Block) → map full (done ++ full b ∷ map full rest) ≡ map full bs
      → misses (done ++ full b ∷ map full rest) (length done) ≡ not (replaced twin_of (need bs) (nodes_in b) (kept done ++ pool (map nodes_in rest)))
  unfolding misses missed
  missed_here done b rest e =
      ap (λ l. list_any (missed all n) (flat_map nodes_in (take 1 l))) (drop_at done (full b ∷ map full rest) n refl)
      ∙ ap (list_any (missed all n)) (append-nil (nodes_in b))
      ∙ ap (λ l. list_any (λ m. need all m && not (has_twin twin_of m (kept l))) (nodes_in b)) others
      ∙ ap (λ l. list_any (λ m. need all m && not (has_twin twin_of m l)) (nodes_in b)) (flat_map-append (kept_in nodes_in) done (map full rest) ∙ ap (λ l. kept done ++ l) (kept_full rest))
      ∙ unreplaced (need bs) (need all) (kept done ++ pool (map nodes_in rest)) (same_need all bs e) (nodes_in b)
    where
      all : List Block
      all = done ++ full b ∷ map full rest

      n : ℕ
      n = length done

      behind : drop (suc n) all ≡ map full rest
      behind = ap (λ l. drop (suc n) l) (sym (append_assoc done (full b ∷ []) (map full rest))) ∙ drop_at (done ++ full b ∷ []) (map full rest) (suc n) (simp length-append (omega arith))

      others : elsewhere n all ≡ done ++ map full rest
      others = ap (λ l. l ++ drop (suc n) all) (take_at done (full b ∷ map full rest) n refl) ∙ ap (λ l. done ++ l) behind

  module _ (done : List Block) (b : Block) (rest : List Block) where
    -- one block more, in a state that was found
    with_one : (s : State) → List Block
    with_one s = done ++ with_state s b ∷ []

    abbrev before : List Block
    before = done ++ full b ∷ map full rest

    same_too : (s : State) → map full before ≡ map full bs → map full (done ++ with_state s b ∷ map full rest) ≡ map full bs
    same_too s e = map-append full done (with_state s b ∷ map full rest) ∙ sym (map-append full done (full b ∷ map full rest)) ∙ e

    risen_at : (s : State) (i : ℕ) (blocks : List Block) → length done ≡ i → drop (suc i) bs ≡ rest → blocks ≡ done ++ with_state s b ∷ map full rest
        → map full before ≡ map full bs
        → done ++ (with_state s b ∷ marked (marks twin_of (need bs) (kept (with_one s)) (map nodes_in rest)) rest) ≡ marked (marks twin_of (need bs) [] (map nodes_in bs)) bs
        → Risen blocks (suc i)
    unfolding with_one
    risen_at s i blocks n r e f g = record {
      done = with_one s;
      count = simp length-append (omega arith);
      is = e ∙ sym (append_assoc done (with_state s b ∷ []) (map full rest)) ∙ ap (λ l. with_one s ++ map full l) (sym r);
      same = ap (map full) e ∙ same_too s f;
      goal = ap (λ l. with_one s ++ marked (marks twin_of (need bs) (kept (with_one s)) (map nodes_in l)) l) r ∙ append_assoc done (with_state s b ∷ []) _ ∙ g;
    }

    kept_spent : kept (with_one Spent) ≡ kept done
    unfolding with_one
    kept_spent = flat_map-append (kept_in nodes_in) done (with_state Spent b ∷ []) ∙ append-nil (kept done)

    kept_one : kept (with_one Full) ≡ kept done ++ nodes_in b
    unfolding with_one
    kept_one = flat_map-append (kept_in nodes_in) done (with_state Full b ∷ []) ∙ ap (λ l. kept done ++ l) (append-nil (nodes_in b))

    step : (i : ℕ) → length done ≡ i → drop (suc i) bs ≡ rest → map full before ≡ map full bs
        → (x : Bool) → misses before i ≡ not x
        → done ++ marked (cond x (true ∷ marks twin_of (need bs) (kept done) (map nodes_in rest)) (false ∷ marks twin_of (need bs) (kept done ++ nodes_in b) (map nodes_in rest))) (b ∷ rest)
        ≡ marked (marks twin_of (need bs) [] (map nodes_in bs)) bs
        → Risen (cond (misses before i) before (changed i Spent before)) (suc i)
    step i n r e true m g =
        risen_at Spent i _ n r (ap (λ y. cond y before (changed i Spent before)) m ∙ ap (λ k. changed k Spent before) (sym n) ∙ changed_at done Spent (full b) (map full rest)) e
        (ap (λ l. done ++ (with_state Spent b ∷ marked (marks twin_of (need bs) l (map nodes_in rest)) rest)) kept_spent ∙ g)
    step i n r e false m g =
        risen_at Full i _ n r (ap (λ y. cond y before (changed i Spent before)) m) e
        (ap (λ l. done ++ (with_state Full b ∷ marked (marks twin_of (need bs) l (map nodes_in rest)) rest)) kept_one ∙ g)

  pub risen_more : (blocks : List Block) (i : ℕ) → i < length bs → Risen blocks i → Risen (cond (misses blocks i) blocks (changed i Spent blocks)) (suc i)
  risen_more blocks i h r =
      subst (λ (l : List Block). Risen (cond (misses l i) l (changed i Spent l)) (suc i)) (sym is)
      (step done b rest i r.count refl same rep miss (ap (λ l. done ++ marked (marks twin_of (need bs) (kept done) (map nodes_in l)) l) (sym s.is) ∙ r.goal))
    where
      s : Split bs i
      s = split bs i h

      done : List Block
      done = r.done

      b : Block
      b = s.head

      rest : List Block
      rest = drop (suc i) bs

      is : blocks ≡ done ++ full b ∷ map full rest
      is = r.is ∙ ap (λ l. done ++ map full l) s.is

      same : map full (done ++ full b ∷ map full rest) ≡ map full bs
      same = ap (map full) (sym is) ∙ r.same

      rep : Bool
      rep = replaced twin_of (need bs) (nodes_in b) (kept done ++ pool (map nodes_in rest))

      miss : misses (done ++ full b ∷ map full rest) i ≡ not rep
      miss = ap (misses (done ++ full b ∷ map full rest)) (sym r.count) ∙ missed_here done b rest same

  pub risen_all : (blocks : List Block) (i : ℕ) → length bs ≤ i → Risen blocks i → blocks ≡ marked (marks twin_of (need bs) [] (map nodes_in bs)) bs
  risen_all blocks i h r =
      r.is
      ∙ ap (λ l. r.done ++ map full l) e
      ∙ sym (ap (λ l. r.done ++ marked (marks twin_of (need bs) (kept r.done) (map nodes_in l)) l) e)
      ∙ r.goal
    where
      e : drop i bs ≡ []
      e = drop_all i bs h

full_nodes : (bs : List Block) → map nodes_in (map full bs) ≡ map nodes_in bs
full_nodes [] = refl
full_nodes (b ∷ bs) = ap (λ l. nodes_in b ∷ l) (full_nodes bs)

full_marked : (ms : List Bool) (bs : List Block) → marked ms (map full bs) ≡ marked ms bs
full_marked [] bs = refl
full_marked (m ∷ ms) [] = refl
full_marked (m ∷ ms) (b ∷ bs) = ap (λ l. with_state (cond m Spent Full) b ∷ l) (full_marked ms bs)

-- in which states the blocks were before does not matter
pub judged_alike : (bs : List Block) → marked (marks twin_of (need (map full bs)) [] (map nodes_in (map full bs))) (map full bs) ≡ marked (marks twin_of (need bs) [] (map nodes_in bs)) bs
judged_alike bs =
    full_marked (marks twin_of (need (map full bs)) [] (map nodes_in (map full bs))) bs
    ∙ ap (λ l. marked (marks twin_of (need (map full bs)) [] l) bs) (full_nodes bs)
    ∙ ap (λ f. marked (marks twin_of f [] (map nodes_in bs)) bs) (λ t m. need_full bs m t)
