-- The rising look for spent blocks.
use Rattle.std.proofs.Common.{◌≡◌, Bool, true, false, cond, not, ◌&&◌, ◌||◌, eqb, ◌⊎◌, List, [], ◌∷◌, ◌++◌, Decides, refl, ap, inl, inr, append_assoc}
use Rattle.std.proofs.lemmas.Bool.Decides.{Decides-eqb, Decides-like}
use Rattle.tree.specs.Newest.{In, first, later, Within}
use Rattle.tree.specs.Nodes.{Node, entry, content, twin, Uniq}
use Rattle.tree.specs.Needed.{Needed, needed}
use Rattle.tree.specs.Spent.{pool, has_twin, replaced, marks, unspent}
use Rattle.tree.specs.Laws.{ASpentBlockIsFound, NeededStandsUnspent}
use Rattle.tree.proofs.Newest.{true_false}
use Rattle.tree.proofs.Nodes.{both, eqb_self}
use Rattle.tree.proofs.Names.{decides_any}
use Rattle.tree.proofs.Lists.{in_left, in_right, in_either, in_around}
use Rattle.tree.proofs.Decide.{decided}
use Rattle.tree.proofs.Drop.{stands, same_tree}

twin_self : (m : Node) → twin m m ≡ true
twin_self (entry e) = rw (eqb_self e.pino, eqb_self e.version)
twin_self (content c) = rw (eqb_self c.ino, eqb_self c.version)

-- of nodes that stand, twins are equal
twin_is : (p : List Node) → Uniq p → (m n : Node) → In m p → In n p → twin m n ≡ true → m ≡ n
twin_is p u (entry e) (entry f) i j q =
    let h = both (eqb e.pino f.pino) (eqb e.version f.version) q in
    ap entry (u.entry e f i j ((Decides-eqb e.pino f.pino).0 h.0) ((Decides-eqb e.version f.version).0 h.1))
twin_is p u (content c) (content d) i j q =
    let h = both (eqb c.ino d.ino) (eqb c.version d.version) q in
    ap content (u.content c d i j ((Decides-eqb c.ino d.ino).0 h.0) ((Decides-eqb c.version d.version).0 h.1))
twin_is p u (entry e) (content d) i j q = absurd (true_false q refl)
twin_is p u (content c) (entry f) i j q = absurd (true_false q refl)

module _ (need : Node → Bool) (p : List Node) (u : Uniq p) where
  decides_has : (m : Node) (ns : List Node) → In m p → Within ns p → Decides (has_twin twin m ns) (In m ns)
  decides_has m ns i w =
      Decides-like _ (λ h. rw h.2 h.1) (λ j. (m, j, refl))
      (decides_any (twin m) (λ n. m ≡ n) ns (λ n j. (twin_is p u m n i (w n j), λ q. rw q (twin_self n))))

  -- what the test of a block says
  replaced_says : (b others : List Node) → Within b p → Within others p → replaced twin need b others ≡ true → (m : Node) → In m b
      → need m ≡ true → In m others
  replaced_says [] others w v q m i n = elim i [ ]
  replaced_says (k ∷ b) others w v q m (later i) n =
      replaced_says b others (λ x j. w x (later j)) v
      (both (not (need k) || has_twin twin k others) (replaced twin need b others) q).1 m i n
  replaced_says (k ∷ b) others w v q m (first e) n =
      let h = (both (not (need k) || has_twin twin k others) (replaced twin need b others) q).0 in
      rw e ((decides_has k others (w k (first refl)) v).0 (stood (need k) (has_twin twin k others) (rw e at n) h))
    where
      stood : (x y : Bool) → x ≡ true → (not x || y) ≡ true → y ≡ true
      stood true y e q = q
      stood false y e q = absurd (true_false e refl)

  says_replaced : (b others : List Node) → Within b p → Within others p → ((m : Node) → In m b → need m ≡ true → In m others)
      → replaced twin need b others ≡ true
  says_replaced [] others w v h = refl
  says_replaced (k ∷ b) others w v h =
      rw (says_replaced b others (λ x j. w x (later j)) v (λ m i. h m (later i))) (go (need k) refl)
    where
      go : (x : Bool) → need k ≡ x → ((not x || has_twin twin k others) && true) ≡ true
      go true e = rw ((decides_has k others (w k (first refl)) v).1 (h k (first refl) e))
      go false e = refl

  finds : (full : List Node) (below : List (List Node)) (b : List Node) (above : List (List Node))
      → Within (full ++ pool (below ++ (b ∷ above))) p
      → ((m : Node) → In m b → need m ≡ true → In m (full ++ (pool below ++ pool above)))
      → In true (marks twin need full (below ++ (b ∷ above)))
  finds full [] b above w h =
      rw (says_replaced b (full ++ pool above) inside (λ x j. w x (in_around full b (pool above) j)) h) (first refl)
    where
      inside : Within b p
      inside x j = w x (in_right full (b ++ pool above) (in_left b (pool above) j))
  finds full (a ∷ below) b above w h =
      go (replaced twin need a (full ++ pool (below ++ (b ∷ above))))
      (finds (full ++ a) below b above (λ x j. w x (simp append_assoc at j))
      (λ m i n. simp append_assoc (simp append_assoc at (h m i n))))
    where
      go : (s : Bool) → In true (marks twin need (full ++ a) (below ++ (b ∷ above)))
          → In true
          (cond s (true ∷ marks twin need full (below ++ (b ∷ above))) (false ∷ marks twin need (full ++ a) (below ++ (b ∷ above))))
      go true i = first refl
      go false i = later i

  -- a spent block can be left out
  others_have : (full b : List Node) (bs : List (List Node)) (m : Node) → Within b p → Within (full ++ pool bs) p → need m ≡ true
      → replaced twin need b (full ++ pool bs) ≡ true → In m full ⊎ In m (b ++ pool bs) → In m (full ++ pool bs)
  others_have full b bs m w v n s (inl i) = in_left full (pool bs) i
  others_have full b bs m w v n s (inr i) = go (in_either b (pool bs) i)
    where
      go : In m b ⊎ In m (pool bs) → In m (full ++ pool bs)
      go (inl j) = replaced_says b (full ++ pool bs) w v s m j n
      go (inr j) = in_right full (pool bs) j

  left_have : (full : List Node) (bs : List (List Node)) → Within (full ++ pool bs) p → (m : Node) → need m ≡ true
      → In m (full ++ pool bs) → In m (full ++ unspent (marks twin need full bs) bs)
  left_have full [] w m n i = i
  left_have full (b ∷ bs) w m n i =
      go (replaced twin need b (full ++ pool bs)) refl (λ j. left_have full bs without m n j)
      (left_have (full ++ b) bs (λ x j. w x (simp append_assoc at j)) m n (simp append_assoc i))
    where
      inside : Within b p
      inside x j = w x (in_right full (b ++ pool bs) (in_left b (pool bs) j))

      without : Within (full ++ pool bs) p
      without x j = w x (in_around full b (pool bs) j)

      go : (s : Bool) → replaced twin need b (full ++ pool bs) ≡ s
          → (In m (full ++ pool bs) → In m (full ++ unspent (marks twin need full bs) bs))
          → In m ((full ++ b) ++ unspent (marks twin need (full ++ b) bs) bs)
          → In m (full ++ unspent (cond s (true ∷ marks twin need full bs) (false ∷ marks twin need (full ++ b) bs)) (b ∷ bs))
      go true e f g = f (others_have full b bs m inside without n e (in_either full (b ++ pool bs) i))
      go false e f g = simp append_assoc at g

left_within : (ss : List Bool) (bs : List (List Node)) → Within (unspent ss bs) (pool bs)
left_within [] bs m i = elim i [ ]
left_within (s ∷ ss) [] m i = elim i [ ]
left_within (true ∷ ss) (b ∷ bs) m i = in_right b (pool bs) (left_within ss bs m i)
left_within (false ∷ ss) (b ∷ bs) m i = go (λ j. left_within ss bs m j) (in_either b (unspent ss bs) i)
  where
    go : (In m (unspent ss bs) → In m (pool bs)) → In m b ⊎ In m (unspent ss bs) → In m (b ++ pool bs)
    go f (inl j) = in_left b (pool bs) j
    go f (inr j) = in_right b (pool bs) (f j)

pool_has : (below : List (List Node)) (b : List Node) (above : List (List Node)) → Within b (pool (below ++ (b ∷ above)))
pool_has [] b above m i = in_left b (pool above) i
pool_has (a ∷ below) b above m i = in_right a (pool (below ++ (b ∷ above))) (pool_has below b above m i)

pub spent_is_found : ASpentBlockIsFound
spent_is_found below b above u h =
    let p = pool (below ++ (b ∷ above)) in
    finds (needed p) p u [] below b above (λ m i. i) (λ m i n. h m i ((decided p m u (pool_has below b above m i)).0 n))

holds : (bs : List (List Node)) (m : Node) → Uniq (pool bs) → Needed (pool bs) m
    → In m (unspent (marks twin (needed (pool bs)) [] bs) bs)
holds bs m u d =
    let i = stands (pool bs) m d in
    left_have (needed (pool bs)) (pool bs) u [] bs (λ x j. j) m ((decided (pool bs) m u i).1 d) i

pub stands_unspent : NeededStandsUnspent
stands_unspent = record {
  holds = holds;
  shows = λ bs u. same_tree (pool bs) (unspent (marks twin (needed (pool bs)) [] bs) bs) u (record {
    part = left_within (marks twin (needed (pool bs)) [] bs) bs;
    all_needed = λ m d. holds bs m u d;
  });
}
