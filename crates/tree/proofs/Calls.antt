-- The nodes of whole calls.
use Rattle.std.proofs.Common.{◌≡◌, ℕ, zero, suc, ◌<◌, Bool, true, false, cond, ◌⊎◌, List, [], ◌∷◌, take, Some, sym, refl, ap, ◌∙◌, subst, inl, inr, arith}
use Rattle.nodes.specs.Records.{Entry, Content}
use Rattle.tree.specs.Newest.{In, first, later, Within}
use Rattle.tree.specs.Nodes.{Node, entry, content, contents, Uniq}
use Rattle.tree.specs.Tree.{Tree, tree, last, length_of, apply, applied, Names, SameFile, Same}
use Rattle.tree.specs.Needed.{Needed, ends, gives}
use Rattle.tree.specs.Fresh.{Above, Closed, Fresh, Ready, Awaited, awaited, Begun, Allowed, LayableAfter, laid, Keeps}
use Rattle.tree.specs.Laws.{RoomSpoilsNothing, CallsApply, CallsNeedTheirs, CallsTellApart}
use Rattle.tree.proofs.Newest.{top, kept, no_one, true_false}
use Rattle.tree.proofs.Nodes.{content_version, of_number, content_entry, content_in, of_number_is, of_number_self, last_alone}
use Rattle.tree.proofs.Drop.{contents_within, names_kept, same_long}
use Rattle.tree.proofs.Append.{last_new, last_old, tells_apart, needs_nothing_more, applies}

layable_take : (done p ns : List Node) (k : ℕ) → LayableAfter done p ns → LayableAfter done p (take k ns)
layable_take done p ns zero s = tt
layable_take done p [] (suc k) s = tt
layable_take done p (n ∷ ns) (suc k) s = (s.0, layable_take (n ∷ done) (n ∷ p) ns k s.1)

allowed_above : (done : List Node) (n : Node) (p : List Node) → Allowed done n p → Above n p
allowed_above done (entry e) p a = a.0
allowed_above done (content c) p a = a.0

-- nothing lies below length 0
empty_closed : (c : Content) (p : List Node) → c.isize ≡ 0 → Closed c p
empty_closed c p z i a b = absurd (let l : i < 0 = rw z at b in omega arith)

allowed_fresh : (done : List Node) (n : Node) (p : List Node) → Allowed done n p → Fresh n p
allowed_fresh done (entry e) p a = a.0
allowed_fresh done (content c) p a = (a.0, closed a.1)
  where
    closed : (Names (tree p) c.ino × Closed c p) ⊎ (c.isize ≡ 0) → Closed c p
    closed (inl h) = h.1
    closed (inr z) = empty_closed c p z

-- of a number that begins, only what the call laid becomes needed
begun_needs : (done p : List Node) (e : Entry) (c : Content) → Begun done p c.ino → Needed (entry e ∷ p) (content c)
    → In (content c) done
begun_needs done p e c b (ends N l) =
    let q : b.start ≡ c = (let y : Some b.start ≡ Some c = sym b.newest ∙ l in cc) in
    subst (λ d. In (content d) done) q b.by_call
begun_needs done p e c b (gives i N l g) = absurd (let z : i < 0 = rw (ap length_of b.newest ∙ b.empty) at l in omega arith)

needs_of_call : (done : List Node) (n : Node) (p : List Node) → Allowed done n p → (m : Node) → Needed (n ∷ p) m
    → In m (n ∷ done) ⊎ Needed p m
needs_of_call done n p a m d = go (needs_nothing_more n p (allowed_fresh done n p a) m d)
  where
    waits : (n m : Node) → Allowed done n p → Needed (n ∷ p) m → Awaited p n m → In m done
    waits n m a d (awaited {e} {c} z u q i) = by a.1
      where
        by : (e.ino ≡ 0) ⊎ (Names (tree p) e.ino ⊎ Begun done p e.ino) → In (content c) done
        by (inl x) = absurd (z x)
        by (inr (inl N)) = absurd (u N)
        by (inr (inr b)) = begun_needs done p e c (subst (Begun done p) (sym q) b) d

    go : (m ≡ n) ⊎ (Needed p m ⊎ Awaited p n m) → In m (n ∷ done) ⊎ Needed p m
    go (inl q) = inl (first q)
    go (inr (inl x)) = inr x
    go (inr (inr w)) = inl (later (waits n m a d w))

needs_after : (done p ns : List Node) (m : Node) → LayableAfter done p ns → Needed (laid p ns) m
    → In m ns ⊎ (In m done ⊎ Needed p m)
needs_after done p [] m s d = inr (inr d)
needs_after done p (n ∷ ns) m s d = go (needs_after (n ∷ done) (n ∷ p) ns m s.1 d)
  where
    back : In m (n ∷ done) ⊎ Needed p m → In m (n ∷ ns) ⊎ (In m done ⊎ Needed p m)
    back (inl (first q)) = inl (first q)
    back (inl (later i)) = inr (inl i)
    back (inr x) = inr (inr x)

    go : In m ns ⊎ (In m (n ∷ done) ⊎ Needed (n ∷ p) m) → In m (n ∷ ns) ⊎ (In m done ⊎ Needed p m)
    go (inl i) = inl (later i)
    go (inr (inl i)) = back (inl i)
    go (inr (inr x)) = back (needs_of_call done n p s.0 m x)

pub calls_need : CallsNeedTheirs
calls_need p ns k m s d = go (needs_after [] p (take k ns) m (layable_take [] p ns k s) d)
  where
    go : In m (take k ns) ⊎ (In m [] ⊎ Needed p m) → In m (take k ns) ⊎ Needed p m
    go (inl i) = inl i
    go (inr (inl i)) = absurd (no_one i)
    go (inr (inr x)) = inr x

apart_after : (done p ns : List Node) → LayableAfter done p ns → Uniq p → Uniq (laid p ns)
apart_after done p [] s u = u
apart_after done p (n ∷ ns) s u = apart_after (n ∷ done) (n ∷ p) ns s.1 (tells_apart n p (allowed_above done n p s.0) u)

pub calls_apart : CallsTellApart
calls_apart p ns k s u = apart_after [] p (take k ns) (layable_take [] p ns k s) u

-- the tree t has the length of each number of which the call laid the newest content
abbrev Lengths : List Node → List Node → Tree → Type 0
Lengths done p t = (c : Content) → In (content c) done → last p c.ino ≡ Some c → t.long c.ino ≡ c.isize

lengths_on : (done : List Node) (n : Node) (p : List Node) (t : Tree) → Above n p → Lengths done p t
    → Lengths (n ∷ done) (n ∷ p) (apply n t)
lengths_on done (entry e) p t a h c (first q) l = absurd (content_entry q)
lengths_on done (entry e) p t a h c (later i) l = h c i l
lengths_on done (content d) p t a h c i l = go (of_number c.ino d) refl
  where
    older : of_number c.ino d ≡ false → In (content c) (content d ∷ done) → In (content c) done
    older x (first q) =
        absurd (let y : d ≡ c = cc in true_false (of_number_self c) (subst (λ w. of_number c.ino w ≡ false) y x))
    older x (later j) = j

    go : (b : Bool) → of_number c.ino d ≡ b → cond b d.isize (t.long c.ino) ≡ c.isize
    go true x = let y : Some d ≡ Some c = sym (last_new d p a c.ino x) ∙ l in let z : d ≡ c = cc in ap (λ w. w.isize) z
    go false x = h c (older x i) (sym (last_old d p a c.ino x) ∙ l)

-- a number that begins looks the same
begun_same : (done p : List Node) (t : Tree) (k : ℕ) → Lengths done p t → Begun done p k → SameFile t (tree p) k
begun_same done p t k h b =
    record { long = empty ∙ sym zero_long; byte = λ i l. absurd (let z : i < 0 = rw empty at l in omega arith) }
  where
    zero_long : (tree p).long k ≡ 0
    zero_long = ap length_of b.newest ∙ b.empty

    empty : t.long k ≡ 0
    empty =
        let q = of_number_is k b.start (top content_version (of_number k) (contents p) b.start b.newest).fits in
        let l = subst (λ n. last p n ≡ Some b.start) (sym q) b.newest in
        subst (λ n. t.long n ≡ b.start.isize) q (h b.start b.by_call l) ∙ b.empty

ready : (done : List Node) (n : Node) (p : List Node) (t : Tree) → Allowed done n p → Lengths done p t → Ready n p t
ready done (content c) p t a h = tt
ready done (entry e) p t a h = λ z. go z a.1
  where
    go : (e.ino ≡ 0 → ⊥) → (e.ino ≡ 0) ⊎ (Names (tree p) e.ino ⊎ Begun done p e.ino)
        → Names (tree p) e.ino ⊎ SameFile t (tree p) e.ino
    go z (inl x) = absurd (z x)
    go z (inr (inl N)) = inl N
    go z (inr (inr b)) = inr (begun_same done p t e.ino h b)

apply_after : (done p ns : List Node) (t : Tree) → LayableAfter done p ns → Lengths done p t → Same t (tree p)
    → Same (applied t ns) (tree (laid p ns))
apply_after done p [] t s h e = e
apply_after done p (n ∷ ns) t s h e =
    apply_after (n ∷ done) (n ∷ p) ns (apply n t) s.1 (lengths_on done n p t (allowed_above done n p s.0) h)
    (applies n p t (allowed_fresh done n p s.0) (ready done n p t s.0 h) e)

pub calls_apply : CallsApply
calls_apply p ns t k s e = apply_after [] p (take k ns) t (layable_take [] p ns k s) (λ c i l. absurd (no_one i)) e

within_both : (n : Node) (p q : List Node) → Within q p → Within (n ∷ q) (n ∷ p)
within_both n p q w m (first x) = first x
within_both n p q w m (later i) = later (w m i)

module _ (done p q : List Node) (u : Uniq p) (k : Keeps p q) (w : Within done q) where
  begun_kept : (n : ℕ) → Begun done p n → Begun done q n
  begun_kept n b = record { start = b.start; by_call = b.by_call; newest = same ∙ b.newest; empty = b.empty }
    where
      stays : (c : Content) → last p n ≡ Some c → In c (contents q)
      stays c l =
          let y : Some b.start ≡ Some c = sym b.newest ∙ l in
          let z : b.start ≡ c = cc in
          rw z at (content_in q (w (content b.start) b.by_call))

      same : last q n ≡ last p n
      same = kept content_version (of_number n) (contents p) (contents q) (last_alone p u n) (contents_within p q k.part) stays

  allowed_kept : (n : Node) → Allowed done n p → Allowed done n q
  allowed_kept (entry e) a = (λ m i. a.0 m (k.part m i), go a.1)
    where
      go : (e.ino ≡ 0) ⊎ (Names (tree p) e.ino ⊎ Begun done p e.ino)
          → (e.ino ≡ 0) ⊎ (Names (tree q) e.ino ⊎ Begun done q e.ino)
      go (inl z) = inl z
      go (inr (inl N)) = inr (inl (names_kept p q u k e.ino N))
      go (inr (inr b)) = inr (inr (begun_kept e.ino b))
  allowed_kept (content c) a = (λ m i. a.0 m (k.part m i), go a.1)
    where
      go : (Names (tree p) c.ino × Closed c p) ⊎ (c.isize ≡ 0) → (Names (tree q) c.ino × Closed c q) ⊎ (c.isize ≡ 0)
      go (inl h) = inl (names_kept p q u k c.ino h.0, λ i l. h.1 i (rw (same_long p q u k c.ino h.0) at l))
      go (inr z) = inr z

  keeps_on : (n : Node) → Allowed done n p → Keeps (n ∷ p) (n ∷ q)
  keeps_on n a = record { part = within_both n p q k.part; all_needed = λ m d. go m (needs_of_call done n p a m d) }
    where
      go : (m : Node) → In m (n ∷ done) ⊎ Needed p m → In m (n ∷ q)
      go m (inl i) = within_both n q done w m i
      go m (inr x) = later (k.all_needed m x)

room_after : (done p q ns : List Node) → Uniq p → Keeps p q → Within done q → LayableAfter done p ns → LayableAfter done q ns
room_after done p q [] u k w s = tt
room_after done p q (n ∷ ns) u k w s =
    let v = tells_apart n p (allowed_above done n p s.0) u in
    let j = keeps_on done p q u k w n s.0 in
    (allowed_kept done p q u k w n s.0, room_after (n ∷ done) (n ∷ p) (n ∷ q) ns v j (within_both n q done w) s.1)

pub room : RoomSpoilsNothing
room p q ns u k s = room_after [] p q ns u k (λ m i. absurd (no_one i)) s
