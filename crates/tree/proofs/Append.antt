-- A fresh node: what it makes of the tree, and of what is needed.
use Rattle.std.proofs.Common.{◌≡◌, ℕ, ◌<◌, min, Bool, true, false, cond, ◌&&◌, ltb, ◌⊎◌, List, ◌∷◌, Some, sym, refl, ap, ◌∙◌, subst, inl, inr, arith}
use Rattle.std.proofs.lemmas.Bool.Decides.{leb_tells, Decides-ltb}
use Rattle.nodes.specs.Records.{Entry, Content}
use Rattle.tree.specs.Newest.{In, first, later}
use Rattle.tree.specs.Nodes.{Node, entry, content, entries, contents, titled, covers, span_of, byte_of, number, version}
use Rattle.tree.specs.Tree.{Tree, tree, title, last, giver, target, target_of, length_of, value_of, apply, Names, SameFile}
use Rattle.tree.specs.Needed.{Needed, counts, removes, ends, gives}
use Rattle.tree.specs.Fresh.{Above, Closed, Awaited, awaited}
use Rattle.tree.specs.Laws.{LayingApplies, LayingNeedsNothingMore, LayingTellsApart}
use Rattle.tree.proofs.Newest.{TellsLeb, top, comes, passes, true_false}
use Rattle.tree.proofs.Nodes.{entry_version, content_version, of_number, of_byte, entry_content, in_entry, in_content, titled_is, of_number_is, of_byte_is}
use Rattle.tree.proofs.Names.{target_is, decide_names}
use Rattle.tree.proofs.Drop.{names_too}

module _ (e : Entry) (p : List Node) (f : Above (entry e) p) where
  title_new : (d : ℕ) (n : List ℕ) → titled d n e ≡ true → title (entry e ∷ p) d n ≡ Some e
  title_new d n q =
      comes entry_version (titled d n) (entries p) e q
      (λ s i x. f (entry s) (in_entry p i) ((titled_is d n s x).0 ∙ sym (titled_is d n e q).0))

  title_old : (d : ℕ) (n : List ℕ) → titled d n e ≡ false → title (entry e ∷ p) d n ≡ title p d n
  title_old d n q = passes entry_version (titled d n) (entries p) e q

  -- who has a name after an entry came
  names_after : (k : ℕ) → Names (tree (entry e ∷ p)) k → Names (tree p) k ⊎ ((e.ino ≡ k) × (e.ino ≡ 0 → ⊥))
  names_after k N = go (titled N.dir N.name e) refl
    where
      go : (b : Bool) → titled N.dir N.name e ≡ b → Names (tree p) k ⊎ ((e.ino ≡ k) × (e.ino ≡ 0 → ⊥))
      go true x = inr (target_is e k N.dtype (sym (ap target_of (title_new N.dir N.name x)) ∙ N.is))
      go false x =
          let q = title_old N.dir N.name x in
          inl (record { dir = N.dir; name = N.name; dtype = N.dtype; is = sym (ap target_of q) ∙ N.is })

module _ (c : Content) (p : List Node) (f : Above (content c) p) where
  pub last_new : (k : ℕ) → of_number k c ≡ true → last (content c ∷ p) k ≡ Some c
  last_new k q =
      comes content_version (of_number k) (contents p) c q
      (λ s i x. f (content s) (in_content p i) (of_number_is k s x ∙ sym (of_number_is k c q)))

  pub last_old : (k : ℕ) → of_number k c ≡ false → last (content c ∷ p) k ≡ last p k
  last_old k q = passes content_version (of_number k) (contents p) c q

  giver_new : (k i : ℕ) → of_byte k i c ≡ true → giver (content c ∷ p) k i ≡ Some c
  giver_new k i q =
      comes content_version (of_byte k i) (contents p) c q
      (λ s j x. f (content s) (in_content p j) (of_byte_is k i s x ∙ sym (of_byte_is k i c q)))

  giver_old : (k i : ℕ) → of_byte k i c ≡ false → giver (content c ∷ p) k i ≡ giver p k i
  giver_old k i q = passes content_version (of_byte k i) (contents p) c q

  long_new : (k : ℕ) → (tree (content c ∷ p)).long k ≡ cond (of_number k c) c.isize ((tree p).long k)
  long_new k = go (of_number k c) refl
    where
      go : (b : Bool) → of_number k c ≡ b → (tree (content c ∷ p)).long k ≡ cond b c.isize ((tree p).long k)
      go true x = ap length_of (last_new k x)
      go false x = ap length_of (last_old k x)

  module _ (cl : Closed c p) where
    -- what c does not cover below its length lies below the old one
    below_covered : (k i : ℕ) → of_number k c ≡ true → covers i (span_of c) ≡ false → i < c.isize → i < (tree p).long k
    below_covered k i x y l = subst (λ n. i < (tree p).long n) (of_number_is k c x) (by (leb_tells ((tree p).long c.ino) i))
      where
        by : {b : Bool} → TellsLeb b ((tree p).long c.ino) i → i < (tree p).long c.ino
        by (inl h) = absurd (true_false (cl i h.1 l) y)
        by (inr h) = h.1

    below : (k i : ℕ) → of_byte k i c ≡ false → i < cond (of_number k c) c.isize ((tree p).long k) → i < (tree p).long k
    below k i q l = go (of_number k c) refl q l
      where
        go : (b : Bool) → of_number k c ≡ b → (b && covers i (span_of c)) ≡ false → i < cond b c.isize ((tree p).long k)
            → i < (tree p).long k
        go false x y l = l
        go true x y l = below_covered k i x y l

    module _ (t : Tree) (k : ℕ) (s : SameFile t (tree p) k) where
      byte_on : (i : ℕ) → i < (apply (content c) t).long k → (apply (content c) t).byte k i ≡ (tree (content c ∷ p)).byte k i
      byte_on i l = go (of_number k c) (covers i (span_of c)) refl refl l
        where
          go : (a b : Bool) → of_number k c ≡ a → covers i (span_of c) ≡ b → i < cond a c.isize (t.long k)
              → cond a (cond b (byte_of c i) (cond (ltb i (min (t.long k) c.isize)) (t.byte k i) 0)) (t.byte k i)
              ≡ (tree (content c ∷ p)).byte k i
          go false b x y l = s.byte i l ∙ sym (ap (value_of i) (giver_old k i (rw x)))
          go true true x y l = sym (ap (value_of i) (giver_new k i (rw (x, y))))
          go true false x y l =
              let h : i < t.long k = rw s.long (below_covered k i x y l) in
              let m : i < min (t.long k) c.isize = omega arith in
              rw ((Decides-ltb i (min (t.long k) c.isize)).1 m)
              (s.byte i h ∙ sym (ap (value_of i) (giver_old k i (rw (x, y)))))

      pub file_on : SameFile (apply (content c) t) (tree (content c ∷ p)) k
      file_on = record { long = rw (long_new k, s.long); byte = byte_on }

-- of either kind
still_apart : {R : Type 0} (make : R → Node) → ((x y : R) → make x ≡ make y → x ≡ y) → (n : Node) (p : List Node) → Above n p
    → ((x y : R) → In (make x) p → In (make y) p → number (make x) ≡ number (make y) → version (make x) ≡ version (make y) → x ≡ y)
    → (x y : R) → In (make x) (n ∷ p) → In (make y) (n ∷ p) → number (make x) ≡ number (make y)
    → version (make x) ≡ version (make y) → x ≡ y
still_apart {R} make one n p f u = tell
  where
    clash : (x y : R) → make x ≡ n → In (make y) p → number (make x) ≡ number (make y) → version (make x) ≡ version (make y) → ⊥
    clash x y q j a b =
        let l : version (make y) < version n = f (make y) j (sym a ∙ ap number q) in
        let v : version (make x) ≡ version n = ap version q in
        omega arith

    tell : (x y : R) → In (make x) (n ∷ p) → In (make y) (n ∷ p) → number (make x) ≡ number (make y)
        → version (make x) ≡ version (make y) → x ≡ y
    tell x y (first q) (first r) a b = one x y (q ∙ sym r)
    tell x y (first q) (later j) a b = absurd (clash x y q j a b)
    tell x y (later i) (first r) a b = absurd (clash y x r i (sym a) (sym b))
    tell x y (later i) (later j) a b = u x y i j a b

pub tells_apart : LayingTellsApart
tells_apart n p f u = record {
  entry = still_apart entry (λ x y q. (cc)) n p f u.entry;
  content = still_apart content (λ x y q. (cc)) n p f u.content;
}

-- what is needed once n came
abbrev After : List Node → Node → Node → Type 0
After p n m = (m ≡ n) ⊎ (Needed p m ⊎ Awaited p n m)

module _ (e : Entry) (p : List Node) (f : Above (entry e) p) where
  -- a content that is needed once its number has a name
  awaits : (c : Content) → Names (tree p) c.ino ⊎ ((e.ino ≡ c.ino) × (e.ino ≡ 0 → ⊥))
      → (Names (tree p) c.ino → Needed p (content c)) → In (content c) p → After p (entry e) (content c)
  awaits c (inl M) n i = inr (inl (n M))
  awaits c (inr x) n i = go (decide_names p c.ino)
    where
      go : Names (tree p) c.ino ⊎ (Names (tree p) c.ino → ⊥) → After p (entry e) (content c)
      go (inl M) = inr (inl (n M))
      go (inr h) = inr (inr (awaited x.1 (λ M. h (subst (Names (tree p)) x.0 M)) (sym x.0) i))

  needs_entry : (m : Node) → Needed (entry e ∷ p) m → After p (entry e) m
  needs_entry m (counts {e = x} t z) = go (titled x.pino x.name e) refl
    where
      go : (b : Bool) → titled x.pino x.name e ≡ b → After p (entry e) (entry x)
      go true q = let y : Some x ≡ Some e = sym t ∙ title_new e p f x.pino x.name q in inl (cc)
      go false q = inr (inl (counts (sym (title_old e p f x.pino x.name q) ∙ t) z))
  needs_entry m (removes {e = x} g t z i k l) = go (titled x.pino x.name e) refl
    where
      in_rest : titled x.pino x.name e ≡ false → In (entry g) (entry e ∷ p) → In (entry g) p
      in_rest q (first r) = absurd (let y : g ≡ e = cc in true_false (rw y at k) q)
      in_rest q (later j) = j

      go : (b : Bool) → titled x.pino x.name e ≡ b → After p (entry e) (entry x)
      go true q = let y : Some x ≡ Some e = sym t ∙ title_new e p f x.pino x.name q in inl (cc)
      go false q = inr (inl (removes g (sym (title_old e p f x.pino x.name q) ∙ t) z (in_rest q i) k l))
  needs_entry m (ends {c} N l) =
      awaits c (names_after e p f c.ino N) (λ M. ends M l)
      (in_content p (top content_version (of_number c.ino) (contents p) c l).member)
  needs_entry m (gives {c} i N b g) =
      awaits c (names_after e p f c.ino N) (λ M. gives i M b g)
      (in_content p (top content_version (of_byte c.ino i) (contents p) c g).member)

module _ (c : Content) (p : List Node) (f : Above (content c) p) (cl : Closed c p) where
  names_still : (k : ℕ) → Names (tree (content c ∷ p)) k → Names (tree p) k
  names_still k N = names_too (tree (content c ∷ p)) (tree p) k (λ d n. refl) N

  needs_content : (m : Node) → Needed (content c ∷ p) m → After p (content c) m
  needs_content m (counts t z) = inr (inl (counts t z))
  needs_content m (removes g t z i k l) = inr (inl (removes g t z (in_rest i) k l))
    where
      in_rest : In (entry g) (content c ∷ p) → In (entry g) p
      in_rest (first r) = absurd (entry_content r)
      in_rest (later j) = j
  needs_content m (ends {c = d} N l) = go (of_number d.ino c) refl
    where
      go : (b : Bool) → of_number d.ino c ≡ b → After p (content c) (content d)
      go true q = let y : Some d ≡ Some c = sym l ∙ last_new c p f d.ino q in inl (cc)
      go false q = inr (inl (ends (names_still d.ino N) (sym (last_old c p f d.ino q) ∙ l)))
  needs_content m (gives {c = d} i N b g) = go (of_byte d.ino i c) refl
    where
      go : (x : Bool) → of_byte d.ino i c ≡ x → After p (content c) (content d)
      go true q = let y : Some d ≡ Some c = sym g ∙ giver_new c p f d.ino i q in inl (cc)
      go false q =
          let l = below c p f cl d.ino i q (rw (long_new c p f d.ino) at b) in
          inr (inl (gives i (names_still d.ino N) l (sym (giver_old c p f d.ino i q) ∙ g)))

pub needs_nothing_more : LayingNeedsNothingMore
needs_nothing_more (entry e) p f m d = needs_entry e p f m d
needs_nothing_more (content c) p f m d = needs_content c p f.0 f.1 m d

pub applies : LayingApplies
applies (entry e) p t f r s = record { there = there; file = file }
  where
    there : (d : ℕ) (n : List ℕ) → (apply (entry e) t).there d n ≡ (tree (entry e ∷ p)).there d n
    there d n = go (titled d n e) refl
      where
        go : (b : Bool) → titled d n e ≡ b → cond b (target e) (t.there d n) ≡ (tree (entry e ∷ p)).there d n
        go true x = sym (ap target_of (title_new e p f d n x))
        go false x = s.there d n ∙ sym (ap target_of (title_old e p f d n x))

    named_file : (k : ℕ) → Names (tree p) k → SameFile t (tree p) k
    named_file k N = s.file k (names_too (tree p) t k (λ d n. sym (s.there d n)) N)

    ready_file : (k : ℕ) → e.ino ≡ k → Names (tree p) e.ino ⊎ SameFile t (tree p) e.ino → SameFile t (tree p) k
    ready_file k q (inl N) = named_file k (subst (Names (tree p)) q N)
    ready_file k q (inr h) = subst (SameFile t (tree p)) q h

    old_file : (k : ℕ) → Names (tree p) k ⊎ ((e.ino ≡ k) × (e.ino ≡ 0 → ⊥)) → SameFile t (tree p) k
    old_file k (inl M) = named_file k M
    old_file k (inr h) = ready_file k h.0 (r h.1)

    file : (k : ℕ) → Names (apply (entry e) t) k → SameFile (apply (entry e) t) (tree (entry e ∷ p)) k
    file k N =
        let h = old_file k (names_after e p f k (names_too (apply (entry e) t) (tree (entry e ∷ p)) k there N)) in
        record { long = h.long; byte = h.byte }
applies (content c) p t f r s = record {
  there = s.there;
  file = λ k N. file_on c p f.0 f.1 t k (s.file k (names_too (apply (content c) t) t k (λ d n. refl) N));
}
