-- What is not needed can be dropped.
use Rattle.std.proofs.Common.{◌≡◌, ℕ, ◌<◌, ◌≤◌, Bool, true, List, Some, None, Option, sym, refl, ap, ◌∙◌, subst, subst₂, inl, inr, arith}
use Rattle.std.proofs.lemmas.Bool.Decides.{eqb_tells, leb_tells}
use Rattle.nodes.specs.Records.{Entry, Content}
use Rattle.tree.specs.Newest.{In, Within}
use Rattle.tree.specs.Nodes.{Node, entry, content, entries, contents, titled, Uniq}
use Rattle.tree.specs.Tree.{Tree, tree, title, last, giver, target_of, length_of, value_of, Names, Same}
use Rattle.tree.specs.Needed.{Needed, counts, removes, ends, gives}
use Rattle.tree.specs.Fresh.{Keeps}
use Rattle.tree.specs.Laws.{SameNodesSameTree, DroppingKeepsTheTree}
use Rattle.tree.proofs.Newest.{TellsLeb, TellsEqb, Top, kept, top, none_some}
use Rattle.tree.proofs.Nodes.{entry_version, content_version, of_number, of_byte, entry_in, in_entry, content_in, in_content, titled_is, of_number_is, of_byte_is, title_alone, last_alone, giver_alone}

-- where names agree, so do the numbers that have one
pub names_too : (t u : Tree) (k : ℕ) → ((d : ℕ) (n : List ℕ) → t.there d n ≡ u.there d n) → Names t k → Names u k
names_too t u k e N = record { dir = N.dir; name = N.name; dtype = N.dtype; is = sym (e N.dir N.name) ∙ N.is }

-- the causes of need, with the key written out
counts_at : (p : List Node) (d : ℕ) (n : List ℕ) (e : Entry) → title p d n ≡ Some e → (e.ino ≡ 0 → ⊥) → Needed p (entry e)
counts_at p d n e t z =
    let k = titled_is d n e (top entry_version (titled d n) (entries p) e t).fits in
    counts (subst₂ (λ x y. title p x y ≡ Some e) (sym k.0) (sym k.1) t) z

removes_at : (p : List Node) (d : ℕ) (n : List ℕ) (e f : Entry) → title p d n ≡ Some e → e.ino ≡ 0 → In (entry f) p
    → titled d n f ≡ true → f.version < e.version → Needed p (entry e)
removes_at p d n e f t z i k l =
    let x = titled_is d n e (top entry_version (titled d n) (entries p) e t).fits in
    removes f (subst₂ (λ y w. title p y w ≡ Some e) (sym x.0) (sym x.1) t) z i
    (subst₂ (λ y w. titled y w f ≡ true) (sym x.0) (sym x.1) k) l

ends_at : (p : List Node) (k : ℕ) (c : Content) → Names (tree p) k → last p k ≡ Some c → Needed p (content c)
ends_at p k c N l =
    let q = of_number_is k c (top content_version (of_number k) (contents p) c l).fits in
    ends (subst (Names (tree p)) (sym q) N) (subst (λ x. last p x ≡ Some c) (sym q) l)

gives_at : (p : List Node) (k i : ℕ) (c : Content) → Names (tree p) k → i < (tree p).long k → giver p k i ≡ Some c
    → Needed p (content c)
gives_at p k i c N l g =
    let q = of_byte_is k i c (top content_version (of_byte k i) (contents p) c g).fits in
    gives i (subst (Names (tree p)) (sym q) N) (subst (λ x. i < (tree p).long x) (sym q) l)
    (subst (λ x. giver p x i ≡ Some c) (sym q) g)

pub entries_within : (p q : List Node) → Within q p → Within (entries q) (entries p)
entries_within p q w e i = entry_in p (w (entry e) (in_entry q i))

pub contents_within : (p q : List Node) → Within q p → Within (contents q) (contents p)
contents_within p q w c i = content_in p (w (content c) (in_content q i))

module _ (p q : List Node) (u : Uniq p) (k : Keeps p q) where
  -- the newest entry of a name is kept, or was a removal of which nothing is left
  data Kept (d : ℕ) (n : List ℕ) : Type 0 where
    same : title q d n ≡ title p d n → Kept d n
    gone : (e : Entry) → title q d n ≡ None → title p d n ≡ Some e → e.ino ≡ 0 → Kept d n

  title_kept : (d : ℕ) (n : List ℕ) (o : Option Entry) → title p d n ≡ o → ((e : Entry) → o ≡ Some e → In e (entries q))
      → Kept d n
  title_kept d n o e h =
      let w = entries_within p q k.part in
      same (kept entry_version (titled d n) (entries p) (entries q) (title_alone p u d n) w (λ r x. h r (sym e ∙ x)))

  one_kept : (d : ℕ) (n : List ℕ) (e : Entry) → title p d n ≡ Some e → In e (entries q) → Kept d n
  one_kept d n e t i = title_kept d n (Some e) t (λ r x. let z : e ≡ r = cc in rw z at i)

  removed : (d : ℕ) (n : List ℕ) (e : Entry) → title p d n ≡ Some e → e.ino ≡ 0 → (o : Option Entry) → title q d n ≡ o → Kept d n
  removed d n e t z None x = gone e x t z
  removed d n e t z (Some f) x = by (leb_tells e.version f.version)
    where
      F : Top entry_version (titled d n) (entries q) f
      F = top entry_version (titled d n) (entries q) f x

      E : Top entry_version (titled d n) (entries p) e
      E = top entry_version (titled d n) (entries p) e t

      f_in : In f (entries p)
      f_in = entries_within p q k.part f F.member

      by : {b : Bool} → TellsLeb b e.version f.version → Kept d n
      by (inl h) =
          let l : f.version ≤ e.version = E.above f f_in F.fits in
          let v : f.version ≡ e.version = omega arith in
          let y : f ≡ e = title_alone p u d n f e f_in E.member F.fits E.fits v in
          one_kept d n e t (rw y at F.member)
      by (inr h) =
          one_kept d n e t (entry_in q (k.all_needed (entry e) (removes_at p d n e f t z (in_entry p f_in) F.fits h.1)))

  kept_title : (d : ℕ) (n : List ℕ) → Kept d n
  kept_title d n = go (title p d n) refl
    where
      some_kept : (e : Entry) → title p d n ≡ Some e → {b : Bool} → TellsEqb b e.ino 0
          → Kept d n
      some_kept e t (inl h) = removed d n e t h.1 (title q d n) refl
      some_kept e t (inr h) = one_kept d n e t (entry_in q (k.all_needed (entry e) (counts_at p d n e t h.1)))

      go : (o : Option Entry) → title p d n ≡ o → Kept d n
      go None t = title_kept d n None t (λ r x. absurd (none_some x))
      go (Some e) t = some_kept e t (eqb_tells e.ino 0)

  pub same_there : (d : ℕ) (n : List ℕ) → (tree q).there d n ≡ (tree p).there d n
  same_there d n = go (kept_title d n)
    where
      go : Kept d n → (tree q).there d n ≡ (tree p).there d n
      go (same e) = ap target_of e
      go (gone e x t z) = rw (x, t, z)

  pub names_kept : (n : ℕ) → Names (tree p) n → Names (tree q) n
  names_kept n = names_too (tree p) (tree q) n (λ d x. sym (same_there d x))

  names_were : (n : ℕ) → Names (tree q) n → Names (tree p) n
  names_were n = names_too (tree q) (tree p) n same_there

  pub same_last : (n : ℕ) → Names (tree p) n → last q n ≡ last p n
  same_last n N =
      kept content_version (of_number n) (contents p) (contents q) (last_alone p u n) (contents_within p q k.part)
      (λ c l. content_in q (k.all_needed (content c) (ends_at p n c N l)))

  same_giver : (n i : ℕ) → Names (tree p) n → i < (tree p).long n → giver q n i ≡ giver p n i
  same_giver n i N b =
      kept content_version (of_byte n i) (contents p) (contents q) (giver_alone p u n i) (contents_within p q k.part)
      (λ c g. content_in q (k.all_needed (content c) (gives_at p n i c N b g)))

  pub same_long : (n : ℕ) → Names (tree p) n → (tree q).long n ≡ (tree p).long n
  same_long n N = ap length_of (same_last n N)

  pub same_tree : Same (tree q) (tree p)
  same_tree = record {
    there = same_there;
    file = λ n N. record {
      long = same_long n (names_were n N);
      byte = λ i l. ap (value_of i) (same_giver n i (names_were n N) (rw (same_long n (names_were n N)) at l));
    };
  }

  title_was : (d : ℕ) (n : List ℕ) (e : Entry) → title q d n ≡ Some e → Kept d n → title p d n ≡ Some e
  title_was d n e t (same x) = sym x ∙ t
  title_was d n e t (gone f x y z) = absurd (none_some (sym x ∙ t))

  pub was_needed : (m : Node) → Needed q m → Needed p m
  was_needed m (counts {e} t z) = counts (title_was e.pino e.name e t (kept_title e.pino e.name)) z
  was_needed m (removes {e} f t z i x l) =
      removes f (title_was e.pino e.name e t (kept_title e.pino e.name)) z (k.part (entry f) i) x l
  was_needed m (ends {c} N l) = ends (names_were c.ino N) (sym (same_last c.ino (names_were c.ino N)) ∙ l)
  was_needed m (gives {c} i N b g) =
      let M = names_were c.ino N in
      let l = rw (same_long c.ino M) at b in
      gives i M l (sym (same_giver c.ino i M l) ∙ g)

pub dropping : DroppingKeepsTheTree
dropping p q u k = (same_tree p q u k, was_needed p q u k)

-- what is needed stands
pub stands : (p : List Node) (m : Node) → Needed p m → In m p
stands p m (counts {e} t z) = in_entry p (top entry_version (titled e.pino e.name) (entries p) e t).member
stands p m (removes {e} f t z i k l) = in_entry p (top entry_version (titled e.pino e.name) (entries p) e t).member
stands p m (ends {c} N l) = in_content p (top content_version (of_number c.ino) (contents p) c l).member
stands p m (gives {c} i N b g) = in_content p (top content_version (of_byte c.ino i) (contents p) c g).member

pub same_nodes : SameNodesSameTree
same_nodes p q u w v = same_tree p q u (record { part = w; all_needed = λ m d. v m (stands p m d) })
