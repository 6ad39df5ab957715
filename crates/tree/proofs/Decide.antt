-- The test of what is needed.
use Rattle.std.proofs.Common.{◌≡◌, ℕ, ◌<◌, Bool, true, ◌&&◌, ◌⊎◌, List, Some, Decides, refl, inl, inr}
use Rattle.std.proofs.lemmas.Bool.Decides.{eqb_tells, Decides-eqb, Decides-ltb, Decides-and, Decides-or, Decides-not, Decides-like, Decides-below_or}
use Rattle.nodes.specs.Records.{Entry, Content}
use Rattle.tree.specs.Newest.{In, unbeaten}
use Rattle.tree.specs.Nodes.{Node, entry, content, entries, contents, titled, covers, span_of, Uniq}
use Rattle.tree.specs.Lookups.{any_below, shows, needed_entry, seen}
use Rattle.tree.specs.Tree.{tree, title, last, giver, Names}
use Rattle.tree.specs.Needed.{Needed, counts, removes, ends, gives}
use Rattle.tree.specs.Laws.{NeededIsDecided}
use Rattle.tree.proofs.Newest.{TellsEqb, top, decides_unbeaten}
use Rattle.tree.proofs.Nodes.{content_version, of_number, of_byte, entry_in, in_entry, content_in, of_number_self, both, last_alone, giver_alone}
use Rattle.tree.proofs.Names.{decides_any, decides_leading, decides_names}

module _ (p : List Node) (e : Entry) where
  abbrev Older : Type 0
  Older = (f : Entry) × In f (entries p) × ((titled e.pino e.name f ≡ true) × (f.version < e.version))

  abbrev Why : Type 0
  Why = (title p e.pino e.name ≡ Some e) × ((e.ino ≡ 0 → ⊥) ⊎ Older)

  entry_why : Why → Needed p (entry e)
  entry_why h = go h.1 (eqb_tells e.ino 0)
    where
      go : (e.ino ≡ 0 → ⊥) ⊎ Older → {b : Bool} → TellsEqb b e.ino 0
          → Needed p (entry e)
      go (inl z) o = counts h.0 z
      go (inr x) (inr z) = counts h.0 z.1
      go (inr x) (inl z) = removes x.0 h.0 z.1 (in_entry p x.1) x.2.0 x.2.1

  why_entry : Needed p (entry e) → Why
  why_entry (counts t z) = (t, inl z)
  why_entry (removes f t z i k l) = (t, inr (f, entry_in p i, (k, l)))

module _ (p : List Node) (c : Content) where
  abbrev Reason : Type 0
  Reason =
      Names (tree p) c.ino ×
      ((last p c.ino ≡ Some c) ⊎ ((i : ℕ) × (i < (tree p).long c.ino) × (giver p c.ino i ≡ Some c)))

  content_why : Reason → Needed p (content c)
  content_why h = go h.1
    where
      go : (last p c.ino ≡ Some c) ⊎ ((i : ℕ) × (i < (tree p).long c.ino) × (giver p c.ino i ≡ Some c))
          → Needed p (content c)
      go (inl l) = ends h.0 l
      go (inr x) = gives x.0 h.0 x.1 x.2

  why_content : Needed p (content c) → Reason
  why_content (ends N l) = (N, inl l)
  why_content (gives i N b g) = (N, inr (i, b, g))

  decides_shows : Uniq p → In c (contents p) → (i : ℕ)
      → Decides (shows span_of (contents p) (span_of c) i) (giver p c.ino i ≡ Some c)
  decides_shows u j i = (shown, showing)
    where
      rest : Bool
      rest = unbeaten content_version (of_byte c.ino i) (contents p) c.version

      unbeats : covers i (span_of c) ≡ true → Decides rest (giver p c.ino i ≡ Some c)
      unbeats x =
          decides_unbeaten content_version (of_byte c.ino i) (contents p) c (giver_alone p u c.ino i) j
          (rw (of_number_self c, x))

      shown : (covers i (span_of c) && rest) ≡ true → giver p c.ino i ≡ Some c
      shown q = let h = both (covers i (span_of c)) rest q in (unbeats h.0).0 h.1

      showing : giver p c.ino i ≡ Some c → (covers i (span_of c) && rest) ≡ true
      showing g =
          let T = top content_version (of_byte c.ino i) (contents p) c g in
          let x = (both (of_number c.ino c) (covers i (span_of c)) T.fits).1 in
          rw x ((unbeats x).1 g)

pub decided : NeededIsDecided
unfolding needed_entry seen
decided p (entry e) u i =
    Decides-like _ (entry_why p e) (why_entry p e)
    (Decides-and _ _ (decides_leading p u e (entry_in p i))
    (Decides-or _ _ (Decides-not _ (Decides-eqb e.ino 0))
    (decides_any _ (λ f. (titled e.pino e.name f ≡ true) × (f.version < e.version)) (entries p)
    (λ f j. Decides-and _ _ (λ q. q, λ q. q) (Decides-ltb f.version e.version)))))
decided p (content c) u i =
    let j = content_in p i in
    let f = shows span_of (contents p) (span_of c) in
    Decides-like _ (content_why p c) (why_content p c)
    (Decides-and _ _ (decides_names p u c.ino)
    (Decides-or _ _
    (decides_unbeaten content_version (of_number c.ino) (contents p) c (last_alone p u c.ino) j (of_number_self c))
    (Decides-below_or f (λ i. giver p c.ino i ≡ Some c) (any_below f) (decides_shows p c u j) refl (λ _. refl) ((tree p).long c.ino))))
