-- Which numbers have a name.
use Rattle.std.proofs.Common.{◌≡◌, ℕ, Bool, true, false, cond, eqb, ◌⊎◌, List, [], ◌∷◌, Some, None, Decides, Option, sym, refl, ap, ◌∙◌, subst₂, inl, inr}
use Rattle.std.specs.List.{list_any}
use Rattle.std.proofs.lemmas.Bool.Decides.{eqb_tells, Decides-eqb, Decides-or, Decides-and, Decides-not, Decides-like}
use Rattle.nodes.specs.Records.{Entry}
use Rattle.tree.specs.Newest.{In, first, later}
use Rattle.tree.specs.Nodes.{Node, entries, titled, Uniq}
use Rattle.tree.specs.Lookups.{leading, counts, named}
use Rattle.tree.specs.Tree.{tree, title, target, target_of, Names, Target}
use Rattle.tree.proofs.Newest.{TellsEqb, top, none_some, true_false, decides_unbeaten}
use Rattle.tree.proofs.Nodes.{entry_version, titled_is, titled_self, title_alone}

-- what an entry that counts stands for
pub target_is : (e : Entry) (k z : ℕ) → target e ≡ Some (record { ino = k; dtype = z }) → (e.ino ≡ k) × (e.ino ≡ 0 → ⊥)
target_is e k z q = go (eqb e.ino 0) (eqb_tells e.ino 0) q
  where
    go : (b : Bool) → TellsEqb b e.ino 0
        → cond {A = Option Target} b None (Some (record { ino = e.ino; dtype = e.dtype })) ≡ Some (record { ino = k; dtype = z })
        → (e.ino ≡ k) × (e.ino ≡ 0 → ⊥)
    go true h x = absurd (none_some x)
    go false (inl h) x = absurd (true_false h.0 refl)
    go false (inr h) x =
        let y : ◌≡◌ {A = Target} (record { ino = e.ino; dtype = e.dtype }) (record { ino = k; dtype = z }) = cc in
        (ap (λ r. r.ino) y, h.1)

target_of_one : (e : Entry) → (e.ino ≡ 0 → ⊥) → target e ≡ Some (record { ino = e.ino; dtype = e.dtype })
target_of_one e z = go (eqb_tells e.ino 0)
  where
    go : TellsEqb (eqb e.ino 0) e.ino 0
        → target e ≡ Some (record { ino = e.ino; dtype = e.dtype })
    go (inl h) = absurd (z h.1)
    go (inr h) = rw h.0

-- some record of a list passes a test
pub decides_any : {A : Type 0} (f : A → Bool) (P : A → Type 0) (xs : List A) → ((x : A) → In x xs → Decides (f x) (P x))
    → Decides (list_any f xs) ((x : A) × In x xs × P x)
decides_any f P [] d = (λ q. absurd (true_false q refl), λ h. elim h.1 [ ])
decides_any {A} f P (y ∷ ys) d =
    Decides-like _ to from (Decides-or (f y) (list_any f ys) (d y (first refl)) (decides_any f P ys (λ x i. d x (later i))))
  where
    to : P y ⊎ ((x : A) × In x ys × P x) → (x : A) × In x (y ∷ ys) × P x
    to (inl e) = (y, first refl, e)
    to (inr h) = (h.0, later h.1, h.2)

    at : (x : A) → In x (y ∷ ys) → P x → P y ⊎ ((x : A) × In x ys × P x)
    at x (first q) e = inl (rw q at e)
    at x (later i) e = inr (x, i, e)

    from : ((x : A) × In x (y ∷ ys) × P x) → P y ⊎ ((x : A) × In x ys × P x)
    from h = at h.0 h.1 h.2

-- the entry by which a number has its name
pub record Naming (p : List Node) (k : ℕ) : Type 0 where
  pub by : Entry
  pub member : In by (entries p)
  pub first : title p by.pino by.name ≡ Some by
  pub is : by.ino ≡ k
  pub no_removal : by.ino ≡ 0 → ⊥

pub names_by : (p : List Node) (k : ℕ) → Names (tree p) k → Naming p k
names_by p k N = go (title p N.dir N.name) refl N.is
  where
    go : (o : Option Entry) → title p N.dir N.name ≡ o → target_of o ≡ Some (record { ino = k; dtype = N.dtype })
        → Naming p k
    go None t q = absurd (none_some q)
    go (Some e) t q =
        let T = top entry_version (titled N.dir N.name) (entries p) e t in
        let x = titled_is N.dir N.name e T.fits in
        let z = target_is e k N.dtype q in
        record {
          by = e;
          member = T.member;
          first = subst₂ (λ d n. title p d n ≡ Some e) (sym x.0) (sym x.1) t;
          is = z.0;
          no_removal = z.1;
        }

there_by : (p : List Node) (k : ℕ) (h : Naming p k)
    → (tree p).there h.by.pino h.by.name ≡ Some (record { ino = k; dtype = h.by.dtype })
there_by p k h =
    let q = h.is in
    ap target_of h.first ∙ target_of_one h.by h.no_removal ∙ (λ i. Some (record { ino = q i; dtype = h.by.dtype }))

by_names : (p : List Node) (k : ℕ) → Naming p k → Names (tree p) k
by_names p k h = record { dir = h.by.pino; name = h.by.name; dtype = h.by.dtype; is = there_by p k h }

leads : ℕ → Option Target → Bool
leads k None = false
leads k (Some r) = eqb r.ino k

decides_leads : (k : ℕ) (o : Option Target) → Decides (leads k o) ((z : ℕ) × (o ≡ Some (record { ino = k; dtype = z })))
unfolding leads
decides_leads k None = (λ q. absurd (true_false q refl), λ h. absurd (none_some h.1))
decides_leads k (Some r) = (led, leading_is)
  where
    led : eqb r.ino k ≡ true → (z : ℕ) × (Some r ≡ Some (record { ino = k; dtype = z }))
    led q =
        let e : r.ino ≡ k = (Decides-eqb r.ino k).0 q in
        (r.dtype, λ i. Some (record { ino = e i; dtype = r.dtype }))

    leading_is : ((z : ℕ) × (Some r ≡ Some (record { ino = k; dtype = z }))) → eqb r.ino k ≡ true
    leading_is h = let y : r ≡ record { ino = k; dtype = h.0 } = cc in (Decides-eqb r.ino k).1 (ap (λ x. x.ino) y)

-- a number has a name or has none
pub decide_names : (p : List Node) (k : ℕ) → Names (tree p) k ⊎ (Names (tree p) k → ⊥)
decide_names p k =
    go (list_any (λ e. leads k (there e)) (entries p)) (decides_any _ Led (entries p) (λ e i. decides_leads k (there e)))
  where
    there : Entry → Option Target
    there e = (tree p).there e.pino e.name

    Led : Entry → Type 0
    Led e = (z : ℕ) × (there e ≡ Some (record { ino = k; dtype = z }))

    go : (b : Bool) → Decides b ((e : Entry) × In e (entries p) × Led e) → Names (tree p) k ⊎ (Names (tree p) k → ⊥)
    go true d = let h = d.0 refl in inl (record { dir = h.0.pino; name = h.0.name; dtype = h.2.0; is = h.2.1 })
    go false d =
        inr (λ N. let h = names_by p k N in true_false (d.1 (h.by, h.member, (h.by.dtype, there_by p k h))) refl)

-- the tests of it, where no two entries have one version
pub decides_leading : (p : List Node) → Uniq p → (e : Entry) → In e (entries p)
    → Decides (leading (λ e. e) (entries p) e) (title p e.pino e.name ≡ Some e)
decides_leading p u e i =
    decides_unbeaten entry_version (titled e.pino e.name) (entries p) e (title_alone p u e.pino e.name) i
    (titled_self e)

decides_counts : (p : List Node) → Uniq p → (e : Entry) → In e (entries p)
    → Decides (counts (λ e. e) (entries p) e) ((e.ino ≡ 0 → ⊥) × (title p e.pino e.name ≡ Some e))
unfolding counts
decides_counts p u e i = Decides-and _ _ (Decides-not _ (Decides-eqb e.ino 0)) (decides_leading p u e i)

pub decides_names : (p : List Node) → Uniq p → (k : ℕ) → Decides (named (λ e. e) (entries p) k) (Names (tree p) k)
unfolding named
decides_names p u k =
    Decides-like _ to from
    (decides_any _ Named (entries p) (λ e i. Decides-and _ _ (Decides-eqb e.ino k) (decides_counts p u e i)))
  where
    Named : Entry → Type 0
    Named e = (e.ino ≡ k) × ((e.ino ≡ 0 → ⊥) × (title p e.pino e.name ≡ Some e))

    to : ((e : Entry) × In e (entries p) × Named e) → Names (tree p) k
    to h = by_names p k (record { by = h.0; member = h.1; first = h.2.1.1; is = h.2.0; no_removal = h.2.1.0 })

    from : Names (tree p) k → (e : Entry) × In e (entries p) × Named e
    from N = let h = names_by p k N in (h.by, h.member, (h.is, (h.no_removal, h.first)))
