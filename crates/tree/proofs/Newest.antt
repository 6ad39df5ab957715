-- What the newest of the picked records is.
use Rattle.std.proofs.Common.{◌≡◌, ℕ, ◌<◌, ◌≤◌, Bool, true, false, cond, leb, ◌⊎◌, List, [], ◌∷◌, Some, None, Decides, Option, refl, ap, ◌∙◌, inl, inr, arith}
use Rattle.std.proofs.lemmas.Bool.Decides.{nat_tests, leb_tells}
use Rattle.tree.specs.Newest.{In, first, later, Within, over, newest, better, better_of, scan, at_most, unbeaten}

pub some_none : {A : Type 0} {x : A} → ◌≡◌ {A = Option A} (Some x) None → ⊥
some_none p = let z : ◌≡◌ {A = ℕ} 0 1 = cc in omega arith

pub none_some : {A : Type 0} {x : A} → ◌≡◌ {A = Option A} None (Some x) → ⊥
none_some p = let z : ◌≡◌ {A = ℕ} 0 1 = cc in omega arith

pub true_false : {b : Bool} → b ≡ true → b ≡ false → ⊥
true_false p q = let z : ◌≡◌ {A = ℕ} 0 1 = cc in omega arith

pub no_one : {A : Type 0} {x : A} → In x [] → ⊥
no_one i = elim i [ ]

-- what a test of two numbers tells
abbrev pub TellsLeb : Bool → ℕ → ℕ → Type 0
TellsLeb r a b = ((r ≡ true) × (a ≤ b)) ⊎ ((r ≡ false) × (b < a))

abbrev pub TellsEqb : Bool → ℕ → ℕ → Type 0
TellsEqb r a b = ((r ≡ true) × (a ≡ b)) ⊎ ((r ≡ false) × (a ≡ b → ⊥))

leb_true : (a b : ℕ) → a ≤ b → leb a b ≡ true
leb_true a b l = grind (arith, nat_tests)

leb_false : (a b : ℕ) → b < a → leb a b ≡ false
leb_false a b l = grind (arith, nat_tests)

leb_says : (a b : ℕ) → leb a b ≡ true → a ≤ b
leb_says a b q = grind (arith, nat_tests)

module _ {R : Type 0} (version : R → ℕ) (picked : R → Bool) where
  -- r is picked, and no picked one is above it
  pub record Top (rs : List R) (r : R) : Type 0 where
    pub member : In r rs
    pub fits : picked r ≡ true
    pub above : (s : R) → In s rs → picked s ≡ true → version s ≤ version r

  -- no two picked ones have one version
  abbrev pub Alone : List R → Type 0
  Alone rs = (r s : R) → In r rs → In s rs → picked r ≡ true → picked s ≡ true → version r ≡ version s → r ≡ s

  pub data Found (rs : List R) : Option R → Type 0 where
    nothing : ((s : R) → In s rs → picked s ≡ true → ⊥) → Found rs None
    one : {r : R} → Top rs r → Found rs (Some r)

  nothing_more : (r : R) (rs : List R) → picked r ≡ false → ((s : R) → In s rs → picked s ≡ true → ⊥) → (s : R) → In s (r ∷ rs)
      → picked s ≡ true → ⊥
  nothing_more r rs e h s (first q) p = true_false (rw q at p) e
  nothing_more r rs e h s (later i) p = h s i p

  above_more : (r t : R) (rs : List R) → (picked r ≡ true → version r ≤ version t)
      → ((s : R) → In s rs → picked s ≡ true → version s ≤ version t) → (s : R) → In s (r ∷ rs) → picked s ≡ true
      → version s ≤ version t
  above_more r t rs l h s (first q) p = rw q (l (rw q at p))
  above_more r t rs l h s (later i) p = h s i p

  found_pick : (r t : R) (rs : List R) → picked r ≡ true → Top rs t → (b : Bool)
      → TellsLeb b (version t) (version r) → Found (r ∷ rs) (Some (cond b r t))
  found_pick r t rs e T b (inl h) =
      rw h.0
      (one (record { member = first refl; fits = e; above = above_more r r rs (λ p. omega arith) (λ s i p. omega (arith, T.above s i p)) }))
  found_pick r t rs e T b (inr h) =
      rw h.0
      (one (record { member = later T.member; fits = T.fits; above = above_more r t rs (λ p. omega arith) T.above }))

  found_more : (r : R) (rs : List R) (b : Bool) → picked r ≡ b → (o : Option R) → Found rs o
      → Found (r ∷ rs) (cond b (Some (over version r o)) o)
  found_more r rs false e None (nothing h) = nothing (nothing_more r rs e h)
  found_more r rs false e (Some t) (one T) =
      one
      (record { member = later T.member; fits = T.fits; above = above_more r t rs (λ p. absurd (true_false p e)) T.above })
  found_more r rs true e None (nothing h) =
      one (record { member = first refl; fits = e; above = above_more r r rs (λ p. omega arith) (λ s i p. absurd (h s i p)) })
  found_more r rs true e (Some t) (one T) =
      found_pick r t rs e T (leb (version t) (version r)) (leb_tells (version t) (version r))

  pub found : (rs : List R) → Found rs (newest version picked rs)
  unfolding newest
  found [] = nothing (λ s i p. no_one i)
  found (r ∷ rs) = found_more r rs (picked r) refl (newest version picked rs) (found rs)

  top_from : (rs : List R) (r : R) (o : Option R) → Found rs o → o ≡ Some r → Top rs r
  top_from rs r None (nothing h) q = absurd (none_some q)
  top_from rs r (Some t) (one T) q = let z : t ≡ r = cc in rw z at T

  -- what the newest is
  pub top : (rs : List R) (r : R) → newest version picked rs ≡ Some r → Top rs r
  top rs r q = top_from rs r (newest version picked rs) (found rs) q

  none_from : (rs : List R) (o : Option R) → Found rs o → o ≡ None → (s : R) → In s rs → picked s ≡ true → ⊥
  none_from rs None (nothing h) q = h
  none_from rs (Some t) (one T) q = absurd (some_none q)

  pub none : (rs : List R) → newest version picked rs ≡ None → (s : R) → In s rs → picked s ≡ true → ⊥
  none rs q = none_from rs (newest version picked rs) (found rs) q

  is_from : (rs : List R) (r : R) → Alone rs → Top rs r → (o : Option R) → Found rs o → o ≡ Some r
  is_from rs r al T None (nothing h) = absurd (h r T.member T.fits)
  is_from rs r al T (Some t) (one U) =
      let a : version r ≤ version t = U.above r T.member T.fits in
      let b : version t ≤ version r = T.above t U.member U.fits in
      ap Some (al t r U.member T.member U.fits T.fits (omega arith))

  -- the topmost is the newest
  pub is_newest : (rs : List R) (r : R) → Alone rs → Top rs r → newest version picked rs ≡ Some r
  is_newest rs r al T = is_from rs r al T (newest version picked rs) (found rs)

  none_is_from : (rs : List R) → ((s : R) → In s rs → picked s ≡ true → ⊥) → (o : Option R) → Found rs o → o ≡ None
  none_is_from rs h None (nothing g) = refl
  none_is_from rs h (Some t) (one T) = absurd (h t T.member T.fits)

  pub is_none : (rs : List R) → ((s : R) → In s rs → picked s ≡ true → ⊥) → newest version picked rs ≡ None
  is_none rs h = none_is_from rs h (newest version picked rs) (found rs)

  alone_within : (rs qs : List R) → Within qs rs → Alone rs → Alone qs
  alone_within rs qs w al r s i j = al r s (w r i) (w s j)

  kept_from : (rs qs : List R) → Alone rs → Within qs rs → (o : Option R) → newest version picked rs ≡ o
      → ((r : R) → o ≡ Some r → In r qs) → newest version picked qs ≡ o
  kept_from rs qs al w None e h = is_none qs (λ s i. none rs e s (w s i))
  kept_from rs qs al w (Some r) e h =
      let T = top rs r e in
      is_newest qs r (alone_within rs qs w al) (record { member = h r refl; fits = T.fits; above = λ s i. T.above s (w s i) })

  -- a part that has the newest has the same newest
  pub kept : (rs qs : List R) → Alone rs → Within qs rs → ((r : R) → newest version picked rs ≡ Some r → In r qs)
      → newest version picked qs ≡ newest version picked rs
  kept rs qs al w h = kept_from rs qs al w (newest version picked rs) refl h

  -- one that is above all picked is the newest when it comes
  pub comes : (rs : List R) (r : R) → picked r ≡ true → ((s : R) → In s rs → picked s ≡ true → version s < version r)
      → newest version picked (r ∷ rs) ≡ Some r
  unfolding newest
  comes rs r e h = rw e (ap Some (tops (newest version picked rs) (found rs)))
    where
      tops : (o : Option R) → Found rs o → over version r o ≡ r
      tops None (nothing g) = refl
      tops (Some t) (one T) = let l : version t < version r = h t T.member T.fits in grind (arith, nat_tests)

  -- one that is not picked changes nothing
  pub passes : (rs : List R) (r : R) → picked r ≡ false → newest version picked (r ∷ rs) ≡ newest version picked rs
  unfolding newest
  passes rs r e = rw e

  at_most_from : (rs : List R) (v : ℕ) (o : Option R) → Found rs o
      → Decides (at_most version v o) ((s : R) → In s rs → picked s ≡ true → version s ≤ v)
  at_most_from rs v None (nothing h) = (λ q s i p. absurd (h s i p), λ h. refl)
  at_most_from rs v (Some t) (one T) = (below, λ h. leb_true (version t) v (h t T.member T.fits))
    where
      below : leb (version t) v ≡ true → (s : R) → In s rs → picked s ≡ true → version s ≤ v
      below q s i p =
          let l : version s ≤ version t = T.above s i p in
          let k : version t ≤ v = leb_says (version t) v q in
          omega arith

  -- a picked one is the newest if nothing beats its version
  pub decides_unbeaten : (rs : List R) (r : R) → Alone rs → In r rs → picked r ≡ true
      → Decides (unbeaten version picked rs (version r)) (newest version picked rs ≡ Some r)
  decides_unbeaten rs r al i p =
      let d = at_most_from rs (version r) (newest version picked rs) (found rs) in
      (λ q. is_newest rs r al (record { member = i; fits = p; above = d.0 q }), λ q. d.1 (top rs r q).above)

  -- the best so far, and then the newest of the rest
  abbrev joined : Option R → Option R → Option R
  joined None o = o
  joined (Some b) o = Some (over version b o)

  -- which of three is newest does not depend on who is compared first
  three : (b r : R) (o : Option R)
      → over version (cond (leb (version r) (version b)) b r) o ≡ over version b (Some (over version r o))
  three b r None = refl
  three b r (Some s) = go (leb_tells (version r) (version b)) (leb_tells (version s) (version r))
    where
      go : TellsLeb (leb (version r) (version b)) (version r) (version b)
          → TellsLeb (leb (version s) (version r)) (version s) (version r)
          → over version (cond (leb (version r) (version b)) b r) (Some s) ≡ over version b (Some (over version r (Some s)))
      go (inl x) (inl y) = rw (x.0, y.0, x.0, leb_true (version s) (version b) (omega arith))
      go (inl x) (inr y) = rw (x.0, y.0)
      go (inr x) (inl y) = rw (x.0, y.0, x.0)
      go (inr x) (inr y) = rw (x.0, y.0, leb_false (version s) (version b) (omega arith))

  scan_from : (best : Option R) (rs : List R) → scan version picked best rs ≡ joined best (newest version picked rs)
  unfolding newest
  scan_from None [] = refl
  scan_from (Some b) [] = refl
  scan_from best (r ∷ rs) = scan_from (better_of version picked best r) rs ∙ go (picked r) best
    where
      go : (x : Bool) (best : Option R)
          → joined (cond x (Some (better version best r)) best) (newest version picked rs)
          ≡ joined best (cond x (Some (over version r (newest version picked rs))) (newest version picked rs))
      go false best = refl
      go true None = refl
      go true (Some b) = ap Some (three b r (newest version picked rs))

  pub scanned : (rs : List R) → scan version picked None rs ≡ newest version picked rs
  scanned rs = scan_from None rs
