-- What it says that a call is refused, or not.
use Rattle.std.proofs.Common.{◌≡◌, ℕ, zero, suc, ◌+◌, ◌%◌, ◌<◌, ◌≤◌, Bool, true, false, cond, not, eqb, ltb, List, [], ◌∷◌, ◌++◌, Some, None, Ok, Err, Option, sym, refl, ⊎_elim, arith}
use Rattle.std.proofs.lemmas.Bool.{cases_lt, cases_eq, ltb-false, eqb-true, eq-eqb, lt-ltb, le-ltb, ne_eqb, true≢false}
use Rattle.flash.specs.declared.refusal.Refusal.{Refusal}
use Rattle.flash.specs.declared.refusal.Refusal.TheVariants.{NotPages, BelowMark, OtherHeld, Unreadable}
use Rattle.flash.specs.Cells.{Cell, byte, lost}
use Rattle.flash.specs.Meaning.{Meaning}
use Rattle.flash.specs.Rules.{answered}
use Rattle.flash.specs.Refused.{is_off, outside, same_cells, holds, of_another, other_held, first, place_causes, place_refusal, cuts_pages, program_causes, program_refusal, readable, part, read_refusal}

pub not_some : {e : Refusal} → Some e ≡ None → ⊥
not_some h = let z : ◌≡◌ {A = ℕ} 0 1 = cc in omega arith

-- an answer tells what was refused
pub refused_as : (x : Option Refusal) (k : ℕ) (e : Refusal) → Err e ≡ answered x k → x ≡ Some e
refused_as None k e h = absurd (let z : ◌≡◌ {A = ℕ} 0 1 = cc in omega arith)
refused_as (Some f) k e h = cc

pub not_refused : (x : Option Refusal) (k n : ℕ) → Ok n ≡ answered x k → x ≡ None
not_refused None k n h = refl
not_refused (Some f) k n h = absurd (let z : ◌≡◌ {A = ℕ} 0 1 = cc in omega arith)

abbrev pub test_at : List (Bool × Refusal) → ℕ → Bool
test_at [] k = false
test_at (x ∷ xs) zero = x.0
test_at (x ∷ xs) (suc k) = test_at xs k

-- where nothing is refused, no cause applies
pub none_applies : (xs : List (Bool × Refusal)) → first xs ≡ None → (k : ℕ) → test_at xs k ≡ false
none_applies [] h k = refl
none_applies (x ∷ xs) h k = go x.0 refl h k (none_applies xs)
  where
    go : (t : Bool) → x.0 ≡ t → cond t (Some x.1) (first xs) ≡ None → (k : ℕ) → (first xs ≡ None → (j : ℕ) → test_at xs j ≡ false) → test_at (x ∷ xs) k ≡ false
    go true e h k rest = absurd (not_some h)
    go false e h zero rest = e
    go false e h (suc k) rest = rest h k

-- a cause that comes first
pub first_some : (xs ys : List (Bool × Refusal)) (e : Refusal) → first xs ≡ Some e → first (xs ++ ys) ≡ Some e
first_some [] ys e h = absurd (not_some (sym h))
first_some (x ∷ xs) ys e h = go x.0 h (first_some xs ys e)
  where
    go : (t : Bool) → cond t (Some x.1) (first xs) ≡ Some e → (first xs ≡ Some e → first (xs ++ ys) ≡ Some e) → cond t (Some x.1) (first (xs ++ ys)) ≡ Some e
    go true h rest = h
    go false h rest = rest h

-- none of the first causes applies
pub first_none : (xs ys : List (Bool × Refusal)) → first xs ≡ None → first (xs ++ ys) ≡ first ys
first_none [] ys h = refl
first_none (x ∷ xs) ys h = go x.0 h (first_none xs ys)
  where
    go : (t : Bool) → cond t (Some x.1) (first xs) ≡ None → (first xs ≡ None → first (xs ++ ys) ≡ first ys) → cond t (Some x.1) (first (xs ++ ys)) ≡ first ys
    go true h rest = absurd (not_some h)
    go false h rest = rest h

pub inside : (m : Meaning) (b o n : ℕ) → outside m b o n ≡ false → (b < m.blocks) × (o + n ≤ m.size)
inside m b o n =
    ⊎_elim
    (λ (l : b < m.blocks). rw (lt-ltb b m.blocks l) (λ h. (l, ltb-false m.size (o + n) h)))
    (λ (l : m.blocks ≤ b). rw (le-ltb b m.blocks l) (λ h. absurd (true≢false h)))
    (cases_lt b m.blocks)

pub record Inside (m : Meaning) (b o n : ℕ) : Type 0 where
  pub on : is_off m.power ≡ false
  pub there : b < m.blocks
  pub fits : o + n ≤ m.size

pub place_inside : (m : Meaning) (b o n : ℕ) → place_refusal m b o n ≡ None → Inside m b o n
unfolding place_refusal
place_inside m b o n h =
    let t = none_applies (place_causes m b o n) h in
    let q = inside m b o n (t 1) in
    record { on = t 0; there = q.0; fits = q.1 }

-- what the place is refused as comes first
module _ (m : Meaning) (b o n : ℕ) where
  abbrev pub of_program : List (Bool × Refusal)
  of_program = (cuts_pages m o n, NotPages) ∷ (ltb o (m.mark b), BelowMark) ∷ (other_held m b, OtherHeld) ∷ []

  abbrev pub of_read : List (Bool × Refusal)
  of_read = (not (readable (part (m.shown b) o n)), Unreadable) ∷ []

  pub program_by_place : (e : Refusal) → place_refusal m b o n ≡ Some e → program_refusal m b o n ≡ Some e
  unfolding place_refusal program_refusal
  program_by_place e h = first_some (place_causes m b o n) of_program e h

  pub program_past_place : place_refusal m b o n ≡ None
      → program_refusal m b o n ≡ first of_program
  unfolding place_refusal program_refusal
  program_past_place h = first_none (place_causes m b o n) of_program h

  pub read_by_place : (e : Refusal) → place_refusal m b o n ≡ Some e → read_refusal m b o n ≡ Some e
  unfolding place_refusal read_refusal
  read_by_place e h = first_some (place_causes m b o n) of_read e h

  pub read_past_place : place_refusal m b o n ≡ None
      → read_refusal m b o n ≡ first of_read
  unfolding place_refusal read_refusal
  read_past_place h = first_none (place_causes m b o n) of_read h

whole_pages : (m : Meaning) (o n : ℕ) → cuts_pages m o n ≡ false → (o % m.page ≡ 0) × (n % m.page ≡ 0)
whole_pages m o n h = go (eqb (o % m.page) 0) (eqb (n % m.page) 0) refl refl h
  where
    go : (s t : Bool) → eqb (o % m.page) 0 ≡ s → eqb (n % m.page) 0 ≡ t → cond s (not t) true ≡ false → (o % m.page ≡ 0) × (n % m.page ≡ 0)
    go true true p q r = (eqb-true _ _ p, eqb-true _ _ q)
    go true false p q r = absurd (true≢false r)
    go false t p q r = absurd (true≢false r)

-- a program that is not refused from the start
pub record Accepted (m : Meaning) (b o n : ℕ) : Type 0 where
  pub on : is_off m.power ≡ false
  pub there : b < m.blocks
  pub fits : o + n ≤ m.size
  pub o_pages : o % m.page ≡ 0
  pub n_pages : n % m.page ≡ 0
  pub above : m.mark b ≤ o
  pub alone : other_held m b ≡ false

pub accepted : (m : Meaning) (b o n : ℕ) → program_refusal m b o n ≡ None → Accepted m b o n
unfolding program_refusal
accepted m b o n h =
    let t = none_applies (program_causes m b o n) h in
    let i = inside m b o n (t 1) in
    let s = whole_pages m o n (t 2) in
    record { on = t 0; there = i.0; fits = i.1; o_pages = s.0; n_pages = s.1; above = ltb-false _ _ (t 3); alone = t 4 }

-- ─── held bytes ───

pub same_self : (xs : List Cell) → same_cells xs xs ≡ true
same_self [] = refl
same_self (byte x ∷ xs) = rw (eq-eqb x x refl) (same_self xs)
same_self (lost ∷ xs) = same_self xs

pub holds_not : (m : Meaning) (b : ℕ) → m.shown b ≡ m.settled b → holds m b ≡ false
holds_not m b e = rw (e, same_self (m.settled b))

another_none : (P : ℕ → Bool) (b n : ℕ) → ((c : ℕ) → c < n → (c ≡ b → ⊥) → P c ≡ false) → of_another P b n ≡ false
another_none P b zero h = refl
another_none P b (suc n) h =
    ⊎_elim
    (λ (e : n ≡ b). rw (eq-eqb n b e) (another_none P b n (λ c l. h c (omega arith))))
    (λ (e : n ≡ b → ⊥). rw (ne_eqb n b e, h n (omega arith) e) (another_none P b n (λ c l. h c (omega arith))))
    (cases_eq n b)

pub none_other : (m : Meaning) (b : ℕ) → ((c : ℕ) → c < m.blocks → (c ≡ b → ⊥) → m.shown c ≡ m.settled c) → other_held m b ≡ false
unfolding other_held
none_other m b h = another_none (holds m) b m.blocks (λ c l ne. holds_not m c (h c l ne))
