-- When a program is accepted, and when the parts of one that is.
use Rattle.std.proofs.Common.{◌≡◌, ℕ, zero, suc, ◌+◌, ◌*◌, ◌/◌, ◌%◌, ◌<◌, ◌≤◌, Bool, true, false, cond, eqb, List, [], ◌∷◌, length, get_or, None, sym, refl, ap, ◌∙◌, subst, ⊎_elim, arith}
use Rattle.std.proofs.lemmas.Bool.{cases_eq, cases_Bool, eqb-true, eq-eqb, lt-ltb, le-ltb, ne_eqb, false≢true}
use Rattle.flash.specs.Cells.{Cell, byte, lost}
use Rattle.flash.specs.Meaning.{Meaning, mixed, shown_at, settled_at}
use Rattle.flash.specs.Refused.{is_off, outside, same_cell, same_cells, holds, of_another, other_held, place_refusal, program_refusal}
use Rattle.flash.specs.Rules.{programmed, meant}
use Rattle.flash.proofs.Batches.{mod_first}
use Rattle.flash.proofs.Over.{elsewhere, here}
use Rattle.flash.proofs.Refusals.{Accepted, accepted}

pub not_outside : (m : Meaning) (b o n : ℕ) → b < m.blocks → o + n ≤ m.size → outside m b o n ≡ false
not_outside m b o n l h = rw (lt-ltb b m.blocks l) (le-ltb m.size (o + n) h)

pub place_accepted : (m : Meaning) (b o n : ℕ) → is_off m.power ≡ false → b < m.blocks → o + n ≤ m.size → place_refusal m b o n ≡ None
unfolding place_refusal
place_accepted m b o n on l h = rw (on, not_outside m b o n l h)

pub acceptable : (m : Meaning) (b o n : ℕ) → Accepted m b o n → program_refusal m b o n ≡ None
unfolding program_refusal
acceptable m b o n a =
    rw (
      a.on,
      not_outside m b o n a.there a.fits,
      eq-eqb (o % m.page) 0 a.o_pages,
      eq-eqb (n % m.page) 0 a.n_pages,
      le-ltb o (m.mark b) a.above,
      a.alone,
    )

-- ─── held bytes ───

cell_same : (x y : Cell) → same_cell x y ≡ true → x ≡ y
cell_same (byte x) (byte y) h = ap byte (eqb-true x y h)
cell_same (byte x) lost h = absurd (false≢true h)
cell_same lost (byte y) h = absurd (false≢true h)
cell_same lost lost h = refl

both : (t u : Bool) → cond t u false ≡ true → (t ≡ true) × (u ≡ true)
both true u h = (refl, h)
both false u h = absurd (false≢true h)

same_is : (xs ys : List Cell) → same_cells xs ys ≡ true → xs ≡ ys
same_is [] [] h = refl
same_is [] (y ∷ ys) h = absurd (false≢true h)
same_is (x ∷ xs) [] h = absurd (false≢true h)
same_is (x ∷ xs) (y ∷ ys) h =
    let p = both (same_cell x y) (same_cells xs ys) h in
    let e = cell_same x y p.0 in
    let f = same_is xs ys p.1 in cc

pub holds_some : (m : Meaning) (b i : ℕ) → (shown_at m b i ≡ settled_at m b i → ⊥) → holds m b ≡ true
holds_some m b i ne =
    ⊎_elim
    (λ h. absurd (ne (ap (λ (s : List Cell). get_or s i lost) (same_is _ _ h))))
    (λ h. rw h)
    (cases_Bool (same_cells (m.shown b) (m.settled b)))

any : (t : Bool) → cond t true true ≡ true
any true = refl
any false = refl

another_some : (P : ℕ → Bool) (b n c : ℕ) → c < n → (c ≡ b → ⊥) → P c ≡ true → of_another P b n ≡ true
another_some P b zero c l ne h = absurd (omega arith)
another_some P b (suc n) c l ne h =
    ⊎_elim
    (λ (e : c ≡ n).
    let ne' : n ≡ b → ⊥ = λ q. ne (e ∙ q) in
    let h' : P n ≡ true = subst (λ (x : ℕ). P x ≡ true) e h in
    rw (ne_eqb n b ne', h'))
    (λ (e : c ≡ n → ⊥).
    let more : of_another P b n ≡ true = another_some P b n c (omega arith) ne h in
    rw more (any (cond (eqb n b) false (P n))))
    (cases_eq c n)

another_same : (P Q : ℕ → Bool) (b n : ℕ) → ((c : ℕ) → (c ≡ b → ⊥) → P c ≡ Q c) → of_another P b n ≡ of_another Q b n
another_same P Q b zero h = refl
another_same P Q b (suc n) h =
    ⊎_elim
    (λ (e : n ≡ b). rw (eq-eqb n b e) (another_same P Q b n h))
    (λ (e : n ≡ b → ⊥). rw (ne_eqb n b e, h n e, another_same P Q b n h))
    (cases_eq n b)

pub some_other : (m : Meaning) (b c i : ℕ) → c < m.blocks → (c ≡ b → ⊥) → (shown_at m c i ≡ settled_at m c i → ⊥) → other_held m b ≡ true
unfolding other_held
some_other m b c i l ne h = another_some (holds m) b m.blocks c l ne (holds_some m c i h)

-- a program of b leaves the other blocks as they were
programmed_other : (m : Meaning) (b o : ℕ) (xs : List ℕ) (k : ℕ) → other_held (programmed m b o xs k) b ≡ other_held m b
unfolding programmed other_held
programmed_other m b o xs k =
    another_same (holds (programmed m b o xs k)) (holds m) b m.blocks
    (λ c ne. rw (elsewhere m.shown b (meant m b o xs) c ne, elsewhere m.settled b (mixed ((o + length xs) / m.batch * m.batch) (meant m b o xs) (m.settled b)) c ne))

-- ─── the parts of a run ───

-- what is left of a run that is not refused is not refused either, once its first part is done
pub rest_accepted : (m : Meaning) (b o : ℕ) (xs : List ℕ) (k n : ℕ) → program_refusal m b o (length xs + n) ≡ None → length xs % m.page ≡ 0 → k ≤ o + length xs
    → program_refusal (programmed m b o xs k) b (o + length xs) n ≡ None
unfolding programmed
rest_accepted m b o xs k n h p le =
    let a = accepted m b o (length xs + n) h in
    acceptable (programmed m b o xs k) b (o + length xs) n
    (record {
      on = a.on;
      there = a.there;
      fits = omega (arith, a.fits);
      o_pages = mod_first o (length xs) m.page a.o_pages ∙ p;
      n_pages = sym (mod_first (length xs) n m.page p) ∙ a.n_pages;
      above = rw here le;
      alone = programmed_other m b o xs k ∙ a.alone;
    })

-- a first part is not refused where the whole is not
pub first_accepted : (m : Meaning) (b o n k : ℕ) → program_refusal m b o (n + k) ≡ None → n % m.page ≡ 0 → program_refusal m b o n ≡ None
first_accepted m b o n k h p =
    let a = accepted m b o (n + k) h in
    acceptable m b o n
    (record { on = a.on; there = a.there; fits = omega (arith, a.fits); o_pages = a.o_pages; n_pages = p; above = a.above; alone = a.alone })
