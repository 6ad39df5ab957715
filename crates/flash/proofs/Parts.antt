-- A run in two parts, as the code cuts it.
use Rattle.std.proofs.Common.{◌≡◌, ℕ, ◌+◌, ◌%◌, ◌≤◌, List, [], ◌++◌, length, take, drop, None, Ok, Err, sym, subst, arith}
use native.Mathlib.Nat.{zero-mod}
use Rattle.std.proofs.lemmas.List.{take-append-drop, length-take-le}
use Rattle.flash.specs.declared.refusal.Refusal.{Refusal}
use Rattle.flash.specs.Meaning.{Meaning, Sane}
use Rattle.flash.specs.Refused.{program_refusal}
use Rattle.flash.specs.Rules.{Answer, Goes}
use Rattle.flash.proofs.Chain.{chain_first, chain_passed, chain_rest, chain_then, chain_failed}

module _ (k : ℕ) (bytes : List ℕ) (within : k ≤ length bytes) (m : Meaning) (b o : ℕ) (sane : Sane m) (none : program_refusal m b o (length bytes) ≡ None) (pages : k % m.page ≡ 0) where
  front_long : length (take k bytes) ≡ k
  front_long = length-take-le k bytes within

  none' : program_refusal m b o (length (take k bytes ++ drop k bytes)) ≡ None
  none' = subst (λ (x : List ℕ). program_refusal m b o (length x) ≡ None) (sym (take-append-drop k bytes)) none

  pages' : length (take k bytes) % m.page ≡ 0
  pages' = rw front_long pages

  pub split_first : program_refusal m b o (length (take k bytes)) ≡ None
  split_first = chain_first m b o (take k bytes) (drop k bytes) sane none' pages'

  pub split_rest : (n : Meaning) → Goes m b o (take k bytes) (Ok tt) n → program_refusal n b (o + k) (length (drop k bytes)) ≡ None
  split_rest n g =
      subst (λ (x : ℕ). program_refusal n b (o + x) (length (drop k bytes)) ≡ None) front_long
      (chain_rest m b o (take k bytes) (drop k bytes) sane none' pages' n (chain_passed m b o (take k bytes) (drop k bytes) sane none' pages' n g))

  pub split_then : (n n' : Meaning) (r : Answer) → Goes m b o (take k bytes) (Ok tt) n → Goes n b (o + k) (drop k bytes) r n' → Goes m b o bytes r n'
  split_then n n' r g h =
      subst (λ (x : List ℕ). Goes m b o x r n') (take-append-drop k bytes)
      (chain_then m b o (take k bytes) (drop k bytes) sane none' pages' n n' r (chain_passed m b o (take k bytes) (drop k bytes) sane none' pages' n g)
      (subst (λ (x : ℕ). Goes n b (o + x) (drop k bytes) r n') (sym front_long) h))

  pub split_failed : (n : Meaning) (e : Refusal) → Goes m b o (take k bytes) (Err e) n → Goes m b o bytes (Err e) n
  split_failed n e g =
      subst (λ (x : List ℕ). Goes m b o x (Err e) n) (take-append-drop k bytes)
      (chain_failed m b o (take k bytes) (drop k bytes) sane none' pages' n e g)

-- after a run of nothing
module _ (m n : Meaning) (b o : ℕ) (bytes : List ℕ) (sane : Sane m) (none : program_refusal m b o (length bytes) ≡ None) (first : Goes m b o [] (Ok tt) n) where
  at_zero : o + 0 ≡ o
  at_zero = omega arith

  pub nothing_rest : program_refusal n b o (length bytes) ≡ None
  nothing_rest =
      subst (λ (x : ℕ). program_refusal n b x (length bytes) ≡ None) at_zero
      (chain_rest m b o [] bytes sane none (zero-mod m.page) n (chain_passed m b o [] bytes sane none (zero-mod m.page) n first))

  nothing_on : (n' : Meaning) (r : Answer) → Goes n b o bytes r n' → Goes m b o bytes r n'
  nothing_on n' r g =
      chain_then m b o [] bytes sane none (zero-mod m.page) n n' r (chain_passed m b o [] bytes sane none (zero-mod m.page) n first)
      (subst (λ (x : ℕ). Goes n b x bytes r n') (sym at_zero) g)

pub nothing_then : (m n n' : Meaning) (b o : ℕ) (bytes : List ℕ) (r : Answer) (sane : Sane m) (none : program_refusal m b o (length bytes) ≡ None) → Goes m b o [] (Ok tt) n → Goes n b o bytes r n' → Goes m b o bytes r n'
nothing_then m n n' b o bytes r sane none first g = nothing_on m n b o bytes sane none first n' r g
