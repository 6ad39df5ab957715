-- A run that is programmed part by part.
use Rattle.std.proofs.Common.{◌≡◌, ℕ, ◌+◌, ◌%◌, List, ◌++◌, length, None, Ok, Err, sym, subst, arith, length-append}
use Rattle.flash.specs.declared.refusal.Refusal.{Refusal}
use Rattle.flash.specs.Meaning.{Meaning, Sane}
use Rattle.flash.specs.Refused.{program_refusal}
use Rattle.flash.specs.Rules.{Answer, Passed, Goes}
use Rattle.flash.proofs.Accepting.{rest_accepted, first_accepted}
use Rattle.flash.proofs.Refusals.{Accepted, accepted}
use Rattle.flash.proofs.Splits.{then_goes, first_failed}

module _ (m : Meaning) (b o : ℕ) (xs ys : List ℕ) (sane : Sane m) (none : program_refusal m b o (length (xs ++ ys)) ≡ None) (pages : length xs % m.page ≡ 0) where
  none' : program_refusal m b o (length xs + length ys) ≡ None
  none' = subst (λ (n : ℕ). program_refusal m b o n ≡ None) (length-append xs ys) none

  facts : Accepted m b o (length xs + length ys)
  facts = accepted m b o (length xs + length ys) none'

  -- the first part is not refused
  pub chain_first : program_refusal m b o (length xs) ≡ None
  chain_first = first_accepted m b o (length xs) (length ys) none' pages

  -- once it is done, the rest is not refused, and done or failed it makes the whole
  pub chain_passed : (n : Meaning) → Goes m b o xs (Ok tt) n → Passed m b o xs n
  chain_passed n (Goes.done e p) = p
  chain_passed n (Goes.failed e f) = absurd (let z : ◌≡◌ {A = ℕ} 0 1 = cc in omega arith)

  pub chain_rest : (n : Meaning) → Passed m b o xs n → program_refusal n b (o + length xs) (length ys) ≡ None
  chain_rest n p = subst (λ (x : Meaning). program_refusal x b (o + length xs) (length ys) ≡ None) (sym p.is) (rest_accepted m b o xs p.mark (length ys) none' pages p.to)

  pub chain_then : (n n' : Meaning) (r : Answer) → Passed m b o xs n → Goes n b (o + length xs) ys r n' → Goes m b o (xs ++ ys) r n'
  chain_then n n' r p g = then_goes m b o xs ys sane facts.there facts.fits n n' r p g

  -- if it failed, the whole failed
  pub chain_failed : (n : Meaning) (e : Refusal) → Goes m b o xs (Err e) n → Goes m b o (xs ++ ys) (Err e) n
  chain_failed n e (Goes.done q p) = absurd (let z : ◌≡◌ {A = ℕ} 0 1 = cc in omega arith)
  chain_failed n e (Goes.failed q f) = Goes.failed q (first_failed m b o xs ys sane facts.there facts.fits n facts.above f)
