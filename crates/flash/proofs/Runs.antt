-- Lists of operations, put together.
use Rattle.std.proofs.Common.{◌≡◌, ℕ, ◌+◌, ◌<◌, ◌≤◌, List, [], ◌∷◌, ◌++◌, length, get_or, take, drop, Ok, Err, sym, ap, ◌∙◌, subst, take-append-drop}
use mathlib.Core.List.{map-append}
use Rattle.std.proofs.lemmas.List.{take_more, take_all}
use Rattle.flash.specs.declared.operation.Operation.{Operation}
use Rattle.flash.specs.declared.refusal.Refusal.{Refusal}
use Rattle.flash.specs.Meaning.{Meaning}
use Rattle.flash.specs.Rules.{Answer}
use Rattle.flash.specs.Ran.{Op, Did, Ran, all, stop, next, Composes}
use Rattle.flash.specs.Shown.{op_shown, ops_shown}

-- a second list after a first that ran to its end
pub ran_then : {xs ys : List Op} {m n o : Meaning} {r : Answer} → Ran xs m (Ok tt) n → Ran ys n r o → Ran (xs ++ ys) m r o
ran_then all q = q
ran_then (next d p) q = next d (ran_then p q)

-- a first list that stopped
pub ran_stopped : {xs : List Op} {m n : Meaning} {e : Refusal} (ys : List Op) → Ran xs m (Err e) n → Ran (xs ++ ys) m (Err e) n
ran_stopped ys (stop d) = stop d
ran_stopped ys (next d p) = next d (ran_stopped ys p)

pub composes : Composes
composes = (λ xs ys m n o r p q. ran_then p q, λ xs ys m n e p. ran_stopped ys p)

-- the first i operations are all of them
pub ran_all : (ops : List Operation) (i : ℕ) → length ops ≤ i → (m n : Meaning) (r : Answer) → Ran (ops_shown (take i ops)) m r n → Ran (ops_shown ops) m r n
ran_all ops i h m n r p = subst (λ (l : List Operation). Ran (ops_shown l) m r n) (take_all i ops h) p

-- the first i operations ran, and then the next
module _ (ops : List Operation) (i : ℕ) (d : Operation) (h : i < length ops) (m n o : Meaning) (ran : Ran (ops_shown (take i ops)) m (Ok tt) n) where
  one_more : ops_shown (take (i + 1) ops) ≡ ops_shown (take i ops) ++ (op_shown (get_or ops i d) ∷ [])
  one_more = ap ops_shown (take_more ops i d h) ∙ map-append op_shown (take i ops) (get_or ops i d ∷ [])

  pub ran_more : Did (op_shown (get_or ops i d)) n (Ok tt) o → Ran (ops_shown (take (i + 1) ops)) m (Ok tt) o
  ran_more did = subst (λ (l : List Op). Ran l m (Ok tt) o) (sym one_more) (ran_then ran (next did all))

  pub ran_up_to : (e : Refusal) → Did (op_shown (get_or ops i d)) n (Err e) o → Ran (ops_shown ops) m (Err e) o
  ran_up_to e did =
      let p = subst (λ (l : List Op). Ran l m (Err e) o) (sym one_more) (ran_then ran (stop did)) in
      subst (λ (l : List Op). Ran l m (Err e) o)
      (sym (map-append op_shown (take (i + 1) ops) (drop (i + 1) ops)) ∙ ap ops_shown (take-append-drop (i + 1) ops))
      (ran_stopped (ops_shown (drop (i + 1) ops)) p)
