-- A list of operations on a flash, one after the other. Assumes nothing.
--
-- Op         a program of bytes at a place, or an erase of a block
-- Ran        the operations in order, up to the first that is refused or in which the power fails
-- Composes   a list that ran to its end and a second one after it ran as one list; so does a list that stopped, whatever
--            would have come after it
use Rattle.std.specs.Prelude.{ℕ, List, [], ◌∷◌, ◌++◌, Ok, Err}
use Rattle.flash.specs.declared.refusal.Refusal.{Refusal}
use Rattle.flash.specs.Meaning.{Meaning}
use Rattle.flash.specs.Rules.{Answer, Programmed, Erased}

pub data Op : Type 0 where
  program : ℕ → ℕ → List ℕ → Op
  erase : ℕ → Op

abbrev pub Did : Op → Meaning → Answer → Meaning → Type 0
Did (program b o run) m r n = Programmed m b o run r n
Did (erase b) m r n = Erased m b r n

pub data Ran : List Op → Meaning → Answer → Meaning → Type 0 where
  all : {m : Meaning} → Ran [] m (Ok tt) m
  stop : {op : Op} {ops : List Op} {m n : Meaning} {e : Refusal} → Did op m (Err e) n → Ran (op ∷ ops) m (Err e) n
  next : {op : Op} {ops : List Op} {m n o : Meaning} {r : Answer} → Did op m (Ok tt) n → Ran ops n r o → Ran (op ∷ ops) m r o

abbrev pub Composes : Type 0
Composes =
    ((xs ys : List Op) (m n o : Meaning) (r : Answer) → Ran xs m (Ok tt) n → Ran ys n r o → Ran (xs ++ ys) m r o)
    × ((xs ys : List Op) (m n : Meaning) (e : Refusal) → Ran xs m (Err e) n → Ran (xs ++ ys) m (Err e) n)
