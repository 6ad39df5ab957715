use Rattle.std.proofs.Common.{◌≡◌, ℕ, ◌+◌, ◌<◌, ◌≤◌, ◌++◌, List, length, get_or, take, drop, set, ◌∙◌, append-nil, arith}
use lib.Bits.{bit_or}
use Rattle.std.proofs.lemmas.List.Edits.{map_over_more}
use Rattle.std.proofs.lemmas.List.{drop_all, take_all, get_or_default}
use Rattle.devices.specs.Memory.{ored}
use Rattle.devices.proofs.memory.spoil.Goals as goal

more : (i j : ℕ) (xs ys : List ℕ) → i < length xs → length ys ≡ length xs → ys ≡ ored j (take i xs) ++ drop i xs
    → set ys i (bit_or (get_or ys i 0) j) ≡ ored j (take (i + 1) xs) ++ drop (i + 1) xs
more i j xs ys h l e = map_over_more (λ x. bit_or x j) xs ys i (get_or ys i 0) h e (get_or_default ys i 0 (get_or ys i 0) (omega arith))

all : (i j : ℕ) (xs : List ℕ) → length xs ≤ i → ored j (take i xs) ++ drop i xs ≡ ored j xs
all i j xs h = rw (take_all i xs h, drop_all i xs h) (append-nil _)

pub loop-x-preserved : goal.loop-x-preserved
loop-x-preserved c = more c.loop-x.x-index c.args.fault c.args.part.now c.loop-x.part c.loop-x-test.true c.loop-x.auto.part c.loop-x.invariant

pub returns : goal.returns
returns c = c.loop-x.invariant ∙ all c.loop-x.x-index c.args.fault c.args.part.now c.loop-x-test.false
