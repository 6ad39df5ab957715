-- What gives a byte and where the next content begins, in one fold.
use Rattle.std.proofs.Common.{◌≡◌, ℕ, min, Bool, true, false, cond, ◌&&◌, eqb, ltb, List, Some, None, fold, filter, Option, refl, ap, ◌∙◌, arith}
use Rattle.std.proofs.lemmas.Bool.Decides.{nat_tests}
use Rattle.std.proofs.lemmas.List.Folds.{fold_along}
use Rattle.tree.specs.Lookups.{giver, content_version}
use Rattle.tree.specs.Newest.{better, better_of}
use Rattle.tree.specs.Nodes.{of_file, covers}
use Rattle.tree.proofs.Newest.{scanned, true_false}
use Rattle.index.specs.declared.record.ContentRecord.{ContentRecord}
use Rattle.index.specs.Runs.{sooner, start_after}
use Rattle.index.specs.Shown.{span_shown}
use Rattle.index.proofs.Folds.{folded_filter, folded_both}

-- the two so far, and a content of the number more: it gives the byte, or begins behind it, or neither
abbrev pub giver_and_next : ℕ → Option ContentRecord × ℕ → ContentRecord → Option ContentRecord × ℕ
giver_and_next i s c = cond (ltb i c.offset) (s.0, min s.1 c.offset) (cond (covers i (span_shown c)) (Some (better (content_version span_shown) s.0 c), s.1) s)

begins_behind : (i : ℕ) (c : ContentRecord) → ltb i c.offset ≡ true → covers i (span_shown c) ≡ false
unfolding covers
begins_behind i c e = grind (arith, nat_tests)

-- the same as a step for each of the two
two_steps : (k i : ℕ) (s : Option ContentRecord × ℕ) (c : ContentRecord)
    → cond (eqb c.ino k) (giver_and_next i s c) s ≡ (better_of (content_version span_shown) (λ x. of_file k (span_shown x) && covers i (span_shown x)) s.0 c, sooner k i s.1 c)
unfolding of_file
two_steps k i s c = go (eqb c.ino k) (ltb i c.offset) (covers i (span_shown c)) (begins_behind i c)
  where
    go : (x y z : Bool) → (y ≡ true → z ≡ false)
        → cond x (cond y (s.0, min s.1 c.offset) (cond z (Some (better (content_version span_shown) s.0 c), s.1) s)) s
        ≡ (cond (x && z) (Some (better (content_version span_shown) s.0 c)) s.0, cond (x && y) (min s.1 c.offset) s.1)
    go true true true e = absurd (true_false refl (e refl))
    go true true false e = refl
    go true false true e = refl
    go true false false e = refl
    go false y z e = refl

-- over the contents of the number alone
pub run_found : (k i limit : ℕ) (cs : List ContentRecord) → fold (giver_and_next i) (None, limit) (filter (λ c. eqb c.ino k) cs) ≡ (giver span_shown cs k i, start_after cs k i limit)
run_found k i limit cs =
    let picked = λ (x : ContentRecord). of_file k (span_shown x) && covers i (span_shown x) in
    let v = content_version span_shown in
    folded_filter (giver_and_next i) (λ c. eqb c.ino k) (None, limit) cs
    ∙ fold_along _ (λ (s : Option ContentRecord × ℕ) c. (better_of v picked s.0 c, sooner k i s.1 c)) (λ s t. s ≡ t) (λ s t c e. ap (λ (r : Option ContentRecord × ℕ). cond (eqb c.ino k) (giver_and_next i r c) r) e ∙ two_steps k i t c) (None, limit) (None, limit) cs refl
    ∙ folded_both (better_of v picked) (sooner k i) None limit cs
    ∙ ap (λ (o : Option ContentRecord). (o, start_after cs k i limit)) (scanned v picked cs)
