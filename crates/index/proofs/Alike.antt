-- The bytes of a run are given by one content, or by none.
use Rattle.std.proofs.Common.{◌≡◌, ℕ, ◌+◌, ◌<◌, ◌≤◌, min, Bool, true, false, cond, ◌&&◌, eqb, ltb, leb, ◌⊎◌, List, [], ◌∷◌, Some, None, fold, Option, sym, refl, ap, ◌∙◌, subst, inl, inr, arith}
use Rattle.std.proofs.lemmas.Bool.Decides.{nat_tests, leb_tells}
use Rattle.tree.specs.Newest.{In, first, later, over, newest}
use Rattle.tree.specs.Nodes.{of_file, covers}
use Rattle.tree.specs.Lookups.{content_version, giver}
use Rattle.tree.proofs.Newest.{top, none, is_none, none_some, true_false}
use Rattle.tree.proofs.Nodes.{both}
use Rattle.index.specs.declared.record.ContentRecord.{ContentRecord}
use Rattle.index.specs.Runs.{sooner, start_after, run_end, run_at, RunsAlike}
use Rattle.index.specs.Shown.{span_shown}
use Rattle.index.proofs.Showing.{covers_is, is_covers}

module _ {R : Type 0} (version : R → ℕ) (p q : R → Bool) where
  -- fewer are picked
  abbrev Fewer : List R → Type 0
  Fewer rs = (r : R) → In r rs → q r ≡ true → p r ≡ true

  pub newest_none : (rs : List R) → Fewer rs → newest version p rs ≡ None → newest version q rs ≡ None
  newest_none rs f e = is_none version q rs (λ s i h. none version p rs e s i (f s i h))

  over_older : (r s : R) (o : Option R) → version s ≤ version r → ((t : R) → o ≡ Some t → version t ≤ version s) → over version r o ≡ r
  over_older r s None l h = refl
  over_older r s (Some t) l h = let k : version t ≤ version s = h t refl in grind (arith, nat_tests)

  -- the newest stays the newest, if it is still picked
  pub newest_stays : (rs : List R) (b : R) → Fewer rs → newest version p rs ≡ Some b → q b ≡ true → newest version q rs ≡ Some b
  unfolding newest
  newest_stays [] b f e h = absurd (none_some e)
  newest_stays (r ∷ rs) b f e h = go (p r) (q r) refl refl (newest version p rs) refl e (λ x. newest_stays rs b (λ s i. f s (later i)) x h)
    where
      fewer : Fewer rs
      fewer s i = f s (later i)

      go : (x y : Bool) → p r ≡ x → q r ≡ y → (o : Option R) → newest version p rs ≡ o → cond x (Some (over version r o)) o ≡ Some b
          → (newest version p rs ≡ Some b → newest version q rs ≡ Some b)
          → cond y (Some (over version r (newest version q rs))) (newest version q rs) ≡ Some b
      go false true px qy o eo g ih = absurd (true_false (f r (first refl) qy) px)
      go false false px qy o eo g ih = ih (eo ∙ g)
      go true true px qy None eo g ih = rw (newest_none rs fewer eo) g
      go true false px qy None eo g ih = absurd (let z : r ≡ b = cc in true_false (rw z h) qy)
      go true y px qy (Some s) eo g ih = by (leb_tells (version s) (version r))
        where
          below : (t : R) → newest version q rs ≡ Some t → version t ≤ version s
          below t x = let T = top version q rs t x in (top version p rs s eo).above t T.member (fewer t T.member T.fits)

          by : ((leb (version s) (version r) ≡ true) × (version s ≤ version r)) ⊎ ((leb (version s) (version r) ≡ false) × (version r < version s))
              → cond y (Some (over version r (newest version q rs))) (newest version q rs) ≡ Some b
          by (inl l) = at (rw l.0 at g) y qy
            where
              at : Some r ≡ Some b → (y : Bool) → q r ≡ y → cond y (Some (over version r (newest version q rs))) (newest version q rs) ≡ Some b
              at z true w = ap Some (over_older r s (newest version q rs) l.1 below) ∙ z
              at z false w = absurd (let k : r ≡ b = cc in true_false (rw k h) w)
          by (inr l) = at (rw l.0 at g) y
            where
              at : Some s ≡ Some b → (y : Bool) → cond y (Some (over version r (newest version q rs))) (newest version q rs) ≡ Some b
              at z true = let n : newest version q rs ≡ Some s = ih (eo ∙ z) ∙ sym z in rw (n, l.0) z
              at z false = ih (eo ∙ z)

-- no content begins between the byte and the start that was found
folded_falls : (k i : ℕ) (n m : ℕ) (cs : List ContentRecord) → n ≤ m → fold (sooner k i) n cs ≤ m
folded_falls k i n m [] l = l
folded_falls k i n m (c ∷ cs) l = folded_falls k i (sooner k i n c) m cs (go (eqb c.ino k && ltb i c.offset))
  where
    go : (x : Bool) → cond x (min n c.offset) n ≤ m
    go true = omega arith
    go false = l

starts_before : (k i n : ℕ) (cs : List ContentRecord) (c : ContentRecord) → In c cs → of_file k (span_shown c) ≡ true → i < c.offset → start_after cs k i n ≤ c.offset
unfolding of_file
starts_before k i n [] c j q l = elim j [ ]
starts_before k i n (d ∷ cs) c (first e) q l = folded_falls k i (sooner k i n d) c.offset cs (subst (λ (x : ContentRecord). sooner k i n x ≤ c.offset) e here)
  where
    here : sooner k i n c ≤ c.offset
    here = grind (arith, nat_tests)
starts_before k i n (d ∷ cs) c (later j) q l = starts_before k i (sooner k i n d) cs c j q l

abbrev gives_at : ℕ → ℕ → ContentRecord → Bool
gives_at k i c = of_file k (span_shown c) && covers i (span_shown c)

-- what gives a byte before the next start gives each one before it
fewer_later : (cs : List ContentRecord) (k i j n : ℕ) → i ≤ j → j < start_after cs k i n → (c : ContentRecord) → In c cs → gives_at k j c ≡ true → gives_at k i c ≡ true
fewer_later cs k i j n a b c m q = rw x.0 (go (leb_tells c.offset i))
  where
    x : (of_file k (span_shown c) ≡ true) × (covers j (span_shown c) ≡ true)
    x = both _ _ q

    o : (c.offset ≤ j) × (j < c.offset + c.dsize)
    o = covers_is j (span_shown c) x.1

    go : {y : Bool} → ((y ≡ true) × (c.offset ≤ i)) ⊎ ((y ≡ false) × (i < c.offset)) → covers i (span_shown c) ≡ true
    go (inl h) = is_covers i (span_shown c) h.1 (omega (arith, o.1))
    go (inr h) = absurd (omega (arith, starts_before k i n cs c m x.0 h.1, o.0))

pub runs_alike : (cs : List ContentRecord) (k i n : ℕ) → RunsAlike cs k i (run_at cs k i n).end
runs_alike cs k i n j a b = go (giver span_shown cs k i) refl b
  where
    go : (o : Option ContentRecord) → giver span_shown cs k i ≡ o → j < run_end o (start_after cs k i n) → giver span_shown cs k j ≡ giver span_shown cs k i
    go None e l = newest_none (content_version span_shown) (gives_at k i) (gives_at k j) cs (fewer_later cs k i j n a l) e ∙ sym e
    go (Some g) e l =
        newest_stays (content_version span_shown) (gives_at k i) (gives_at k j) cs g (fewer_later cs k i j n a (omega arith)) e still ∙ sym e
      where
        x : (of_file k (span_shown g) ≡ true) × (covers i (span_shown g) ≡ true)
        x = both _ _ (top (content_version span_shown) (gives_at k i) cs g e).fits

        still : gives_at k j g ≡ true
        still = rw x.0 (is_covers j (span_shown g) (let o = covers_is i (span_shown g) x.1 in omega (arith, o.0)) (omega arith))
