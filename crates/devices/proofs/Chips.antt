-- What a chip means, by what its blocks hold; and when it refuses a call.
use Rattle.std.proofs.Common.{◌≡◌, ℕ, Bool, true, false, cond, not, eqb, nat_lt, List, [], ◌∷◌, Some, None, Ok, Err, Option, refl, ap, ◌∙◌}
use Rattle.flash.specs.declared.refusal.Refusal.{Refusal}
use Rattle.flash.specs.declared.refusal.Refusal.TheVariants.{NotPages, BelowMark, Unreadable}
use Rattle.flash.specs.Cells.{Cell}
use Rattle.flash.specs.Meaning.{Meaning, Power, with_at}
use Rattle.flash.specs.Refused.{first, place_refusal, program_refusal, read_refusal, other_held, readable, part}
use Rattle.flash.specs.Rules.{Answer, answered, mark_answer}
use Rattle.flash.proofs.Refusals.{refused_as, not_refused, program_by_place, program_past_place, read_by_place, read_past_place, none_other}
use Rattle.devices.specs.declared.supply.Supply.{Supply}
use Rattle.devices.specs.Steps.{power_of}
use Rattle.devices.specs.Bank.{cuts, pages_refusal, mark_refusal, run_refusal, allowed, chip}

cond_ap : {X Y : Type 0} (g : X → Y) (v : Bool) (x y : X) → g (cond v x y) ≡ cond v (g x) (g y)
cond_ap g true x y = refl
cond_ap g false x y = refl

-- what a test for refusals answers tells what was refused
pub allowed_none : (x : Option Refusal) → Ok tt ≡ allowed x → x ≡ None
allowed_none None h = refl
allowed_none (Some e) h = absurd (cc)

pub allowed_some : (x : Option Refusal) (e : Refusal) → Err e ≡ allowed x → x ≡ Some e
allowed_some None e h = absurd (cc)
allowed_some (Some d) e h = cc

-- the two tests of a run, one after the other
cut_first : (c d : Bool) (e : Refusal) → Err e ≡ allowed (first ((c, NotPages) ∷ [])) → Err e ≡ allowed (first ((c, NotPages) ∷ (d, BelowMark) ∷ []))
cut_first true d e h = h
cut_first false d e h = absurd (cc)

whole_first : (c d : Bool) (r : Answer) → Ok tt ≡ allowed (first ((c, NotPages) ∷ [])) → r ≡ allowed (first ((d, BelowMark) ∷ []))
    → r ≡ allowed (first ((c, NotPages) ∷ (d, BelowMark) ∷ []))
whole_first true d r w h = absurd (cc)
whole_first false d r w h = h

run_cut : (page mark o n : ℕ) (e : Refusal) → Err e ≡ allowed (pages_refusal page o n) → Err e ≡ allowed (run_refusal page mark o n)
run_cut page mark o n e h = cut_first (cuts page o n) (nat_lt o mark) e h

run_whole : (page mark o n : ℕ) (r : Answer) → Ok tt ≡ allowed (pages_refusal page o n) → r ≡ allowed (mark_refusal mark o) → r ≡ allowed (run_refusal page mark o n)
run_whole page mark o n r w h = whole_first (cuts page o n) (nat_lt o mark) r w h

module _ {B : Type 0} (show : B → List Cell) (mark : B → ℕ) (n size p : ℕ) (f : ℕ → B) (s : Supply) where
  -- the chip, with xs shown and zs settled in the block b, k for its mark, and w for the power
  abbrev pub anew : ℕ → List Cell → List Cell → ℕ → Power → Meaning
  anew b xs zs k w = record {
    blocks = n;
    size = size;
    page = p;
    batch = p;
    shown = with_at (λ i. show (f i)) b xs;
    settled = with_at (λ i. show (f i)) b zs;
    mark = with_at (λ i. mark (f i)) b k;
    power = w;
  }

  -- the block b holds x now
  pub chip_anew : (n' : ℕ) (f' : ℕ → B) (s' : Supply) (b : ℕ) (x : B) → n' ≡ n → ((i : ℕ) → f' i ≡ with_at f b x i)
      → (xs zs : List Cell) (k : ℕ) (w : Power) → show x ≡ xs → show x ≡ zs → mark x ≡ k → power_of s' ≡ w
      → chip show mark n' size p f' s' ≡ anew b xs zs k w
  unfolding chip
  chip_anew n' f' s' b x e same xs zs k w is_xs is_zs is_k is_w =
      let cells_as : (ys : List Cell) → show x ≡ ys → (i : ℕ) → show (f' i) ≡ with_at (λ j. show (f j)) b ys i = λ ys is i.
      ap show (same i) ∙ (cond_ap show (eqb i b) x (f i) ∙ ap (λ y. cond (eqb i b) y (show (f i))) is) in
      let marks : (i : ℕ) → mark (f' i) ≡ with_at (λ j. mark (f j)) b k i = λ i.
      ap mark (same i) ∙ (cond_ap mark (eqb i b) x (f i) ∙ ap (λ y. cond (eqb i b) y (mark (f i))) is_k) in
      λ t. record {
        blocks = e t;
        size = size;
        page = p;
        batch = p;
        shown = λ i. cells_as xs is_xs i t;
        settled = λ i. cells_as zs is_zs i t;
        mark = λ i. marks i t;
        power = is_w t;
      }

  -- ─── refusals ───

  module _ (b o k : ℕ) where
    nothing_held : other_held (chip show mark n size p f s) b ≡ false
    unfolding chip
    nothing_held = none_other (chip show mark n size p f s) b (λ c l ne. refl)

    -- once the place is not refused
    program_is : place_refusal (chip show mark n size p f s) b o k ≡ None
        → program_refusal (chip show mark n size p f s) b o k ≡ run_refusal p (mark (f b)) o k
    unfolding chip
    program_is none = program_past_place (chip show mark n size p f s) b o k none ∙ rw nothing_held

    -- what the code finds of the place
    module _ (place : Option Refusal) (at : place_refusal (chip show mark n size p f s) b o k ≡ place) where
      pub program_by : (e : Refusal) (i j : ℕ) → Err e ≡ answered place i → Err e ≡ answered (program_refusal (chip show mark n size p f s) b o k) j
      program_by e i j h = rw (program_by_place (chip show mark n size p f s) b o k e (at ∙ refused_as place i e h))

      pub read_by : (e : Refusal) (i j : ℕ) → Err e ≡ answered place i → Err e ≡ answered (read_refusal (chip show mark n size p f s) b o k) j
      read_by e i j h = rw (read_by_place (chip show mark n size p f s) b o k e (at ∙ refused_as place i e h))

      module _ (from i : ℕ) (there : Ok from ≡ answered place i) where
        pub not_place : place_refusal (chip show mark n size p f s) b o k ≡ None
        not_place = at ∙ not_refused place i from there

        -- and of the pages and the mark
        module _ (q m : ℕ) (page : q ≡ p) (marked : m ≡ mark (f b)) where
          run_is : program_refusal (chip show mark n size p f s) b o k ≡ run_refusal q m o k
          run_is = program_is not_place ∙ rw (page, marked)

          pub program_cut : (e : Refusal) (j : ℕ) → Err e ≡ allowed (pages_refusal q o k) → Err e ≡ answered (program_refusal (chip show mark n size p f s) b o k) j
          program_cut e j h = rw (run_is ∙ allowed_some (run_refusal q m o k) e (run_cut q m o k e h))

          pub program_below : (e : Refusal) (j : ℕ) → Ok tt ≡ allowed (pages_refusal q o k) → Err e ≡ allowed (mark_refusal m o)
              → Err e ≡ answered (program_refusal (chip show mark n size p f s) b o k) j
          program_below e j w h = rw (run_is ∙ allowed_some (run_refusal q m o k) e (run_whole q m o k (Err e) w h))

          pub program_may : (j : ℕ) → Ok tt ≡ allowed (pages_refusal q o k) → Ok tt ≡ allowed (mark_refusal m o)
              → Ok j ≡ answered (program_refusal (chip show mark n size p f s) b o k) j
          program_may j w h = rw (run_is ∙ allowed_none (run_refusal q m o k) (run_whole q m o k (Ok tt) w h))

        -- and of what can be read
        pub read_not : (j : ℕ) → true ≡ not (readable (part (show (f b)) o k)) → Err Unreadable ≡ answered (read_refusal (chip show mark n size p f s) b o k) j
        unfolding chip
        read_not j h = rw (read_past_place (chip show mark n size p f s) b o k not_place, ← h)

        pub read_may : (j : ℕ) → false ≡ not (readable (part (show (f b)) o k)) → Ok j ≡ answered (read_refusal (chip show mark n size p f s) b o k) j
        unfolding chip
        read_may j h = rw (read_past_place (chip show mark n size p f s) b o k not_place, ← h)

  -- ─── looks ───

  pub mark_seen : (b m : ℕ) → place_refusal (chip show mark n size p f s) b 0 0 ≡ None → m ≡ mark (f b) → Ok m ≡ mark_answer (chip show mark n size p f s) b
  unfolding chip
  mark_seen b m none e = rw (none, e)

  pub mark_unseen : (b : ℕ) (e : Refusal) (place : Option Refusal) (i : ℕ) → place_refusal (chip show mark n size p f s) b 0 0 ≡ place → Err e ≡ answered place i
      → Err e ≡ mark_answer (chip show mark n size p f s) b
  mark_unseen b e place i at h = rw (at ∙ refused_as place i e h)
