-- The calls of a chip keep the rules of a flash, by what they make of its blocks.
use Rattle.std.proofs.Common.{◌≡◌, ℕ, ◌+◌, ◌*◌, ◌/◌, ◌<◌, ◌≤◌, List, ◌++◌, length, take, drop, Some, None, Ok, Err, Option, Result, sym, refl, ap, ◌∙◌, add-mul, arith}
use lib.ListN.{length-map}
use Rattle.std.proofs.lemmas.List.{take-map}
use Rattle.flash.specs.declared.refusal.Refusal.{Refusal}
use Rattle.flash.specs.declared.refusal.Refusal.TheVariants.{NoPower}
use Rattle.flash.specs.Cells.{Cell, byte, cells, blank, over}
use Rattle.flash.specs.Meaning.{Meaning, off, with_at}
use Rattle.flash.specs.Refused.{program_refusal, erase_refusal, arm_refusal, part}
use Rattle.flash.specs.Rules as rules
use Rattle.flash.specs.Rules.{Answer, answered, programmed, broken, erased, powered, restarted, Programmed, Erased, Restarted, Passed, Failed}
use Rattle.flash.proofs.Batches.{whole_batches, mod_first}
use Rattle.flash.proofs.Refusals.{refused_as, not_refused, accepted}
use Rattle.devices.specs.declared.supply.Cut.{Cut}
use Rattle.devices.specs.declared.supply.Supply.{Supply}
use Rattle.devices.specs.declared.supply.Supply.TheVariants.{Steady, Armed, Off}
use Rattle.devices.specs.Steps.{Done, spent, taken, left_by, arming, power_of}
use Rattle.devices.specs.Bank.{chip, Outcome, outcome, unless, after, rearmed}
use Rattle.devices.proofs.Chips.{chip_anew}
use Rattle.devices.proofs.Rows.{settled_is, cut_split}
use Rattle.devices.proofs.Supplies.{spent_power, cut_armed, cut_fits}

-- ─── outcomes ───

-- what a call answers that made its steps, or failed in one
abbrev pub answer_of : Done → Answer
answer_of (Ok u) = Ok tt
answer_of (Err c) = Err NoPower

pub after_is : {X : Type 0} (f : Done → X) (x : Result Supply Cut) (s : Supply) (y : X) (d : Done) → s ≡ left_by x → d ≡ taken x → y ≡ f d
    → outcome (answer_of d) y s ≡ after f x
after_is f (Ok s') s y d l h e = λ t. outcome (answer_of (h t)) ((e ∙ ap f h) t) (l t)
after_is f (Err c) s y d l h e = λ t. outcome (answer_of (h t)) ((e ∙ ap f h) t) (l t)

module _ {X : Type 0} (x : Option Refusal) (k : ℕ) (y : X) (s : Supply) (then : Outcome X) where
  pub unless_refused : (e : Refusal) → Err e ≡ answered x k → outcome (Err e) y s ≡ unless x y s then
  unless_refused e h = rw (refused_as x k e h)

  pub unless_not : (from : ℕ) (out : Outcome X) → Ok from ≡ answered x k → out ≡ then → out ≡ unless x y s then
  unless_not from out h e = rw (not_refused x k from h) e

module _ {X : Type 0} (mean : X → Supply → Meaning) (x : X) (s : Supply) (out : Outcome X) where
  pub program_meets : (b o : ℕ) (run : List ℕ) (f : Done → X) (k : ℕ) → out ≡ unless (program_refusal (mean x s) b o (length run)) x s (after f (spent s k))
      → (program_refusal (mean x s) b o (length run) ≡ None → (s' : Supply) → Ok s' ≡ spent s k → Passed (mean x s) b o run (mean (f (Ok tt)) s'))
      → (program_refusal (mean x s) b o (length run) ≡ None → (c : Cut) → Err c ≡ spent s k → Failed (mean x s) b o run (mean (f (Err c)) Off))
      → Programmed (mean x s) b o run out.answer (mean out.state out.supply)
  program_meets b o run f k is passed failed = go (program_refusal (mean x s) b o (length run)) refl is
    where
      goes : program_refusal (mean x s) b o (length run) ≡ None → (y : Result Supply Cut) → y ≡ spent s k
          → rules.Goes (mean x s) b o run (after f y).answer (mean (after f y).state (after f y).supply)
      goes none (Ok s') h = rules.Goes.done refl (passed none s' h)
      goes none (Err c) h = rules.Goes.failed refl (failed none c h)

      go : (e : Option Refusal) → program_refusal (mean x s) b o (length run) ≡ e → out ≡ unless e x s (after f (spent s k))
          → Programmed (mean x s) b o run out.answer (mean out.state out.supply)
      go None h is = rw is (rules.Programmed.goes h (goes h (spent s k) refl))
      go (Some e) h is = rw is (rules.Programmed.refused e h refl refl)

  pub erase_meets : (b : ℕ) (f : Done → X) → out ≡ unless (erase_refusal (mean x s) b) x s (after f (spent s 1))
      → (erase_refusal (mean x s) b ≡ None → (s' : Supply) → Ok s' ≡ spent s 1 → mean (f (Ok tt)) s' ≡ erased (mean x s) b)
      → (erase_refusal (mean x s) b ≡ None → (c : Cut) → Err c ≡ spent s 1 → Erased (mean x s) b (Err NoPower) (mean (f (Err c)) Off))
      → Erased (mean x s) b out.answer (mean out.state out.supply)
  erase_meets b f is done failed = go (erase_refusal (mean x s) b) refl is
    where
      goes : erase_refusal (mean x s) b ≡ None → (y : Result Supply Cut) → y ≡ spent s 1
          → Erased (mean x s) b (after f y).answer (mean (after f y).state (after f y).supply)
      goes none (Ok s') h = rules.Erased.done none refl (done none s' h)
      goes none (Err c) h = failed none c h

      go : (e : Option Refusal) → erase_refusal (mean x s) b ≡ e → out ≡ unless e x s (after f (spent s 1)) → Erased (mean x s) b out.answer (mean out.state out.supply)
      go None h is = rw is (goes h (spent s 1) refl)
      go (Some e) h is = rw is (rules.Erased.refused e h refl refl)

-- ─── what the calls make of the blocks ───

module _ {B : Type 0} (show : B → List Cell) (mark : B → ℕ) (n size p : ℕ) (f : ℕ → B) (s : Supply) where
  -- the block b holds x now
  module _ (b : ℕ) (n' : ℕ) (f' : ℕ → B) (x : B) (many : n' ≡ n) (same : (i : ℕ) → f' i ≡ with_at f b x i) where
    pub program_done : (o : ℕ) (run : List ℕ) → program_refusal (chip show mark n size p f s) b o (length run) ≡ None
        → (s' : Supply) → Ok s' ≡ spent s (length run / p)
        → show x ≡ over (show (f b)) o (cells run) → length (show (f b)) ≡ size → mark (f b) ≤ mark x → mark x ≤ o + length run
        → Passed (chip show mark n size p f s) b o run (chip show mark n' size p f' s')
    unfolding chip programmed
    program_done o run none s' h is long from to =
        let a = accepted (chip show mark n size p f s) b o (length run) none in
        let end = (o + length run) / p * p in
        let l : length (cells run) ≡ length run = length-map run byte in
        let whole : end ≡ o + length run = whole_batches (o + length run) p (mod_first o (length run) p a.o_pages ∙ a.n_pages) in
        let ee : end ≡ o + length (cells run) = omega arith in
        let le : end ≤ length (show (f b)) = omega (arith, a.fits) in
        record {
          mark = mark x;
          from = from;
          to = to;
          is = chip_anew show mark n size p f s n' f' s' b x many same (over (show (f b)) o (cells run)) _ (mark x) (power_of s) is
              (is ∙ sym (settled_is (show (f b)) (cells run) o end ee le)) refl (spent_power s s' (length run / p) h);
        }

    -- sp stands in place of the page that failed
    pub program_failed : (o : ℕ) (run : List ℕ) → program_refusal (chip show mark n size p f s) b o (length run) ≡ None → 0 < p
        → (c : Cut) → Err c ≡ spent s (length run / p) → (sp : List Cell) → rules.Spoilt p sp → length sp ≡ p
        → show x ≡ over (show (f b)) o (cells (take (c.after * p) run) ++ sp) → length (show (f b)) ≡ size
        → Failed (chip show mark n size p f s) b o run (chip show mark n' size p f' Off)
    unfolding chip broken
    program_failed o run none pos c h sp spoilt page is long =
        let a = accepted (chip show mark n size p f s) b o (length run) none in
        let lw = cut_fits p s c (length run) h in
        let at_is : (o / p + c.after) * p ≡ o + c.after * p = add-mul (o / p) c.after p ∙ ap (λ k. k + c.after * p) (whole_batches o p a.o_pages) in
        let left : show x ≡ take (o + c.after * p) (over (show (f b)) o (cells run)) ++ (sp ++ drop (o + c.after * p + p) (show (f b))) =
        is
        ∙ (ap (λ (l : List Cell). over (show (f b)) o (l ++ sp)) (sym (take-map byte (c.after * p) run))
        ∙ (cut_split (show (f b)) (cells run) sp o (c.after * p) (omega (arith, a.fits)) (omega (arith, lw, length-map run byte))
        ∙ ap (λ k. take (o + c.after * p) (over (show (f b)) o (cells run)) ++ (sp ++ drop (o + c.after * p + k) (show (f b)))) page)) in
        record {
          armed_before = cut_armed s (length run / p) c h;
          left = show x;
          torn = record {
            at = o / p + c.after;
            concerned = rules.Concerned.takes (omega (arith, lw)) (omega (arith, at_is, lw)) (omega (arith, at_is));
            spoilt = sp;
            is_spoilt = spoilt;
            is = rw at_is left;
          };
          marks = with_at (λ i. mark (f i)) b (mark x);
          is = chip_anew show mark n size p f s n' f' Off b x many same (show x) (show x) (mark x) off refl refl refl refl;
        }

    pub erase_done : (s' : Supply) → Ok s' ≡ spent s 1 → show x ≡ blank size → mark x ≡ 0
        → chip show mark n' size p f' s' ≡ erased (chip show mark n size p f s) b
    unfolding chip erased
    erase_done s' h is low =
        chip_anew show mark n size p f s n' f' s' b x many same (blank size) (blank size) 0 (power_of s) is is low (spent_power s s' 1 h)

    pub erase_failed : erase_refusal (chip show mark n size p f s) b ≡ None → (c : Cut) → Err c ≡ spent s 1 → length (show x) ≡ size
        → ((i : ℕ) → rules.Spoilt (length (part (show (f b)) (i * p) p)) (part (show x) (i * p) p))
        → Erased (chip show mark n size p f s) b (Err NoPower) (chip show mark n' size p f' Off)
    unfolding chip broken
    erase_failed none c h long spoilt =
        rules.Erased.failed (show x) (with_at (λ i. mark (f i)) b (mark x)) none (cut_armed s 1 c h) refl long (λ i. rules.Worn.spoilt (spoilt i))
        (chip_anew show mark n size p f s n' f' Off b x many same (show x) (show x) (mark x) off refl refl refl refl)

  -- ─── arm and restart ───

  pub arm_meets : {X : Type 0} (mean : X → Supply → Meaning) (x : X) → ((t : Supply) → mean x t ≡ chip show mark n size p f t)
      → (j k : ℕ) (out : Outcome X) → out ≡ rearmed x s (arming s j k) → rules.Armed (mean x s) out.answer (mean out.state out.supply)
  unfolding chip powered arm_refusal
  arm_meets {X} mean x same j k out is = rw is (go s)
    where
      go : (s : Supply) → rules.Armed (mean x s) (rearmed x s (arming s j k)).answer (mean (rearmed x s (arming s j k)).state (rearmed x s (arming s j k)).supply)
      go Steady = rw (same Steady, same (Armed j k)) (rules.Armed.done refl refl refl)
      go (Armed left i) = rw (same (Armed left i), same (Armed j k)) (rules.Armed.done refl refl refl)
      go Off = rw (same Off) (rules.Armed.refused NoPower refl refl refl)

  pub restart_meets : Restarted (chip show mark n size p f s) (chip show mark n size p f Steady)
  unfolding chip restarted
  restart_meets = record { marks = λ b. mark (f b); is = refl }
