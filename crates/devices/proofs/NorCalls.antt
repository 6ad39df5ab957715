-- What the code of a NOR chip finds and does is what is meant.
use Rattle.std.proofs.Common.{◌≡◌, ℕ, ◌+◌, ◌*◌, ◌/◌, List, length, take, drop, Ok, Err, sym, refl, ap, ◌∙◌}
use Rattle.flash.specs.declared.refusal.Refusal.{Refusal}
use Rattle.flash.specs.Cells.{cells}
use Rattle.flash.specs.Refused.{place_refusal, program_refusal}
use Rattle.flash.specs.Rules as rules
use Rattle.flash.specs.Rules.{answered, Fetched}
use Rattle.flash.proofs.Refusals.{refused_as, not_refused, read_by_place, read_past_place}
use Rattle.devices.specs.declared.supply.Supply.{Supply}
use Rattle.devices.specs.Steps.{Done, spent, taken, left_by}
use Rattle.devices.specs.Memory.{part_of, laid, wiped, Within}
use Rattle.devices.specs.Bank.{placed, chip, outcome}
use Rattle.devices.specs.Nor.{SIZE, nor, nor_program, nor_erase}
use Rattle.devices.proofs.Meets.{answer_of, after_is, unless_refused, unless_not}
use Rattle.devices.proofs.Rows.{in_block, readable_cells, part_cells}

-- size is that of a block, as the bank has it
pub placed_is : (mem : List ℕ) (s : Supply) (b o n size : ℕ) → size ≡ 4096 → place_refusal (nor mem s) b o n ≡ placed size (length mem) s b o n
unfolding nor chip place_refusal SIZE
placed_is mem s b o n size e = rw e

-- ─── program ───

module _ (mem : List ℕ) (s : Supply) (b o : ℕ) (run : List ℕ) (k : ℕ) where
  pub program_refused : (e : Refusal) → Err e ≡ answered (program_refusal (nor mem s) b o (length run)) k → outcome (Err e) mem s ≡ nor_program mem s b o run
  unfolding nor_program
  program_refused e h = unless_refused _ k mem s _ e h

  -- page is the bytes of one, as the bank has it
  pub programmed_is : (from page : ℕ) → Ok from ≡ answered (program_refusal (nor mem s) b o (length run)) k → from ≡ b * 4096 + o → page ≡ 4
      → (d : Done) (mem' : List ℕ) (s' : Supply) → d ≡ taken (spent s (length run / page)) → s' ≡ left_by (spent s (length run / page)) → mem' ≡ laid page mem from run d
      → outcome (answer_of d) mem' s' ≡ nor_program mem s b o run
  unfolding nor_program SIZE
  programmed_is from page h is four d mem' s' t l m =
      unless_not _ k mem s _ from _ h
      (after_is (laid 4 mem (b * 4096 + o) run) (spent s (length run / 4)) s' mem' d
      (l ∙ ap (λ n. left_by (spent s (length run / n))) four) (t ∙ ap (λ n. taken (spent s (length run / n))) four) (m ∙ (λ i. laid (four i) mem (is i) run d)))

-- ─── erase ───

module _ (mem : List ℕ) (s : Supply) (b k size : ℕ) (is : size ≡ 4096) where
  pub erase_refused : (e : Refusal) → Err e ≡ answered (placed size (length mem) s b 0 0) k → outcome (Err e) mem s ≡ nor_erase mem s b
  unfolding nor_erase
  erase_refused e h = unless_refused (place_refusal (nor mem s) b 0 0) k mem s _ e (rw (placed_is mem s b 0 0 size is) h)

  pub erased_is : (from : ℕ) → Ok from ≡ answered (placed size (length mem) s b 0 0) k
      → (d : Done) (mem' : List ℕ) (s' : Supply) → d ≡ taken (spent s 1) → s' ≡ left_by (spent s 1) → mem' ≡ wiped size mem b d
      → outcome (answer_of d) mem' s' ≡ nor_erase mem s b
  unfolding nor_erase SIZE
  erased_is from h d mem' s' t l m =
      unless_not (place_refusal (nor mem s) b 0 0) k mem s _ from _ (rw (placed_is mem s b 0 0 size is) h)
      (after_is (wiped 4096 mem b) (spent s 1) s' mem' d l t (m ∙ ap (λ n. wiped n mem b d) is))

-- ─── read ───

module _ (mem : List ℕ) (s : Supply) (b o : ℕ) (old : List ℕ) (k size : ℕ) (is : size ≡ 4096) where
  pub fetch_refused : (e : Refusal) → Err e ≡ answered (placed size (length mem) s b o (length old)) k → Fetched (nor mem s) b o old (Err e) old
  fetch_refused e h =
      rules.Fetched.refused e (read_by_place (nor mem s) b o (length old) e (placed_is mem s b o (length old) size is ∙ refused_as _ k e h)) refl refl

  pub fetch_done : (from : ℕ) (new : List ℕ) → Ok from ≡ answered (placed size (length mem) s b o (length old)) k → Within size (length mem) b o (length old) from
      → new ≡ take (length old) (drop from mem) → Fetched (nor mem s) b o old (Ok tt) new
  unfolding nor chip SIZE
  fetch_done from new h w e =
      let none = placed_is mem s b o (length old) size is ∙ not_refused _ k from h in
      let q = part_cells (part_of 4096 mem b) o (length old) in
      rules.Fetched.done
      (read_past_place (nor mem s) b o (length old) none ∙ rw (q, readable_cells (take (length old) (drop o (part_of 4096 mem b))))) refl
      (ap cells (e ∙ (ap (λ n. take (length old) (drop n mem)) w.0 ∙ (in_block size mem b o (length old) w.1 ∙ ap (λ n. take (length old) (drop o (part_of n mem b))) is))) ∙ sym q)
