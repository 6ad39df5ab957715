-- What the code of a NAND chip finds and does is what is meant.
use Rattle.std.proofs.Common.{◌≡◌, ℕ, ◌+◌, ◌*◌, ◌/◌, ◌<◌, ◌≤◌, Bool, true, false, not, List, ◌++◌, length, take, drop, None, Ok, Err, sym, refl, ap, ◌∙◌, subst, add-mul, div-mul-le_self, mul-div_cancel, arith}
use Rattle.std.proofs.lemmas.Nat.{le-div}
use Rattle.std.proofs.lemmas.Bool.{true≢false}
use Rattle.flash.specs.declared.refusal.Refusal.{Refusal}
use Rattle.flash.specs.Cells.{cells}
use Rattle.flash.specs.Refused.{place_refusal, place_causes, program_refusal, read_refusal, readable, part}
use Rattle.flash.specs.Rules as rules
use Rattle.flash.specs.Rules.{answered, Fetched}
use Rattle.flash.proofs.Refusals.{refused_as, not_refused, none_applies, inside, of_read}
use Rattle.devices.specs.declared.supply.Supply.{Supply}
use Rattle.devices.specs.Steps.{Done, spent, taken, left_by}
use Rattle.devices.specs.Memory.{part_of, laid, wiped, Within}
use Rattle.devices.specs.Bank.{blocks_in, placed, chip, outcome}
use Rattle.devices.specs.Sizes.{size_of}
use Rattle.devices.specs.Pages.{shown_by, mark_of, flags_laid, flags_wiped}
use Rattle.devices.specs.Nand.{nand, blocks_of, nand_program, nand_erase}
use Rattle.devices.specs.Sane.{part_full}
use Rattle.devices.specs.SanePages.{flags_there}
use Rattle.devices.proofs.Meets.{answer_of, after_is, unless_refused, unless_not}
use Rattle.devices.proofs.Readable.{part_read}
use Rattle.devices.proofs.Rows.{in_block}

-- the pages of a run within a block are pages of the chip
pub pages_there : (p b o n : ℕ) → 0 < p → b < 16 → o + n ≤ size_of p → b * 8 + o / p + n / p ≤ 128
pages_there p b o n pos few h =
    let sum : (o / p + n / p) * p ≤ 8 * p = omega (arith, add-mul (o / p) (n / p) p, div-mul-le_self o p, div-mul-le_self n p) in
    let k : o / p + n / p ≤ 8 = subst (λ m. o / p + n / p ≤ m) (mul-div_cancel 8 pos) (le-div (o / p + n / p) (8 * p) p pos sum) in
    omega arith

pub blocks_are : (p : ℕ) (mem : List ℕ) (fs : List Bool) (size : ℕ) → size ≡ size_of p → length fs ≡ 128 → blocks_in size (length mem) ≡ blocks_of p mem fs
blocks_are p mem fs size is all = rw (is, all)

-- the block b, as the code has it
module _ (p : ℕ) (mem : List ℕ) (fs : List Bool) (b q : ℕ) (gs : List Bool) (xs : List ℕ) (page : q ≡ p) (flags : gs ≡ part_of 8 fs b) (bytes : xs ≡ part_of (size_of p) mem b) where
  pub mark_here : (m : ℕ) → m ≡ mark_of q gs xs → m ≡ mark_of p (part_of 8 fs b) (part_of (size_of p) mem b)
  mark_here m h = h ∙ (λ t. mark_of (page t) (flags t) (bytes t))

  pub lost_here : (o n : ℕ) (r : Bool) → r ≡ not (readable (part (shown_by q gs xs) o n))
      → r ≡ not (readable (part (shown_by p (part_of 8 fs b) (part_of (size_of p) mem b)) o n))
  lost_here o n r h = h ∙ (λ t. not (readable (part (shown_by (page t) (flags t) (bytes t)) o n)))

module _ (p : ℕ) (mem : List ℕ) (fs : List Bool) (s : Supply) where
  -- size is that of a block, as the bank has it
  module _ (size : ℕ) (is : size ≡ size_of p) (all : length fs ≡ 128) where
    pub placed_is : (b o n : ℕ) → place_refusal (nand p mem fs s) b o n ≡ placed size (length mem) s b o n
    unfolding nand chip place_refusal
    placed_is b o n = rw (is, all)

    -- ─── erase ───

    pub erase_refused : (b k : ℕ) (e : Refusal) → Err e ≡ answered (placed size (length mem) s b 0 0) k → outcome (Err e) (mem, fs) s ≡ nand_erase p mem fs s b
    unfolding nand_erase
    erase_refused b k e h = unless_refused (place_refusal (nand p mem fs s) b 0 0) k (mem, fs) s _ e (rw (placed_is b 0 0) h)

    pub erased_is : (b k from : ℕ) → Ok from ≡ answered (placed size (length mem) s b 0 0) k
        → (d r : Done) (mem' : List ℕ) (fs' : List Bool) (s' : Supply) → d ≡ r → d ≡ taken (spent s 1) → s' ≡ left_by (spent s 1)
        → mem' ≡ wiped size mem b d → fs' ≡ flags_wiped fs b d → outcome (answer_of r) (mem', fs') s' ≡ nand_erase p mem fs s b
    unfolding nand_erase
    erased_is b k from h d r mem' fs' s' was t l m g =
        unless_not (place_refusal (nand p mem fs s) b 0 0) k (mem, fs) s _ from _ (rw (placed_is b 0 0) h)
        (ap (λ q. outcome (answer_of q) (mem', fs') s') (sym was)
        ∙ after_is (λ q. (wiped (size_of p) mem b q, flags_wiped fs b q)) (spent s 1) s' (mem', fs') d l t (λ i. ((m ∙ ap (λ n. wiped n mem b d) is) i, g i)))

  -- ─── program ───

  module _ (b o : ℕ) (run : List ℕ) (k : ℕ) where
    pub program_refused : (e : Refusal) → Err e ≡ answered (program_refusal (nand p mem fs s) b o (length run)) k → outcome (Err e) (mem, fs) s ≡ nand_program p mem fs s b o run
    unfolding nand_program
    program_refused e h = unless_refused _ k (mem, fs) s _ e h

    pub programmed_is : (from : ℕ) → Ok from ≡ answered (program_refusal (nand p mem fs s) b o (length run)) k → from ≡ b * size_of p + o
        → (d r : Done) (mem' : List ℕ) (fs' : List Bool) (s' : Supply) → d ≡ r → d ≡ taken (spent s (length run / p)) → s' ≡ left_by (spent s (length run / p))
        → mem' ≡ laid p mem from run d → fs' ≡ flags_laid fs (b * 8 + o / p) (length run / p) d → outcome (answer_of r) (mem', fs') s' ≡ nand_program p mem fs s b o run
    unfolding nand_program
    programmed_is from h is d r mem' fs' s' was t l m g =
        unless_not _ k (mem, fs) s _ from _ h
        (ap (λ q. outcome (answer_of q) (mem', fs') s') (sym was)
        ∙ after_is (λ q. (laid p mem (b * size_of p + o) run q, flags_laid fs (b * 8 + o / p) (length run / p) q)) (spent s (length run / p)) s' (mem', fs') d l t
        (λ i. ((m ∙ ap (λ a. laid p mem a run d) is) i, g i)))

  -- ─── read ───

  module _ (b o : ℕ) (old : List ℕ) (k : ℕ) where
    pub fetch_refused : (e : Refusal) → Err e ≡ answered (read_refusal (nand p mem fs s) b o (length old)) k → Fetched (nand p mem fs s) b o old (Err e) old
    fetch_refused e h = rules.Fetched.refused e (refused_as _ k e h) refl refl

    -- what is not refused is there, and can be read
    causes : read_refusal (nand p mem fs s) b o (length old) ≡ None → (outside_not : b < (nand p mem fs s).blocks)
        × (readable (part ((nand p mem fs s).shown b) o (length old)) ≡ true)
    unfolding read_refusal
    causes none =
        let t = none_applies (place_causes (nand p mem fs s) b o (length old) ++ of_read (nand p mem fs s) b o (length old)) none in
        ((inside (nand p mem fs s) b o (length old) (t 1)).0, go (readable (part ((nand p mem fs s).shown b) o (length old))) (t 2))
      where
        go : (x : Bool) → not x ≡ false → x ≡ true
        go true h = refl
        go false h = absurd (true≢false h)

    pub fetch_done : (from : ℕ) (new : List ℕ) → Ok from ≡ answered (read_refusal (nand p mem fs s) b o (length old)) k → Within (size_of p) (length mem) b o (length old) from
        → new ≡ take (length old) (drop from mem) → Fetched (nand p mem fs s) b o old (Ok tt) new
    unfolding nand chip
    fetch_done from new h w e =
        let none = not_refused _ k from h in
        let c = causes none in
        let eight : length (part_of 8 fs b) ≡ 8 = part_full 8 fs b (flags_there p mem fs b c.0) in
        let full : length (part_of (size_of p) mem b) ≡ length (part_of 8 fs b) * p = part_full (size_of p) mem b w.2 ∙ ap (λ n. n * p) (sym eight) in
        let x : new ≡ take (length old) (drop o (part_of (size_of p) mem b)) = e ∙ (ap (λ n. take (length old) (drop n mem)) w.0 ∙ in_block (size_of p) mem b o (length old) w.1) in
        rules.Fetched.done none refl (ap cells x ∙ part_read p (part_of 8 fs b) (part_of (size_of p) mem b) full o (length old) c.1)
