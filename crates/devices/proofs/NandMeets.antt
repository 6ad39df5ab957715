-- The calls of a NAND chip keep the rules of a flash.
use Rattle.std.proofs.Common.{◌≡◌, ℕ, ◌+◌, ◌*◌, ◌/◌, ◌<◌, ◌≤◌, min, Bool, true, false, cond, not, eqb, List, [], ◌∷◌, ◌++◌, length, take, drop, replicate, None, Ok, Err, Result, sym, refl, ap, ◌∙◌, subst, mul-le-mul_right, add-mul, zero-mul, mul-div_cancel, arith, length-append, length-drop, take-append-drop, length-take}
use lib.ListN.{length-map, length-replicate}
use Rattle.std.proofs.lemmas.Nat.{le-div}
use Rattle.std.proofs.lemmas.List.{drop-drop}
use Rattle.flash.specs.declared.refusal.Refusal.{Refusal}
use Rattle.flash.specs.declared.refusal.Refusal.TheVariants.{NoPower}
use Rattle.flash.specs.Cells.{Cell, cells, over}
use Rattle.flash.specs.Extent.{extent}
use Rattle.flash.specs.Meaning.{with_at}
use Rattle.flash.specs.Refused.{program_refusal, erase_refusal}
use Rattle.flash.specs.Rules as rules
use Rattle.flash.specs.Rules.{erased, Programmed, Erased, Restarted, Passed, Failed}
use Rattle.flash.proofs.Batches.{whole_batches}
use Rattle.flash.proofs.Extents.{extent_rises, extent_within_run}
use Rattle.flash.proofs.Refusals.{accepted, place_inside}
use Rattle.devices.specs.declared.supply.Cut.{Cut}
use Rattle.devices.specs.declared.supply.Supply.{Supply}
use Rattle.devices.specs.declared.supply.Supply.TheVariants.{Steady, Off}
use Rattle.devices.specs.Steps.{spent, arming}
use Rattle.devices.specs.Memory.{part_of, ored, cut_run, laid, wiped}
use Rattle.devices.specs.Bank.{chip, Outcome, outcome, rearmed}
use Rattle.devices.specs.Sizes.{size_of}
use Rattle.devices.specs.Pages.{page_cells, shown_by, pages_used, mark_of, odd, cut_pages, lost_by, flags_laid, flags_wiped}
use Rattle.devices.specs.Nand.{nand, blocks_of, block_of, nand_program, nand_erase}
use Rattle.devices.specs.Sane.{part_full}
use Rattle.devices.specs.SanePages.{page_long, shown_long, used_long, bytes_there, flags_there}
use Rattle.devices.proofs.Blocks.{part_over, over_long, part_anew, anew_long}
use Rattle.devices.proofs.Cuts.{cut_page_long, cut_run_long}
use Rattle.devices.proofs.Meets as meets
use Rattle.devices.proofs.Rows.{cells_blank}
use Rattle.devices.proofs.Shown.{page_spoilt, shown_over, used_over, shown_clear, shown_cut, pages_spoilt, used_erased}
use Rattle.devices.proofs.Supplies.{cut_fits, cut_before}

-- two functions, each changed at b
pair_at : {X Y : Type 0} (v : Bool) (x x' : X) (y y' : Y) → ◌≡◌ {A = X × Y} (cond v x x', cond v y y') (cond v (x, y) (x', y'))
pair_at true x x' y y' = refl
pair_at false x x' y y' = refl

-- the flags and the bytes of the blocks, once those of the block b are changed
blocks_as : (p : ℕ) (mem mem' : List ℕ) (fs fs' gs : List Bool) (xs : List ℕ) (b : ℕ)
    → ((i : ℕ) → part_of 8 fs' i ≡ with_at (part_of 8 fs) b gs i) → ((i : ℕ) → part_of (size_of p) mem' i ≡ with_at (part_of (size_of p) mem) b xs i)
    → (i : ℕ) → block_of p mem' fs' i ≡ with_at (block_of p mem fs) b (gs, xs) i
blocks_as p mem mem' fs fs' gs xs b f g i = (λ t. (f i t, g i t)) ∙ pair_at (eqb i b) gs (part_of 8 fs i) xs (part_of (size_of p) mem i)

many : (p : ℕ) (mem mem' : List ℕ) (fs fs' : List Bool) → length mem' ≡ length mem → length fs' ≡ length fs → blocks_of p mem' fs' ≡ blocks_of p mem fs
many p mem mem' fs fs' e d = λ t. min (e t / size_of p) (min (d t / 8) 16)

-- what a run shows of which a page fails
torn_is : (p : ℕ) (c : Cut) (run : List ℕ) → length (take (c.after * p) run) ≡ c.after * p → length (ored c.fault (take p (drop (c.after * p) run))) ≡ p
    → shown_by p (cut_pages c) (cut_run p c run) ≡ cells (take (c.after * p) run) ++ page_cells (odd c.fault) (ored c.fault (take p (drop (c.after * p) run)))
unfolding cut_run
torn_is p c run e l = shown_cut p c.after (odd c.fault) (take (c.after * p) run) (ored c.fault (take p (drop (c.after * p) run))) e l

-- ─── program ───

module _ (p : ℕ) (pos : 0 < p) (mem : List ℕ) (fs : List Bool) (s : Supply) (b o : ℕ) (run : List ℕ)
    (none : program_refusal (nand p mem fs s) b o (length run) ≡ None) where
  F : List Bool
  F = part_of 8 fs b

  X : List ℕ
  X = part_of (size_of p) mem b

  S : List Cell
  S = shown_by p F X

  -- the run begins at the page k of the block, and has m pages
  k : ℕ
  k = o / p

  m : ℕ
  m = length run / p

  record Fit : Type 0 where
    fits : b * size_of p + size_of p ≤ length mem
    there : b * 8 + 8 ≤ length fs
    inside : o + length run ≤ 8 * p
    at_page : k * p ≡ o
    of_pages : m * p ≡ length run
    pages : k + m ≤ 8
    low : extent not (pages_used p F X) ≤ k
    eight : length F ≡ 8
    full : length X ≡ length F * p
    shown_full : length S ≡ 8 * p

  fit : Fit
  unfolding nand chip F X S k m mark_of
  fit =
      let a = accepted (nand p mem fs s) b o (length run) none in
      let f = bytes_there p mem fs b a.there in
      let t = flags_there p mem fs b a.there in
      let at = whole_batches o p a.o_pages in
      let of = whole_batches (length run) p a.n_pages in
      let e = part_full 8 fs b t in
      let u : length (part_of (size_of p) mem b) ≡ length (part_of 8 fs b) * p = part_full (size_of p) mem b f ∙ ap (λ n. n * p) (sym e) in
      let sum : (o / p + length run / p) * p ≤ 8 * p = omega (arith, add-mul (o / p) (length run / p) p, a.fits) in
      record {
        fits = f;
        there = t;
        inside = a.fits;
        at_page = at;
        of_pages = of;
        pages = subst (λ n. o / p + length run / p ≤ n) (mul-div_cancel 8 pos) (le-div (o / p + length run / p) (8 * p) p pos sum);
        low = le-div (extent not (pages_used p (part_of 8 fs b) (part_of (size_of p) mem b))) o p pos a.above;
        eight = e;
        full = u;
        shown_full = shown_long p (part_of 8 fs b) (part_of (size_of p) mem b) u ∙ ap (λ n. n * p) e;
      }

  -- what the block shows once pages were laid from o on
  laid_shown : (gs : List Bool) (ys : List ℕ) → length ys ≡ length gs * p → k + length gs ≤ 8 → shown_by p (over F k gs) (over X o ys) ≡ over S o (shown_by p gs ys)
  unfolding S
  laid_shown gs ys full' h =
      let f = fit in
      ap (λ n. shown_by p (over F k gs) (over X n ys)) (sym f.at_page)
      ∙ (shown_over p F gs X ys k f.full full' (omega (arith, f.eight)) ∙ ap (λ n. over (shown_by p F X) n (shown_by p gs ys)) f.at_page)

  laid_used : (gs : List Bool) (ys : List ℕ) → length ys ≡ length gs * p → k + length gs ≤ 8 → pages_used p (over F k gs) (over X o ys) ≡ over (pages_used p F X) k (pages_used p gs ys)
  laid_used gs ys full' h =
      let f = fit in
      ap (λ n. pages_used p (over F k gs) (over X n ys)) (sym f.at_page) ∙ used_over p F gs X ys k f.full full' (omega (arith, f.eight))

  gs : List Bool
  gs = replicate m false

  gs_long : length gs ≡ m
  unfolding gs
  gs_long = length-replicate m false

  gs_full : length run ≡ length gs * p
  gs_full = sym fit.of_pages ∙ ap (λ n. n * p) (sym gs_long)

  gs_fit : k + length gs ≤ 8
  gs_fit = omega (arith, gs_long, fit.pages)

  shown_run : shown_by p (over F k gs) (over X o run) ≡ over S o (cells run)
  unfolding gs
  shown_run = laid_shown gs run gs_full gs_fit ∙ ap (over S o) (shown_clear p m run (sym fit.of_pages))

  us : List Bool
  us = pages_used p F X

  us_full : length us ≡ 8
  unfolding us
  us_full = used_long p F X fit.full ∙ fit.eight

  run_used : length (pages_used p gs run) ≡ m
  run_used = used_long p gs run gs_full ∙ gs_long

  mark_is : mark_of p (over F k gs) (over X o run) ≡ extent not (over us k (pages_used p gs run)) * p
  unfolding mark_of us
  mark_is = ap (λ (l : List Bool). extent not l * p) (laid_used gs run gs_full gs_fit)

  mark_from : mark_of p F X ≤ mark_of p (over F k gs) (over X o run)
  unfolding mark_of us
  mark_from =
      subst (λ n. extent not (pages_used p F X) * p ≤ n) (sym mark_is)
      (mul-le-mul_right p (extent_rises not us (pages_used p gs run) k (omega (arith, us_full, run_used, fit.pages)) fit.low))

  mark_to : mark_of p (over F k gs) (over X o run) ≤ o + length run
  unfolding us
  mark_to =
      let f = fit in
      let l : extent not (over us k (pages_used p gs run)) ≤ k + m = omega (arith, run_used, extent_within_run not us (pages_used p gs run) k (omega (arith, us_full, run_used, f.pages)) f.low) in
      subst (λ n. n ≤ o + length run) (sym mark_is) (omega (arith, mul-le-mul_right p l, add-mul k m p, f.at_page, f.of_pages))

  pub passed : (s' : Supply) → Ok s' ≡ spent s (length run / p)
      → Passed (nand p mem fs s) b o run (nand p (over mem (b * size_of p + o) run) (over fs (b * 8 + o / p) (replicate (length run / p) false)) s')
  unfolding nand F X S k m gs
  passed s' h =
      let f = fit in
      meets.program_done (λ x. shown_by p x.0 x.1) (λ x. mark_of p x.0 x.1) (blocks_of p mem fs) (size_of p) p (block_of p mem fs) s b _ _ (over F k gs, over X o run)
      (many p mem _ fs _ (over_long (size_of p) mem run b o f.inside f.fits) (over_long 8 fs gs b k gs_fit f.there))
      (blocks_as p mem _ fs _ (over F k gs) (over X o run) b (part_over 8 fs gs b k gs_fit f.there) (part_over (size_of p) mem run b o f.inside f.fits))
      o run none s' h shown_run f.shown_full mark_from mark_to

  -- the page c.after of the run fails
  pub failed : (c : Cut) → Err c ≡ spent s (length run / p)
      → Failed (nand p mem fs s) b o run (nand p (over mem (b * size_of p + o) (cut_run p c run)) (over fs (b * 8 + o / p) (cut_pages c)) Off)
  unfolding nand F X S k m
  failed c h =
      let f = fit in
      let w = c.after * p in
      let t = odd c.fault in
      let sp = ored c.fault (take p (drop w run)) in
      let hs = cut_pages c in
      let ys = cut_run p c run in
      let lw = cut_fits p s c (length run) h in
      let sp_long : length sp ≡ p = cut_page_long p c run lw in
      let hs_long : length hs ≡ c.after + 1 = length-append (replicate c.after false) (t ∷ []) ∙ ap (λ n. n + 1) (length-replicate c.after false) in
      let ys_long : length ys ≡ w + p = cut_run_long p c run lw in
      let ys_full : length ys ≡ length hs * p = ys_long ∙ omega (arith, ap (λ n. n * p) hs_long, add-mul c.after 1 p) in
      let hs_fit : k + length hs ≤ 8 = omega (arith, hs_long, f.pages, cut_before s (length run / p) c h) in
      let inside : o + length ys ≤ size_of p = omega (arith, ys_long, lw, f.inside) in
      let torn : shown_by p hs ys ≡ cells (take w run) ++ page_cells t sp = torn_is p c run (simp length-take (omega (arith, lw))) sp_long in
      meets.program_failed (λ x. shown_by p x.0 x.1) (λ x. mark_of p x.0 x.1) (blocks_of p mem fs) (size_of p) p (block_of p mem fs) s b _ _ (over F k hs, over X o ys)
      (many p mem _ fs _ (over_long (size_of p) mem ys b o inside f.fits) (over_long 8 fs hs b k hs_fit f.there))
      (blocks_as p mem _ fs _ (over F k hs) (over X o ys) b (part_over 8 fs hs b k hs_fit f.there) (part_over (size_of p) mem ys b o inside f.fits))
      o run none pos c h (page_cells t sp) (subst (λ n. rules.Spoilt n (page_cells t sp)) sp_long (page_spoilt t sp)) (page_long t sp ∙ sp_long)
      (laid_shown hs ys ys_full hs_fit ∙ ap (over S o) torn) f.shown_full

pub program_meets : (p : ℕ) → 0 < p → (mem : List ℕ) (fs : List Bool) (s : Supply) (b o : ℕ) (run : List ℕ) (out : Outcome (List ℕ × List Bool))
    → out ≡ nand_program p mem fs s b o run → Programmed (nand p mem fs s) b o run out.answer (nand p out.state.0 out.state.1 out.supply)
unfolding nand_program
program_meets p pos mem fs s b o run out is =
    meets.program_meets (λ x t. nand p x.0 x.1 t) (mem, fs) s out b o run
    (λ r. (laid p mem (b * size_of p + o) run r, flags_laid fs (b * 8 + o / p) (length run / p) r)) (length run / p) is
    (passed p pos mem fs s b o run) (failed p pos mem fs s b o run)

-- ─── erase ───

-- a part laid where it was
over_same : {X : Type 0} (xs : List X) (a n : ℕ) → a + n ≤ length xs → over xs a (take n (drop a xs)) ≡ xs
over_same xs a n h =
    let l : length (take n (drop a xs)) ≡ n = simp (length-take, length-drop) (omega arith) in
    ap (λ m. take a xs ++ (take n (drop a xs) ++ drop (a + m) xs)) l
    ∙ (ap (λ r. take a xs ++ (take n (drop a xs) ++ r)) (sym (drop-drop n a xs))
    ∙ (ap (λ r. take a xs ++ r) (take-append-drop n (drop a xs)) ∙ take-append-drop a xs))

module _ (p : ℕ) (mem : List ℕ) (fs : List Bool) (s : Supply) (b : ℕ) (none : erase_refusal (nand p mem fs s) b ≡ None) where
  fits : b * size_of p + size_of p ≤ length mem
  unfolding nand chip
  fits = bytes_there p mem fs b (place_inside (nand p mem fs s) b 0 0 none).there

  there : b * 8 + 8 ≤ length fs
  unfolding nand chip
  there = flags_there p mem fs b (place_inside (nand p mem fs s) b 0 0 none).there

  pub wiped_is : (s' : Supply) → Ok s' ≡ spent s 1
      → nand p (over mem (b * size_of p) (replicate (size_of p) 255)) (over fs (b * 8) (replicate 8 false)) s' ≡ erased (nand p mem fs s) b
  unfolding nand mark_of
  wiped_is s' h =
      let ys = replicate {A = ℕ} (8 * p) 255 in
      let l : length ys ≡ 8 * p = length-replicate {A = ℕ} (8 * p) 255 in
      meets.erase_done (λ x. shown_by p x.0 x.1) (λ x. mark_of p x.0 x.1) (blocks_of p mem fs) (size_of p) p (block_of p mem fs) s b _ _ (replicate 8 false, ys)
      (many p mem _ fs _ (anew_long (size_of p) mem ys b l fits) (anew_long 8 fs (replicate 8 false) b refl there))
      (blocks_as p mem _ fs _ (replicate 8 false) ys b (part_anew 8 fs (replicate 8 false) b refl there) (part_anew (size_of p) mem ys b l fits))
      s' h (shown_clear p 8 ys l ∙ cells_blank (8 * p)) (ap (λ n. n * p) (used_erased p 8) ∙ zero-mul p)

  spoilt : (c : Cut) → Err c ≡ spent s 1 → (gs : List Bool) → length gs ≡ 8
      → Erased (nand p mem fs s) b (Err NoPower) (nand p (over mem (b * size_of p) (ored c.fault (part_of (size_of p) mem b))) (over fs (b * 8) gs) Off)
  unfolding nand
  spoilt c h gs eight =
      let xs = part_of (size_of p) mem b in
      let ys = ored c.fault xs in
      let l : length ys ≡ 8 * p = length-map _ _ ∙ part_full (size_of p) mem b fits in
      let g : length gs * p ≡ 8 * p = ap (λ n. n * p) eight in
      let e : length (part_of 8 fs b) ≡ 8 = part_full 8 fs b there in
      let old : length (shown_by p (part_of 8 fs b) xs) ≡ length gs * p =
      shown_long p (part_of 8 fs b) xs (part_full (size_of p) mem b fits ∙ ap (λ n. n * p) (sym e)) ∙ ap (λ n. n * p) (e ∙ sym eight) in
      meets.erase_failed (λ x. shown_by p x.0 x.1) (λ x. mark_of p x.0 x.1) (blocks_of p mem fs) (size_of p) p (block_of p mem fs) s b _ _ (gs, ys)
      (many p mem _ fs _ (anew_long (size_of p) mem ys b l fits) (anew_long 8 fs gs b eight there))
      (blocks_as p mem _ fs _ gs ys b (part_anew 8 fs gs b eight there) (part_anew (size_of p) mem ys b l fits))
      none c h (shown_long p gs ys (l ∙ sym g) ∙ g) (pages_spoilt p gs ys (shown_by p (part_of 8 fs b) xs) (l ∙ sym g) old)

  lost_is : (t : Bool) → (gs : List Bool) × (length gs ≡ 8) × (over fs (b * 8) gs ≡ lost_by t fs b)
  lost_is true = (replicate 8 true, refl, refl)
  lost_is false = (part_of 8 fs b, part_full 8 fs b there, over_same fs (b * 8) 8 there)

  pub spoilt_is : (c : Cut) → Err c ≡ spent s 1
      → Erased (nand p mem fs s) b (Err NoPower) (nand p (over mem (b * size_of p) (ored c.fault (part_of (size_of p) mem b))) (lost_by (odd c.fault) fs b) Off)
  spoilt_is c h =
      let g = lost_is (odd c.fault) in
      subst (λ (l : List Bool). Erased (nand p mem fs s) b (Err NoPower) (nand p (over mem (b * size_of p) (ored c.fault (part_of (size_of p) mem b))) l Off)) g.2
      (spoilt c h g.0 g.1)

pub erase_meets : (p : ℕ) (mem : List ℕ) (fs : List Bool) (s : Supply) (b : ℕ) (out : Outcome (List ℕ × List Bool)) → out ≡ nand_erase p mem fs s b
    → Erased (nand p mem fs s) b out.answer (nand p out.state.0 out.state.1 out.supply)
unfolding nand_erase
erase_meets p mem fs s b out is =
    meets.erase_meets (λ x t. nand p x.0 x.1 t) (mem, fs) s out b (λ r. (wiped (size_of p) mem b r, flags_wiped fs b r)) is (wiped_is p mem fs s b) (spoilt_is p mem fs s b)

-- ─── arm and restart ───

-- flags beside what an arming leaves
armed_beside : (mem : List ℕ) (fs : List Bool) (s : Supply) (x : Result Supply Refusal) → outcome {X = List ℕ × List Bool} (rearmed mem s x).answer ((rearmed mem s x).state, fs) (rearmed mem s x).supply ≡ rearmed (mem, fs) s x
armed_beside mem fs s (Ok s') = refl
armed_beside mem fs s (Err e) = refl

pub arm_meets : (p : ℕ) (mem : List ℕ) (fs : List Bool) (s : Supply) (n j : ℕ) (r : rules.Answer) (mem' : List ℕ) (s' : Supply) → outcome r mem' s' ≡ rearmed mem s (arming s n j)
    → rules.Armed (nand p mem fs s) r (nand p mem' fs s')
unfolding nand
arm_meets p mem fs s n j r mem' s' is =
    meets.arm_meets (λ x. shown_by p x.0 x.1) (λ x. mark_of p x.0 x.1) (blocks_of p mem fs) (size_of p) p (block_of p mem fs) s
    (λ x t. nand p x.0 x.1 t) (mem, fs) (λ t. refl) n j (outcome r (mem', fs) s')
    (ap (λ o. outcome {X = List ℕ × List Bool} o.answer (o.state, fs) o.supply) is ∙ armed_beside mem fs s (arming s n j))

pub restart_meets : (p : ℕ) (mem : List ℕ) (fs : List Bool) (s : Supply) → Restarted (nand p mem fs s) (nand p mem fs Steady)
unfolding nand
restart_meets p mem fs s = meets.restart_meets (λ x. shown_by p x.0 x.1) (λ x. mark_of p x.0 x.1) (blocks_of p mem fs) (size_of p) p (block_of p mem fs) s
