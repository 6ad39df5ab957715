-- The calls of a NOR chip keep the rules of a flash.
use Rattle.std.proofs.Common.{◌≡◌, ℕ, ◌+◌, ◌*◌, ◌/◌, ◌%◌, ◌≤◌, List, length, take, drop, replicate, None, Ok, Err, refl, ap, ◌∙◌, arith, length-drop, length-take}
use mathlib.Core.List.{map-append}
use lib.ListN.{length-map, length-replicate}
use Rattle.flash.specs.declared.refusal.Refusal.TheVariants.{NoPower}
use Rattle.flash.specs.Cells.{byte, cells, over}
use Rattle.flash.specs.Extent.{used}
use Rattle.flash.specs.Refused.{program_refusal, erase_refusal}
use Rattle.flash.specs.Rules as rules
use Rattle.flash.specs.Rules.{erased, Programmed, Erased, Restarted, Passed, Failed}
use Rattle.flash.proofs.Refusals.{accepted, place_inside}
use Rattle.devices.specs.declared.supply.Cut.{Cut}
use Rattle.devices.specs.declared.supply.Supply.{Supply}
use Rattle.devices.specs.declared.supply.Supply.TheVariants.{Steady, Off}
use Rattle.devices.specs.Steps.{spent}
use Rattle.devices.specs.Memory.{part_of, ored, cut_run, laid, wiped}
use Rattle.devices.specs.Bank.{blocks_in, chip, Outcome}
use Rattle.devices.specs.Nor.{SIZE, mark_of, nor, nor_program, nor_erase, nor_arm}
use Rattle.devices.specs.Sane.{part_full, parts_fit, used_mark}
use Rattle.devices.proofs.Blocks.{part_over, over_long, part_anew, anew_long}
use Rattle.devices.proofs.Cuts.{cut_page_long, cut_run_long}
use Rattle.devices.proofs.Meets as meets
use Rattle.devices.proofs.NorMarks.{mark_blank, mark_rises, mark_within_run}
use Rattle.devices.proofs.Rows.{cells_over, cells_blank, part_cells}
use Rattle.devices.proofs.Supplies.{cut_fits}

module _ (mem : List ℕ) (s : Supply) (b : ℕ) where
  B : List ℕ
  B = part_of SIZE mem b

  -- ─── program ───

  module _ (o : ℕ) (run : List ℕ) (none : program_refusal (nor mem s) b o (length run) ≡ None) where
    record Fit : Type 0 where
      fits : b * SIZE + SIZE ≤ length mem
      inside : o + length run ≤ SIZE
      page_o : o % 4 ≡ 0
      page_n : length run % 4 ≡ 0
      above : used B ≤ o
      full : length B ≡ SIZE
      shown_full : length (cells B) ≡ SIZE

    fit : Fit
    unfolding nor chip B
    fit =
        let a = accepted (nor mem s) b o (length run) none in
        let h = parts_fit (length mem) b SIZE (omega (arith, a.there)) in
        let l = part_full SIZE mem b h in
        record {
          fits = h;
          inside = a.fits;
          page_o = a.o_pages;
          page_n = a.n_pages;
          above = omega (arith, used_mark (part_of SIZE mem b), a.above);
          full = l;
          shown_full = length-map (part_of SIZE mem b) byte ∙ l;
        }

    passed : (s' : Supply) → Ok s' ≡ spent s (length run / 4) → Passed (nor mem s) b o run (nor (over mem (b * SIZE + o) run) s')
    unfolding nor B
    passed s' h =
        let f = fit in
        let here : o + length run ≤ length B = omega (arith, f.full, f.inside) in
        meets.program_done cells mark_of (blocks_in SIZE (length mem)) SIZE 4 (part_of SIZE mem) s b _ _ (over B o run)
        (ap (blocks_in SIZE) (over_long SIZE mem run b o f.inside f.fits)) (part_over SIZE mem run b o f.inside f.fits) o run none s' h
        (cells_over B run o) f.shown_full (mark_rises B run o here f.above) (mark_within_run B run o here f.above f.page_o f.page_n)

    failed : (c : Cut) → Err c ≡ spent s (length run / 4) → Failed (nor mem s) b o run (nor (over mem (b * SIZE + o) (cut_run 4 c run)) Off)
    unfolding nor B cut_run
    failed c h =
        let f = fit in
        let w = c.after * 4 in
        let sp = ored c.fault (take 4 (drop w run)) in
        let lw = cut_fits 4 s c (length run) h in
        let l4 : length sp ≡ 4 = cut_page_long 4 c run lw in
        let inside : o + length (cut_run 4 c run) ≤ SIZE = omega (arith, cut_run_long 4 c run lw, lw, f.inside) in
        meets.program_failed cells mark_of (blocks_in SIZE (length mem)) SIZE 4 (part_of SIZE mem) s b _ _ (over B o (cut_run 4 c run))
        (ap (blocks_in SIZE) (over_long SIZE mem (cut_run 4 c run) b o inside f.fits)) (part_over SIZE mem (cut_run 4 c run) b o inside f.fits) o run none (omega arith) c h
        (cells sp) (rules.Spoilt.bytes sp l4 refl) (length-map sp byte ∙ l4)
        (cells_over B (cut_run 4 c run) o ∙ ap (over (cells B) o) (map-append byte (take w run) sp)) f.shown_full

  pub program_meets : (o : ℕ) (run : List ℕ) (out : Outcome (List ℕ)) → out ≡ nor_program mem s b o run
      → Programmed (nor mem s) b o run out.answer (nor out.state out.supply)
  unfolding nor_program
  program_meets o run out is = meets.program_meets nor mem s out b o run (laid 4 mem (b * SIZE + o) run) (length run / 4) is (passed o run) (failed o run)

  -- ─── erase ───

  module _ (none : erase_refusal (nor mem s) b ≡ None) where
    fits : b * SIZE + SIZE ≤ length mem
    unfolding nor chip
    fits = parts_fit (length mem) b SIZE (omega (arith, (place_inside (nor mem s) b 0 0 none).there))

    wiped_is : (s' : Supply) → Ok s' ≡ spent s 1 → nor (over mem (b * SIZE) (replicate SIZE 255)) s' ≡ erased (nor mem s) b
    unfolding nor
    wiped_is s' h =
        let l : length (replicate SIZE 255) ≡ SIZE = length-replicate {A = ℕ} SIZE 255 in
        meets.erase_done cells mark_of (blocks_in SIZE (length mem)) SIZE 4 (part_of SIZE mem) s b _ _ (replicate SIZE 255)
        (ap (blocks_in SIZE) (anew_long SIZE mem (replicate SIZE 255) b l fits)) (part_anew SIZE mem (replicate SIZE 255) b l fits) s' h (cells_blank SIZE) (mark_blank SIZE)

    spoilt : (c : Cut) → Err c ≡ spent s 1 → Erased (nor mem s) b (Err NoPower) (nor (over mem (b * SIZE) (ored c.fault (part_of SIZE mem b))) Off)
    unfolding nor
    spoilt c h =
        let xs = part_of SIZE mem b in
        let ys = ored c.fault xs in
        let same : length ys ≡ length xs = length-map _ _ in
        let l : length ys ≡ SIZE = same ∙ part_full SIZE mem b fits in
        meets.erase_failed cells mark_of (blocks_in SIZE (length mem)) SIZE 4 (part_of SIZE mem) s b _ _ ys
        (ap (blocks_in SIZE) (anew_long SIZE mem ys b l fits)) (part_anew SIZE mem ys b l fits) none c h (length-map ys byte ∙ l)
        (λ i. rules.Spoilt.bytes (take 4 (drop (i * 4) ys)) (simp (length-take, length-drop) (omega (arith, same, length-map xs byte))) (part_cells ys (i * 4) 4))

  pub erase_meets : (out : Outcome (List ℕ)) → out ≡ nor_erase mem s b → Erased (nor mem s) b out.answer (nor out.state out.supply)
  unfolding nor_erase
  erase_meets out is = meets.erase_meets nor mem s out b (wiped SIZE mem b) is wiped_is spoilt

-- ─── arm and restart ───

pub arm_meets : (mem : List ℕ) (s : Supply) (n j : ℕ) (out : Outcome (List ℕ)) → out ≡ nor_arm mem s n j → rules.Armed (nor mem s) out.answer (nor out.state out.supply)
unfolding nor
arm_meets mem s n j out is = meets.arm_meets cells mark_of (blocks_in SIZE (length mem)) SIZE 4 (part_of SIZE mem) s nor mem (λ t. refl) n j out is

pub restart_meets : (mem : List ℕ) (s : Supply) → Restarted (nor mem s) (nor mem Steady)
unfolding nor
restart_meets mem s = meets.restart_meets cells mark_of (blocks_in SIZE (length mem)) SIZE 4 (part_of SIZE mem) s
