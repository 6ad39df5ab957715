-- What reaches a chip of a run of pages, one of which fails.
use Rattle.std.proofs.Common.{◌≡◌, ℕ, ◌+◌, ◌-◌, ◌*◌, ◌/◌, ◌≤◌, List, ◌++◌, length, take, drop, Ok, Err, Result, ap, ◌∙◌, suc-mul, add-one, arith, length-append, length-drop, length-take}
use lib.ListN.{length-map}
use Rattle.std.proofs.lemmas.List.{take-take, drop-take}
use borrow.Rule.Slice.PartMut.{put_mid}
use Rattle.flash.specs.Cells.{over}
use Rattle.devices.specs.declared.supply.Cut.{Cut}
use Rattle.devices.specs.declared.supply.Supply.{Supply}
use Rattle.devices.specs.Steps.{spent, taken}
use Rattle.devices.specs.Memory.{ored, cut_run}
use Rattle.devices.proofs.Rows.{put_over}
use Rattle.devices.proofs.Supplies.{cut_fits}

module _ (page : ℕ) (c : Cut) (run : List ℕ) (fits : c.after * page + page ≤ length run) where
  pub cut_page_long : length (ored c.fault (take page (drop (c.after * page) run))) ≡ page
  cut_page_long = length-map _ _ ∙ simp (length-take, length-drop) (omega arith)

  pub cut_run_long : length (cut_run page c run) ≡ c.after * page + page
  unfolding cut_run
  cut_run_long =
      omega (arith, length-append (take (c.after * page) run) (ored c.fault (take page (drop (c.after * page) run))), length-take (c.after * page) run, cut_page_long)

  -- the run up to the end of that page was copied, and its last page spoilt
  pub cut_run_is : (ys bs : List ℕ) (end : ℕ) → end ≡ c.after * page + page → bs ≡ take end run
      → ys ≡ take (length bs - page) bs ++ ored c.fault (drop (length bs - page) bs) → ys ≡ cut_run page c run
  unfolding cut_run
  cut_run_is ys bs end ee eb ey =
      let a = c.after * page in
      let lb : length bs ≡ end = ap length eb ∙ simp length-take (omega arith) in
      let w : length bs - page ≡ a = omega arith in
      let front : take a bs ≡ take a run = ap (take a) eb ∙ take-take a end run (omega arith) in
      let back : drop a bs ≡ take page (drop a run) = ap (drop a) (eb ∙ ap (λ n. take n run) ee) ∙ drop-take a page run in
      ey ∙ (ap (λ n. take n bs ++ ored c.fault (drop n bs)) w ∙ (ap (λ (l : List ℕ). l ++ ored c.fault (drop a bs)) front
      ∙ ap (λ (l : List ℕ). take a run ++ ored c.fault l) back))

-- the failure in one of the pages of a run
pub cut_of : (s : Supply) (n : ℕ) (c : Cut) → Err c ≡ taken (spent s n) → Err c ≡ spent s n
cut_of s n c h = go (spent s n) h
  where
    go : (x : Result Supply Cut) → Err c ≡ taken x → Err c ≡ x
    go (Ok t) h = absurd (cc)
    go (Err d) h = cc

-- what the code lays of a run of which a page fails
pub laid_cut : (page : ℕ) (s : Supply) (c : Cut) (mem : List ℕ) (from : ℕ) (run ys bs : List ℕ) (end : ℕ) → Err c ≡ taken (spent s (length run / page)) → end ≡ (c.after + 1) * page
    → bs ≡ take end run → ys ≡ take (length bs - page) bs ++ ored c.fault (drop (length bs - page) bs)
    → put_mid from (from + end - from) mem ys ≡ over mem from (cut_run page c run)
laid_cut page s c mem from run ys bs end h ee eb ey =
    let e : end ≡ c.after * page + page = ee ∙ (ap (λ m. m * page) (add-one c.after) ∙ suc-mul c.after page) in
    let le = cut_fits page s c (length run) (cut_of s (length run / page) c h) in
    let is = cut_run_is page c run le ys bs end e eb ey in
    let long : length ys ≡ from + end - from = ap length is ∙ (cut_run_long page c run le ∙ omega arith) in
    put_over from (from + end - from) mem ys long ∙ ap (over mem from) is
