-- A block of a NAND chip, page by page: its bytes, and for each page a flag that is set if the page cannot be read. Assumes
-- nothing.
--
-- by_pages     a row made page by page from the flags and the bytes
-- shown_by     the cells that a block shows
-- page_used    whether a page cannot be read, or is not all 0xFF
-- pages_used   for each page whether it is used
-- mark_of      the end of the last page that is used
-- odd          whether a number is odd
-- cut_pages    the flags of a run of pages, the last of which fails
-- lost_by      the flags after a failed erase of the block b, whose pages are lost if the fault was odd
-- flags_laid   the flags after a run of n pages from the page k of the chip on, done or failed
-- flags_wiped  the flags after an erase of the block b, done or failed
use Rattle.std.specs.Prelude.{ℕ, ◌*◌, ◌%◌, Bool, true, false, cond, not, List, [], ◌∷◌, ◌++◌, length, take, drop, replicate, Ok, Err, ◌==◌, nat_lt}
use Rattle.flash.specs.Cells.{Cell, lost, cells, over}
use Rattle.flash.specs.Extent.{used, extent}
use Rattle.devices.specs.declared.supply.Cut.{Cut}
use Rattle.devices.specs.Steps.{Done}

abbrev pub by_pages : {Y : Type 0} → (Bool → List ℕ → List Y) → ℕ → List Bool → List ℕ → List Y
by_pages g page [] xs = []
by_pages g page (f ∷ fs) xs = g f (take page xs) ++ by_pages g page fs (drop page xs)

abbrev pub page_cells : Bool → List ℕ → List Cell
page_cells true xs = replicate (length xs) lost
page_cells false xs = cells xs

unfoldable pub shown_by : ℕ → List Bool → List ℕ → List Cell
shown_by page fs xs = by_pages page_cells page fs xs

abbrev pub page_used : Bool → List ℕ → Bool
page_used f xs = cond f true (nat_lt 0 (used xs))

unfoldable pub pages_used : ℕ → List Bool → List ℕ → List Bool
pages_used page fs xs = by_pages (λ f ys. page_used f ys ∷ []) page fs xs

unfoldable pub mark_of : ℕ → List Bool → List ℕ → ℕ
mark_of page fs xs = extent not (pages_used page fs xs) * page

abbrev pub odd : ℕ → Bool
odd j = j % 2 == 1

abbrev pub cut_pages : Cut → List Bool
cut_pages c = replicate c.after false ++ (odd c.fault ∷ [])

abbrev pub lost_by : Bool → List Bool → ℕ → List Bool
lost_by true fs b = over fs (b * 8) (replicate 8 true)
lost_by false fs b = fs

abbrev pub flags_laid : List Bool → ℕ → ℕ → Done → List Bool
flags_laid fs k n (Ok u) = over fs k (replicate n false)
flags_laid fs k n (Err c) = over fs k (cut_pages c)

abbrev pub flags_wiped : List Bool → ℕ → Done → List Bool
flags_wiped fs b (Ok u) = over fs (b * 8) (replicate 8 false)
flags_wiped fs b (Err c) = lost_by (odd c.fault) fs b
