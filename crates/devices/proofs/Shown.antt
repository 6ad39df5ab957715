-- What a block shows, and how far it is used.
use Rattle.std.proofs.Common.{◌≡◌, ℕ, zero, suc, ◌+◌, ◌*◌, ◌<◌, ◌≤◌, Bool, true, false, not, eqb, ltb, List, [], ◌∷◌, ◌++◌, length, get_or, take, drop, replicate, sym, refl, ap, ◌∙◌, ⊎_elim, append-nil, add-zero, mul-le-mul_right, suc-mul, zero-mul, mul-one, arith, length-drop, length-take}
use lib.ListN.{length-replicate}
use Rattle.std.proofs.lemmas.List.{get_or-take, get_or-drop, take_all, drop_all, map-append, take-append-drop, take-replicate, drop-replicate}
use Rattle.std.proofs.lemmas.Bool.{cases_lt}
use Rattle.flash.specs.Cells.{Cell, byte, cells, over}
use Rattle.flash.specs.Rules as rules
use Rattle.flash.specs.Extent.{extent, used}
use Rattle.flash.proofs.Extents.{extent_empty}
use Rattle.devices.specs.Pages.{by_pages, page_cells, shown_by, page_used, pages_used}
use Rattle.devices.specs.SanePages.{cells_long, one_long, shown_long}
use Rattle.devices.proofs.ByPages.{by_pages_append, by_pages_drop, by_pages_at, by_pages_over}

-- ─── one page ───

pub page_spoilt : (f : Bool) (ys : List ℕ) → rules.Spoilt (length ys) (page_cells f ys)
page_spoilt true ys = rules.Spoilt.unreadable refl
page_spoilt false ys = rules.Spoilt.bytes ys refl refl

-- ─── a block ───

module _ (p : ℕ) where
  pub shown_append : (fs gs : List Bool) (xs ys : List ℕ) → length xs ≡ length fs * p → shown_by p (fs ++ gs) (xs ++ ys) ≡ shown_by p fs xs ++ shown_by p gs ys
  unfolding shown_by
  shown_append fs gs xs ys h = by_pages_append page_cells p p (cells_long p) fs gs xs ys h

  pub shown_drop : (fs : List Bool) (xs : List ℕ) → length xs ≡ length fs * p → (k : ℕ) → k ≤ length fs
      → drop (k * p) (shown_by p fs xs) ≡ shown_by p (drop k fs) (drop (k * p) xs)
  unfolding shown_by
  shown_drop fs xs full k h = by_pages_drop page_cells p p (cells_long p) fs xs full k h

  module _ (fs gs : List Bool) (xs ys : List ℕ) (k : ℕ) (full : length xs ≡ length fs * p) (full' : length ys ≡ length gs * p) (h : k + length gs ≤ length fs) where
    pub shown_over : shown_by p (over fs k gs) (over xs (k * p) ys) ≡ over (shown_by p fs xs) (k * p) (shown_by p gs ys)
    unfolding shown_by
    shown_over = by_pages_over page_cells p p (cells_long p) fs gs xs ys k full full' h

    pub used_over : pages_used p (over fs k gs) (over xs (k * p) ys) ≡ over (pages_used p fs xs) k (pages_used p gs ys)
    unfolding pages_used
    used_over =
        by_pages_over (λ f zs. page_used f zs ∷ []) p 1 (one_long p) fs gs xs ys k full full' h
        ∙ ap (λ n. over (by_pages (λ f zs. page_used f zs ∷ []) p fs xs) n (by_pages (λ f zs. page_used f zs ∷ []) p gs ys)) (mul-one k)

  -- pages that can be read
  pub shown_clear : (m : ℕ) (ys : List ℕ) → length ys ≡ m * p → shown_by p (replicate m false) ys ≡ cells ys
  unfolding shown_by
  shown_clear zero ys h = sym (empty ys (h ∙ zero-mul p))
    where
      empty : (ys : List ℕ) → length ys ≡ 0 → cells ys ≡ []
      empty [] h = refl
      empty (y ∷ ys) h = absurd (omega (arith, h))
  shown_clear (suc m) ys h =
      let k : length ys ≡ m * p + p = h ∙ suc-mul m p in
      let r : length (drop p ys) ≡ m * p = simp length-drop (omega arith) in
      ap (λ (l : List Cell). cells (take p ys) ++ l) (shown_clear m (drop p ys) r)
      ∙ (sym (map-append byte (take p ys) (drop p ys)) ∙ ap cells (take-append-drop p ys))

  pub shown_one : (t : Bool) (ys : List ℕ) → length ys ≡ p → shown_by p (t ∷ []) ys ≡ page_cells t ys
  unfolding shown_by
  shown_one t ys h = append-nil (page_cells t (take p ys)) ∙ ap (page_cells t) (take_all p ys (omega arith))

  -- pages that can be read, and then one more
  pub shown_cut : (a : ℕ) (t : Bool) (ws sp : List ℕ) → length ws ≡ a * p → length sp ≡ p
      → shown_by p (replicate a false ++ (t ∷ [])) (ws ++ sp) ≡ cells ws ++ page_cells t sp
  shown_cut a t ws sp h l =
      shown_append (replicate a false) (t ∷ []) ws sp (h ∙ ap (λ n. n * p) (sym (length-replicate a false)))
      ∙ rw (shown_clear a ws h, shown_one t sp l)

  -- the page i
  pub used_at : (fs : List Bool) (xs : List ℕ) → length xs ≡ length fs * p → (i : ℕ) → i < length fs
      → get_or (pages_used p fs xs) i false ≡ page_used (get_or fs i false) (take p (drop (i * p) xs))
  unfolding pages_used
  used_at fs xs full i h =
      let us = by_pages (λ f ys. page_used f ys ∷ []) p fs xs in
      let e : take 1 (drop (i * 1) us) ≡ page_used (get_or fs i false) (take p (drop (i * p) xs)) ∷ [] = by_pages_at (λ f ys. page_used f ys ∷ []) p 1 (one_long p) fs xs full i h in
      sym (ap (λ n. get_or us n false) (add-zero i))
      ∙ (sym (get_or-drop i us 0 false) ∙ (sym (get_or-take 1 (drop i us) 0 false (omega arith))
      ∙ (ap (λ n. get_or (take 1 (drop n us)) 0 false) (sym (mul-one i)) ∙ ap (λ (l : List Bool). get_or l 0 false) e)))

  shown_page : (fs : List Bool) (xs : List ℕ) → length xs ≡ length fs * p → (i : ℕ) → i < length fs
      → take p (drop (i * p) (shown_by p fs xs)) ≡ page_cells (get_or fs i false) (take p (drop (i * p) xs))
  unfolding shown_by
  shown_page fs xs full i h = by_pages_at page_cells p p (cells_long p) fs xs full i h

  -- each batch of a block is spoilt, whatever it was, if it was made anew page by page
  pub pages_spoilt : (gs : List Bool) (ys : List ℕ) (old : List Cell) → length ys ≡ length gs * p → length old ≡ length gs * p
      → (i : ℕ) → rules.Spoilt (length (take p (drop (i * p) old))) (take p (drop (i * p) (shown_by p gs ys)))
  pages_spoilt gs ys old full long i =
      ⊎_elim
      (λ (lt : i < length gs).
      let P = take p (drop (i * p) ys) in
      let m = mul-le-mul_right p lt in
      let lp : length (take p (drop (i * p) old)) ≡ length P = simp (length-take, length-drop) (omega arith) in
      rw (lp, shown_page gs ys full i lt) (page_spoilt (get_or gs i false) P))
      (λ (ge : length gs ≤ i).
      let m = mul-le-mul_right p ge in
      let none : (xs : List Cell) → length xs ≡ length gs * p → take p (drop (i * p) xs) ≡ [] = λ xs l.
      ap (take p) (drop_all (i * p) xs (omega arith)) ∙ take_all p [] (omega arith) in
      rw (none old long, none (shown_by p gs ys) (shown_long p gs ys full)) (rules.Spoilt.bytes [] refl refl))
      (cases_lt i (length gs))

-- ─── how far a block is used ───

module _ (p : ℕ) where
  -- an erased block is not used
  pub used_erased : (m : ℕ) → extent not (pages_used p (replicate m false) (replicate (m * p) 255)) ≡ 0
  unfolding pages_used
  used_erased zero = refl
  used_erased (suc m) =
      let n : suc m * p ≡ m * p + p = suc-mul m p in
      let t : take p (replicate {A = ℕ} (suc m * p) 255) ≡ replicate p 255 = take-replicate {X = ℕ} p (suc m * p) 255 (omega arith) in
      let d : drop p (replicate {A = ℕ} (suc m * p) 255) ≡ replicate (m * p) 255 = drop-replicate {X = ℕ} p (suc m * p) 255 ∙ ap (λ k. replicate k 255) (omega arith) in
      let u : used (replicate p 255) ≡ 0 = extent_empty (λ x. eqb x 255) p 255 refl in
      rw (t, d, u, used_erased m)

-- ─── whether a page is used, as the code finds it ───

module _ (p : ℕ) (fs : List Bool) (xs : List ℕ) (full : length xs ≡ length fs * p) (i : ℕ) (there : i < length fs) where
  pub used_lost : get_or fs i false ≡ true → get_or fs i false ≡ get_or (pages_used p fs xs) i false
  used_lost e = sym (used_at p fs xs full i there ∙ (rw e))

  pub used_bytes : (n r : ℕ) → get_or fs i false ≡ false → n ≡ p → r ≡ used (take n (drop (i * p) xs)) → ltb 0 r ≡ get_or (pages_used p fs xs) i false
  used_bytes n r e is h = sym (used_at p fs xs full i there ∙ rw (e, h, is))
