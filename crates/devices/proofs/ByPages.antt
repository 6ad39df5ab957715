-- Rows made page by page.
use Rattle.std.proofs.Common.{◌≡◌, ℕ, ◌+◌, ◌*◌, ◌<◌, ◌≤◌, min, Bool, false, List, [], ◌∷◌, ◌++◌, length, get_or, take, drop, sym, ap, ◌∙◌, append_assoc, mul-le-mul_right, suc-mul, add-mul, one-mul, zero-mul, arith, length-drop, take-append-drop, length-take}
use Rattle.std.proofs.lemmas.List.{take_at, drop_at, drop_more, take-append-le, drop-append-le, nil_from_length}
use Rattle.flash.specs.Cells.{over}
use Rattle.devices.specs.Pages.{by_pages}
use Rattle.devices.specs.SanePages.{by_pages_long}

-- g makes q elements of each page of p bytes
module _ {Y : Type 0} (g : Bool → List ℕ → List Y) (p q : ℕ) (long : (f : Bool) (ys : List ℕ) → length ys ≡ p → length (g f ys) ≡ q) where
  pub by_pages_append : (fs gs : List Bool) (xs ys : List ℕ) → length xs ≡ length fs * p
      → by_pages g p (fs ++ gs) (xs ++ ys) ≡ by_pages g p fs xs ++ by_pages g p gs ys
  by_pages_append [] gs xs ys h =
      let e : xs ≡ [] = nil_from_length xs (h ∙ zero-mul p) in
      ap (λ (l : List ℕ). by_pages g p gs (l ++ ys)) e
  by_pages_append (f ∷ fs) gs xs ys h =
      let k : length xs ≡ length fs * p + p = h ∙ suc-mul (length fs) p in
      let t : take p (xs ++ ys) ≡ take p xs = take-append-le p xs ys (omega arith) in
      let d : drop p (xs ++ ys) ≡ drop p xs ++ ys = drop-append-le p xs ys (omega arith) in
      let r : length (drop p xs) ≡ length fs * p = simp length-drop (omega arith) in
      ap (λ (l : List ℕ). g f l ++ by_pages g p (fs ++ gs) (drop p (xs ++ ys))) t
      ∙ (ap (λ (l : List ℕ). g f (take p xs) ++ by_pages g p (fs ++ gs) l) d
      ∙ (ap (λ (l : List Y). g f (take p xs) ++ l) (by_pages_append fs gs (drop p xs) ys r)
      ∙ sym (append_assoc (g f (take p xs)) (by_pages g p fs (drop p xs)) (by_pages g p gs ys))))

  -- the first k pages, and the others
  module _ (fs : List Bool) (xs : List ℕ) (full : length xs ≡ length fs * p) (k : ℕ) (h : k ≤ length fs) where
    within : k * p ≤ length xs
    within = omega (arith, mul-le-mul_right p h)

    front_long : length (take (k * p) xs) ≡ length (take k fs) * p
    front_long = simp length-take (rw (min_is k (length fs) h, min_is (k * p) (length xs) within))
      where
        min_is : (a b : ℕ) → a ≤ b → min a b ≡ a
        min_is a b l = omega arith

    split : by_pages g p fs xs ≡ by_pages g p (take k fs) (take (k * p) xs) ++ by_pages g p (drop k fs) (drop (k * p) xs)
    split =
        ap (λ (l : List Bool). by_pages g p l xs) (sym (take-append-drop k fs))
        ∙ (ap (λ (l : List ℕ). by_pages g p (take k fs ++ drop k fs) l) (sym (take-append-drop (k * p) xs))
        ∙ by_pages_append (take k fs) (drop k fs) (take (k * p) xs) (drop (k * p) xs) front_long)

    made_long : length (by_pages g p (take k fs) (take (k * p) xs)) ≡ k * q
    made_long =
        let n : length (take k fs) ≡ k = simp length-take (omega arith) in
        by_pages_long g p q long (take k fs) (take (k * p) xs) front_long ∙ ap (λ m. m * q) n

    pub by_pages_take : take (k * q) (by_pages g p fs xs) ≡ by_pages g p (take k fs) (take (k * p) xs)
    by_pages_take = ap (take (k * q)) split ∙ take_at _ _ (k * q) made_long

    pub by_pages_drop : drop (k * q) (by_pages g p fs xs) ≡ by_pages g p (drop k fs) (drop (k * p) xs)
    by_pages_drop = ap (drop (k * q)) split ∙ drop_at _ _ (k * q) made_long

  -- what is made of the page i
  pub by_pages_at : (fs : List Bool) (xs : List ℕ) → length xs ≡ length fs * p → (i : ℕ) → i < length fs
      → take q (drop (i * q) (by_pages g p fs xs)) ≡ g (get_or fs i false) (take p (drop (i * p) xs))
  by_pages_at fs xs full i h =
      let n : (i + 1) * p ≡ i * p + p = omega (arith, add-mul i 1 p, one-mul p) in
      let l : length (take p (drop (i * p) xs)) ≡ p = simp (length-take, length-drop) (omega (arith, mul-le-mul_right p h, suc-mul i p)) in
      ap (take q) (by_pages_drop fs xs full i (omega arith) ∙ ap (λ (r : List Bool). by_pages g p r (drop (i * p) xs)) (drop_more fs i false h))
      ∙ take_at _ _ q (long (get_or fs i false) (take p (drop (i * p) xs)) l)

  -- pages laid over others
  module _ (fs gs : List Bool) (xs ys : List ℕ) (k : ℕ) (full : length xs ≡ length fs * p) (full' : length ys ≡ length gs * p) (h : k + length gs ≤ length fs) where
    pub by_pages_over : by_pages g p (over fs k gs) (over xs (k * p) ys) ≡ over (by_pages g p fs xs) (k * q) (by_pages g p gs ys)
    by_pages_over =
        let n = k + length gs in
        let np : k * p + length ys ≡ n * p = omega (arith, add-mul k (length gs) p) in
        let nq : k * q + length (by_pages g p gs ys) ≡ n * q = omega (arith, add-mul k (length gs) q, by_pages_long g p q long gs ys full') in
        let hk : k ≤ length fs = omega arith in
        ap (λ m. by_pages g p (over fs k gs) (take (k * p) xs ++ (ys ++ drop m xs))) np
        ∙ (by_pages_append (take k fs) (gs ++ drop n fs) (take (k * p) xs) (ys ++ drop (n * p) xs) (front_long fs xs full k hk)
        ∙ (ap (λ (l : List Y). by_pages g p (take k fs) (take (k * p) xs) ++ l) (by_pages_append gs (drop n fs) ys (drop (n * p) xs) full')
        ∙ (ap (λ (l : List Y). l ++ (by_pages g p gs ys ++ by_pages g p (drop n fs) (drop (n * p) xs))) (sym (by_pages_take fs xs full k hk))
        ∙ (ap (λ (l : List Y). take (k * q) (by_pages g p fs xs) ++ (by_pages g p gs ys ++ l)) (sym (by_pages_drop fs xs full n h))
        ∙ ap (λ m. take (k * q) (by_pages g p fs xs) ++ (by_pages g p gs ys ++ drop m (by_pages g p fs xs))) (sym nq)))))
