-- What fills a number of bytes.
use Rattle.std.proofs.Common.{◌≡◌, ℕ, zero, suc, ◌-◌, ◌*◌, ◌/◌, ◌%◌, ◌^◌, ◌<◌, ◌≤◌, Bool, true, false, cond, leb, List, [], ◌∷◌, ◌++◌, length, drop, replicate, sym, refl, ap, ◌∙◌, append_assoc, append-nil, arith}
use lib.ListN.{length-replicate}
use Rattle.std.proofs.lemmas.List.{length-append, drop-append-le, drop-replicate}
use Rattle.std.proofs.lemmas.Bool.{leb-true, cond-true, cond-false, le-leb, lt-leb}
use Rattle.flash.specs.Cells.{over}
use Rattle.nodes.specs.Items.{size}
use Rattle.encode.specs.Encode.{spread, zero_word, padding, head, filling}
use Rattle.encode.specs.Laid.{AllWellFormed, laid, run}
use Rattle.encode.specs.Laws.{Fillers, Fills}
use Rattle.encode.proofs.Headers.{head_length, padding_well, padding_size, word_well, word_size}
use Rattle.encode.proofs.Laying.{laid_length}
use Rattle.encode.proofs.Parts.{over_first}

words_well : (k : ℕ) → AllWellFormed (replicate k zero_word)
words_well zero = tt
words_well (suc k) = (word_well, words_well k)

words_length : (k : ℕ) → length (run (replicate k zero_word)) ≡ k * 4
unfolding run
words_length zero = refl
words_length (suc k) =
    let h = words_length k in
    let l = laid_length zero_word word_well in
    let s = word_size in
    let a = length-append (laid zero_word) (run (replicate k zero_word)) in
    omega arith

padding_run : (n : ℕ) → 12 ≤ n → n < 2 ^ 32 → n % 4 ≡ 0 → length (run (padding n ∷ [])) ≡ n
unfolding run
padding_run n l f e =
    let a = length-append (laid (padding n)) [] in
    let b = laid_length (padding n) (padding_well n l f) in
    let s = padding_size n l f in
    omega arith

pub fills : Fills
unfolding filling
fills n e f = go (leb 12 n) refl
  where
    go : (b : Bool) → leb 12 n ≡ b → AllWellFormed (cond b (padding n ∷ []) (replicate (n / 4) zero_word)) × (length (run (cond b (padding n ∷ []) (replicate (n / 4) zero_word))) ≡ n)
    go true t = let l = leb-true 12 n t in ((padding_well n l f, tt), padding_run n l f e)
    go false t = (words_well (n / 4), (let w = words_length (n / 4) in omega arith))

zero_words : (k : ℕ) → run (replicate k zero_word) ≡ replicate (k * 4) 0
unfolding run
zero_words zero = refl
zero_words (suc k) =
    let n : suc (suc (suc (suc (k * 4)))) ≡ suc k * 4 = omega arith in
    ap (λ m. zero_word ++ (replicate (m - 4) 0 ++ run (replicate k zero_word))) word_size
    ∙ ap (λ l. zero_word ++ l) (zero_words k) ∙ ap (λ m. replicate m 0) n

-- zeros, and a header over them
pub padding_put : (n : ℕ) (xs os ps hw : List ℕ) → 12 ≤ n → n < 2 ^ 32 → n % 4 ≡ 0 → os ≡ replicate n 0 ++ drop n xs → spread hw ≡ head 0x2004 n → ps ≡ over os 0 (spread hw)
    → ps ≡ run (filling n) ++ drop n xs
unfolding run filling padding
padding_put n xs os ps hw l f e o h p =
    let s : size (padding n) ≡ n = padding_size n l f ∙ omega arith in
    let k : length (head 0x2004 n) ≡ 12 = head_length 0x2004 n in
    let z : 12 ≤ length (replicate {A = ℕ} n 0) = omega (arith, length-replicate {A = ℕ} n 0) in
    let rest : drop 12 os ≡ replicate (n - 12) 0 ++ drop n xs =
    ap (drop 12) o ∙ drop-append-le 12 (replicate n 0) (drop n xs) z ∙ ap (λ l. l ++ drop n xs) (drop-replicate 12 n 0) in
    let made : laid (padding n) ≡ head 0x2004 n ++ replicate (n - 12) 0 = ap (λ m. head 0x2004 n ++ replicate m 0) (omega (arith, s, k)) in
    p ∙ ap (over os 0) h ∙ over_first os (head 0x2004 n) 12 k ∙ ap (λ l. head 0x2004 n ++ l) rest
    ∙ sym (append_assoc (head 0x2004 n) (replicate (n - 12) 0) (drop n xs))
    ∙ ap (λ l. l ++ drop n xs) (sym (ap run (cond-true _ _ _ (le-leb 12 n l)) ∙ append-nil (laid (padding n)) ∙ made))

pub zeros_put : (n : ℕ) (xs os : List ℕ) → n < 12 → n % 4 ≡ 0 → os ≡ replicate n 0 ++ drop n xs → os ≡ run (filling n) ++ drop n xs
unfolding filling
zeros_put n xs os l e o =
    let q : n / 4 * 4 ≡ n = omega arith in
    o ∙ ap (λ l. l ++ drop n xs) (sym (ap run (cond-false _ _ _ (lt-leb 12 n l)) ∙ zero_words (n / 4) ∙ ap (λ m. replicate m 0) q))

pub fillers : Fillers
fillers = (word_well, word_size, λ n l f. (padding_well n l f, padding_size n l f))
