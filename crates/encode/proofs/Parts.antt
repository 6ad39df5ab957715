-- Bytes laid over others, part by part.
use Rattle.std.proofs.Common.{◌≡◌, ℕ, ◌+◌, ◌*◌, ◌/◌, ◌%◌, ◌<◌, ◌≤◌, List, [], ◌∷◌, ◌++◌, length, get_or, take, drop, sym, refl, ap, ◌∙◌, append_assoc, zero-add, arith}
use borrow.Rule.Slice.PartMut.{put_mid}
use Rattle.std.proofs.lemmas.Grind.{common_steps}
use Rattle.std.proofs.lemmas.List.{take_at, drop_at, drop-drop, length-append, length-take-le, take_more, flat_map_more}
use Rattle.crc32.specs.Sum.{sum}
use Rattle.flash.specs.Cells.{over}
use Rattle.nodes.specs.Fields.{bytes32}
use Rattle.encode.specs.Encode.{spread, head, head8}

-- a write to a part, as the checker has it
pub put_part : (a k : ℕ) (xs ys zs : List ℕ) → ys ≡ zs → length zs ≡ k → put_mid a k xs ys ≡ over xs a zs
put_part a k xs ys zs e f = cc (drop-drop k a xs)

-- the next bytes behind those that are laid
pub over_next : (xs : List ℕ) (at : ℕ) (a b : List ℕ) (n : ℕ) → at ≤ length xs → n ≡ at + length a → over (over xs at a) n b ≡ over xs at (a ++ b)
over_next xs at a b n h e =
    let front = take at xs ++ a in
    let long : length front ≡ n = length-append (take at xs) a ∙ (let l = length-take-le at xs h in omega arith) in
    let split : over xs at a ≡ front ++ drop (at + length a) xs = sym (append_assoc (take at xs) a (drop (at + length a) xs)) in
    let first : take n (over xs at a) ≡ front = ap (take n) split ∙ take_at front _ n long in
    let rest : drop n (over xs at a) ≡ drop (at + length a) xs = ap (drop n) split ∙ drop_at front _ n long in
    let behind : drop (n + length b) (over xs at a) ≡ drop (at + length (a ++ b)) xs =
    sym (drop-drop (length b) n (over xs at a)) ∙ ap (drop (length b)) rest ∙ drop-drop (length b) (at + length a) xs
    ∙ ap (λ m. drop m xs) (let l = length-append a b in omega arith) in
    ap (λ l. l ++ (b ++ drop (n + length b) (over xs at a))) first
    ∙ ap (λ l. front ++ (b ++ l)) behind
    ∙ append_assoc (take at xs) a (b ++ drop (at + length (a ++ b)) xs)
    ∙ ap (λ l. take at xs ++ l) (sym (append_assoc a b (drop (at + length (a ++ b)) xs)))

pub words_length : (ws : List ℕ) → length (spread ws) ≡ 4 * length ws
unfolding spread
words_length [] = refl
words_length (w ∷ ws) = let h = words_length ws in omega arith

words_push : (ws : List ℕ) (w : ℕ) → spread (ws ++ (w ∷ [])) ≡ spread ws ++ bytes32 w
unfolding spread
words_push ws w = sym (flat_map_more bytes32 [] ws w)

-- one word more
pub words_more : (xs : List ℕ) (at : ℕ) (ws : List ℕ) (i : ℕ) (os bs : List ℕ) → at ≤ length xs → i < length ws → os ≡ over xs at (spread (take i ws)) → bs ≡ bytes32 (get_or ws i 0)
    → over os (at + 4 * i) bs ≡ over xs at (spread (take (i + 1) ws))
words_more xs at ws i os bs h l o b =
    let n : length (spread (take i ws)) ≡ 4 * i = words_length (take i ws) ∙ ap (λ k. 4 * k) (length-take-le i ws (omega arith)) in
    ap (λ l. over l (at + 4 * i) bs) o
    ∙ over_next xs at (spread (take i ws)) bs (at + 4 * i) h (omega arith)
    ∙ ap (λ l. over xs at (spread (take i ws) ++ l)) b
    ∙ ap (over xs at) (sym (words_push (take i ws) (get_or ws i 0)) ∙ ap spread (sym (take_more ws i 0 l)))

-- nothing laid over
pub over_none : (xs : List ℕ) (at : ℕ) → xs ≡ over xs at (spread [])
unfolding spread
over_none xs at = grind (arith, common_steps)

-- the words of a header
magic : (k : ℕ) → k < 65536 → bytes32 (0x1985 + 0x10000 * k) ≡ 0x85 ∷ 0x19 ∷ (k % 256) ∷ (k / 256 % 256) ∷ []
magic k h =
    let n = 0x1985 + 0x10000 * k in
    let first : n % 256 ≡ 0x85 = omega arith in
    let second : n / 256 % 256 ≡ 0x19 = omega arith in
    let third : n / 65536 ≡ k = omega arith in
    let fourth : n / 16777216 ≡ k / 256 = omega arith in
    cc

pub head_words : (k n f s : ℕ) → k < 65536 → f ≡ 0x1985 + 0x10000 * k → s ≡ sum (spread (f ∷ n ∷ [])) → spread (f ∷ n ∷ s ∷ []) ≡ head k n
unfolding spread head head8
head_words k n f s h e t =
    let first : spread (f ∷ n ∷ []) ≡ head8 k n = ap (λ l. l ++ bytes32 n) (ap bytes32 e ∙ magic k h) in
    ap (λ l. l ++ bytes32 s) first ∙ ap (λ m. head8 k n ++ bytes32 m) (t ∙ ap sum first)

-- from the front of a buffer
pub over_then : (xs a b os ps : List ℕ) (n : ℕ) → os ≡ over xs 0 a → n ≡ length a → ps ≡ over os n b → ps ≡ over xs 0 (a ++ b)
over_then xs a b os ps n o l p =
    p ∙ ap (λ v. over v n b) o ∙ over_next xs 0 a b n (omega arith) (omega arith)

pub over_taken : (xs a os : List ℕ) (n : ℕ) → os ≡ over xs 0 a → length a ≡ n → take n os ≡ a
over_taken xs a os n o l = ap (take n) o ∙ take_at a (drop (0 + length a) xs) n l

pub over_first : (xs a : List ℕ) (n : ℕ) → length a ≡ n → over xs 0 a ≡ a ++ drop n xs
over_first xs a n l = ap (λ m. a ++ drop m xs) (zero-add (length a) ∙ l)
