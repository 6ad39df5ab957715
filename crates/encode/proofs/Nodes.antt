-- The bytes of a node, put part by part.
use Rattle.std.proofs.Common.{◌≡◌, ℕ, ◌+◌, ◌*◌, List, ◌++◌, length, take, sym, ap, ◌∙◌, append_assoc, arith}
use Rattle.std.proofs.lemmas.List.{length-append}
use Rattle.crc32.specs.Sum.{sum}
use Rattle.flash.specs.Cells.{over}
use Rattle.encode.specs.Encode.{spread, head}
use Rattle.encode.specs.Node.{node_item}
use Rattle.encode.proofs.Headers.{head_length}
use Rattle.encode.proofs.Parts.{words_length, over_then, over_taken}

-- a header, words up to the sums at n, the sums, and what the node holds, as they are put
module _ (k m n : ℕ) (xs hw ws os ps : List ℕ) (eh : spread hw ≡ head k m) (lw : 12 + 4 * length ws ≡ n) (o : os ≡ over xs 0 (spread hw)) (p : ps ≡ over os 12 (spread ws)) where
  front_length : length (head k m ++ spread ws) ≡ n
  front_length = length-append (head k m) (spread ws) ∙ (let w = words_length ws in let h = head_length k m in omega arith)

  front_put : ps ≡ over xs 0 (head k m ++ spread ws)
  front_put = over_then xs (spread hw) (spread ws) os ps 12 o (sym (ap length eh ∙ head_length k m)) p ∙ ap (λ v. over xs 0 (v ++ spread ws)) eh

  pub node_put : (s t : ℕ) (sums : ℕ → ℕ → List ℕ) (ts bs qs rs : List ℕ) → s ≡ sum (take n ps) → t ≡ sum bs → ts ≡ sums s t → length ts ≡ 2
      → qs ≡ over ps n (spread ts) → rs ≡ over qs (n + 8) bs → rs ≡ over xs 0 (node_item k m ws sums bs)
  node_put s t sums ts bs qs rs es et e l q r =
      let front = head k m ++ spread ws in
      let long : length (front ++ spread ts) ≡ n + 8 = length-append front (spread ts) ∙ (let w = words_length ts in let f = front_length in omega arith) in
      let put : qs ≡ over xs 0 (front ++ spread ts) = over_then xs front (spread ts) ps qs n front_put (sym front_length) q in
      let is : ts ≡ sums (sum front) (sum bs) = e ∙ ap (λ v. sums v t) (es ∙ ap sum (over_taken xs front ps n front_put front_length)) ∙ ap (sums (sum front)) et in
      over_then xs (front ++ spread ts) bs qs rs (n + 8) put (sym long) r
      ∙ ap (over xs 0) (append_assoc front (spread ts) bs ∙ ap (λ v. front ++ (spread v ++ bs)) is)
