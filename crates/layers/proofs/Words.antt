-- Whole batches, and what is left of one, are whole words.
use Rattle.std.proofs.Common.{◌≡◌, ℕ, ◌-◌, ◌*◌, ◌/◌, ◌%◌, ◌<◌, List, take, None, ap, subst, mod-lt, div-add-mod', arith}
use Rattle.flash.specs.Meaning.{Meaning}
use Rattle.flash.specs.Refused.{program_refusal}
use Rattle.flash.proofs.Refusals.{accepted}
use Rattle.layers.specs.Buffered.{buffered, Sound}
use Rattle.layers.specs.Sanity.Rows.{words_at}
use Rattle.layers.specs.declared.buffer.State.{State}
use Rattle.layers.proofs.Keep.{start_starts}

module _ {m : Meaning} {batch : ℕ} {st : State} {held : List ℕ} (s : Sound m batch st held) (b o n : ℕ) (none : program_refusal (buffered m st (take batch held)) b o n ≡ None) where
  words : (o % 4 ≡ 0) × (n % 4 ≡ 0)
  unfolding buffered
  words = let a = accepted (buffered m st (take batch held)) b o n none in (a.o_pages, a.n_pages)

  batch_words : batch % 4 ≡ 0
  batch_words = subst (λ (g : ℕ). g % 4 ≡ 0) s.same s.bears.words

  starts_words : (x : ℕ) → (x - x % batch) % 4 ≡ 0
  starts_words x =
      let z : x - x % batch ≡ x / m.batch * m.batch = omega (arith, div-add-mod' x m.batch, ap (λ (g : ℕ). x % g) s.same) in
      rw z (words_at m s.bears (x / m.batch * m.batch) (start_starts m s.bears b x))

  -- whole batches are whole words
  pub whole_words : (n - n % batch) % 4 ≡ 0
  whole_words = starts_words n

  -- what is left of a batch is whole words
  pub room_words : 0 < batch → (batch - o % batch) % 4 ≡ 0
  room_words some = omega (arith, words, batch_words, starts_words o, mod-lt o some, div-add-mod' o batch)
