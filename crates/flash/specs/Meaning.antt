-- What a flash is, apart from how it is made. Assumes nothing.
--
-- Power        steady; armed: it may fail inside a program or an erase; off: no call but a restart does anything
-- Meaning      a flash as its user sees it:
--              blocks, size     so many blocks of size bytes each
--              page, batch      pages are programmed, batches settle
--              shown            what each block shows to a read
--              settled          what of it outlives a loss of power
--              mark             from this place on all of a block is readable 0xFF; programs begin here or later
--              power
--            Held are the bytes that are shown and not so settled. Blocks are functions of the block's number, so
--            that a layer which moves blocks about can compose them
-- Sane         what holds of every flash at all times
use Rattle.std.specs.Prelude.{◌≡◌, ℕ, ◌*◌, ◌/◌, ◌%◌, ◌^◌, ◌<◌, ◌≤◌, cond, List, ◌++◌, length, take, drop, ◌==◌, slice_index_or}
use Rattle.flash.specs.Cells.{Cell, byte, lost}

pub data Power : Type 0 where
  steady : Power
  armed : Power
  off : Power

pub record Meaning : Type 0 where
  pub blocks : ℕ
  pub size : ℕ
  pub page : ℕ
  pub batch : ℕ
  pub shown : ℕ → List Cell
  pub settled : ℕ → List Cell
  pub mark : ℕ → ℕ
  pub power : Power

-- f, but x at b
abbrev pub with_at : {X : Type 0} → (ℕ → X) → ℕ → X → ℕ → X
with_at f b x i = cond (i == b) x (f i)

-- xs up to k, and ys from there on
abbrev pub mixed : {X : Type 0} → ℕ → List X → List X → List X
mixed k xs ys = take k xs ++ drop k ys

-- the byte at the place i of the block b, as shown and as settled
abbrev pub shown_at : Meaning → ℕ → ℕ → Cell
shown_at m b i = slice_index_or (m.shown b) i lost

abbrev pub settled_at : Meaning → ℕ → ℕ → Cell
settled_at m b i = slice_index_or (m.settled b) i lost

-- the end of the last batch that ends at or before e
abbrev pub batch_end : Meaning → ℕ → ℕ
batch_end m e = e / m.batch * m.batch

pub record Sane (m : Meaning) : Type 0 where
  pub some_page : 0 < m.page
  pub some_batch : 0 < m.batch
  pub batch_pages : m.batch % m.page ≡ 0
  pub size_batches : m.size % m.batch ≡ 0
  pub size_fits : m.size < 2 ^ 32
  pub blocks_fit : m.blocks < 2 ^ 32
  pub shown_length : (b : ℕ) → b < m.blocks → length (m.shown b) ≡ m.size
  pub settled_length : (b : ℕ) → b < m.blocks → length (m.settled b) ≡ m.size
  -- a page is readable as a whole or not at all
  pub shown_pages : (b i j : ℕ) → b < m.blocks → i < m.size → j < m.size → i / m.page ≡ j / m.page → shown_at m b i ≡ lost → shown_at m b j ≡ lost
  pub settled_pages : (b i j : ℕ) → b < m.blocks → i < m.size → j < m.size → i / m.page ≡ j / m.page → settled_at m b i ≡ lost → settled_at m b j ≡ lost
  pub mark_within : (b : ℕ) → b < m.blocks → m.mark b ≤ m.size
  pub shown_blank : (b i : ℕ) → b < m.blocks → m.mark b ≤ i → i < m.size → shown_at m b i ≡ byte 255
  pub settled_blank : (b i : ℕ) → b < m.blocks → m.mark b ≤ i → i < m.size → settled_at m b i ≡ byte 255
  -- shown and settled agree but in one block, in the batch of a place held_end at which a page begins, and before it
  pub held_block : ℕ
  pub held_end : ℕ
  pub held_pages : held_end % m.page ≡ 0
  pub agree : (b i : ℕ) → b < m.blocks → i < m.size → (b ≡ held_block → batch_end m held_end ≤ i → i < held_end → ⊥)
      → shown_at m b i ≡ settled_at m b i
