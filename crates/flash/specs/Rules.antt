-- What the calls of a flash do. m is the flash before the call, n after it, r the answer. What the rules leave open has
-- a name here (the mark after a program, what a failure leaves, the marks after it) and its bounds; all else is an equation.
-- Assumes nothing.
--
-- Programmed   a program of a run of bytes: refused from the start, done, or failed
-- Erased       an erase: refused, done, or failed
-- Fetched      a read into a buffer that held old leaves it as new
-- Armed        an arming: refused or done
-- Restarted    a restart, which is never refused
-- mark_answer  what a look at a block's mark answers
-- Shaped       a shape is that of the flash
use Rattle.std.specs.Prelude.{◌≡◌, ℕ, ◌+◌, ◌*◌, ◌<◌, ◌≤◌, List, ◌++◌, length, take, drop, replicate, Some, None, Ok, Err, Option, Result, ◌≢◌}
use Rattle.flash.specs.declared.refusal.Refusal.{Refusal}
use Rattle.flash.specs.declared.refusal.Refusal.TheVariants.{NoPower}
use Rattle.flash.specs.declared.place.Shape.{Shape}
use Rattle.flash.specs.Cells.{Cell, lost, cells, blank, over}
use Rattle.flash.specs.Meaning.{Meaning, Power, steady, armed, off, with_at, mixed, shown_at, settled_at, batch_end}
use Rattle.flash.specs.Refused.{place_refusal, program_refusal, erase_refusal, read_refusal, arm_refusal, part}

abbrev pub Answer : Type 0
Answer = Result (Unit {0}) Refusal

-- ─── program ───

-- the block b, as it would be shown after a program of the bytes at o
abbrev pub meant : Meaning → ℕ → ℕ → List ℕ → List Cell
meant m b o run = over (m.shown b) o (cells run)

-- the meaning after a program: the run is shown, each batch that ends at or before its end is settled; k is the new mark
unfoldable pub programmed : Meaning → ℕ → ℕ → List ℕ → ℕ → Meaning
programmed m b o run k = record {
  blocks = m.blocks;
  size = m.size;
  page = m.page;
  batch = m.batch;
  shown = with_at m.shown b (meant m b o run);
  settled = with_at m.settled b (mixed (batch_end m (o + length run)) (meant m b o run) (m.settled b));
  mark = with_at m.mark b k;
  power = m.power;
}

-- the power failed and left xs in the block b; k are the marks. Without power nothing can be seen, so shown is taken
-- as settled
unfoldable pub broken : Meaning → ℕ → List Cell → (ℕ → ℕ) → Meaning
broken m b xs k = record {
  blocks = m.blocks;
  size = m.size;
  page = m.page;
  batch = m.batch;
  shown = with_at m.settled b xs;
  settled = with_at m.settled b xs;
  mark = k;
  power = off;
}

-- n cells that a failure left: any bytes, or none that can be read
pub data Spoilt (n : ℕ) (xs : List Cell) : Type 0 where
  bytes : (ys : List ℕ) → length ys ≡ n → xs ≡ cells ys → Spoilt n xs
  unreadable : xs ≡ replicate n lost → Spoilt n xs

-- the batch c of the block b has a byte held, or takes bytes of a run of n at o
pub data Concerned (m : Meaning) (b o n c : ℕ) : Type 0 where
  had : (i : ℕ) → c * m.batch ≤ i → i < c * m.batch + m.batch → (shown_at m b i ≢ settled_at m b i) → Concerned m b o n c
  takes : 0 < n → c * m.batch < o + n → o < c * m.batch + m.batch → Concerned m b o n c

-- what a failed program leaves in the block b: before a batch that it concerned all is settled, that one is spoilt, and
-- what lies behind is as it was
pub record Torn (m : Meaning) (b o : ℕ) (run : List ℕ) (xs : List Cell) : Type 0 where
  pub at : ℕ
  pub concerned : Concerned m b o (length run) at
  pub spoilt : List Cell
  pub is_spoilt : Spoilt m.batch spoilt
  pub is : xs ≡ take (at * m.batch) (meant m b o run) ++ (spoilt ++ drop (at * m.batch + m.batch) (m.settled b))

-- a program that was done: the mark does not fall, and stays within the run's end
pub record Passed (m : Meaning) (b o : ℕ) (run : List ℕ) (n : Meaning) : Type 0 where
  pub mark : ℕ
  pub from : m.mark b ≤ mark
  pub to : mark ≤ o + length run
  pub is : n ≡ programmed m b o run mark

-- a program in which the power failed
pub record Failed (m : Meaning) (b o : ℕ) (run : List ℕ) (n : Meaning) : Type 0 where
  pub armed_before : m.power ≡ armed
  pub left : List Cell
  pub torn : Torn m b o run left
  pub marks : ℕ → ℕ
  pub is : n ≡ broken m b left marks

-- a program that is not refused from the start
pub data Goes (m : Meaning) (b o : ℕ) (run : List ℕ) (r : Answer) (n : Meaning) : Type 0 where
  done : r ≡ Ok tt → Passed m b o run n → Goes m b o run r n
  failed : r ≡ Err NoPower → Failed m b o run n → Goes m b o run r n

pub data Programmed (m : Meaning) (b o : ℕ) (run : List ℕ) (r : Answer) (n : Meaning) : Type 0 where
  refused : (e : Refusal) → program_refusal m b o (length run) ≡ Some e → r ≡ Err e → n ≡ m → Programmed m b o run r n
  goes : program_refusal m b o (length run) ≡ None → Goes m b o run r n → Programmed m b o run r n

-- ─── erase ───

unfoldable pub erased : Meaning → ℕ → Meaning
erased m b = record {
  blocks = m.blocks;
  size = m.size;
  page = m.page;
  batch = m.batch;
  shown = with_at m.shown b (blank m.size);
  settled = with_at m.settled b (blank m.size);
  mark = with_at m.mark b 0;
  power = m.power;
}

-- the cells of a block's i-th batch
abbrev pub batch_of : Meaning → ℕ → List Cell → List Cell
batch_of m i xs = take m.batch (drop (i * m.batch) xs)

-- a batch after a failed erase: as before, or blank, or spoilt
pub data Worn (old new : List Cell) : Type 0 where
  as_before : new ≡ old → Worn old new
  wiped : new ≡ blank (length old) → Worn old new
  spoilt : Spoilt (length old) new → Worn old new

pub data Erased (m : Meaning) (b : ℕ) (r : Answer) (n : Meaning) : Type 0 where
  refused : (e : Refusal) → erase_refusal m b ≡ Some e → r ≡ Err e → n ≡ m → Erased m b r n
  done : erase_refusal m b ≡ None → r ≡ Ok tt → n ≡ erased m b → Erased m b r n
  failed : (left : List Cell) (marks : ℕ → ℕ) → erase_refusal m b ≡ None → m.power ≡ armed → r ≡ Err NoPower
      → length left ≡ m.size
      → ((i : ℕ) → Worn (batch_of m i (m.settled b)) (batch_of m i left)) → n ≡ broken m b left marks → Erased m b r n

-- ─── read ───

pub data Fetched (m : Meaning) (b o : ℕ) (old : List ℕ) (r : Answer) (new : List ℕ) : Type 0 where
  refused : (e : Refusal) → read_refusal m b o (length old) ≡ Some e → r ≡ Err e → new ≡ old → Fetched m b o old r new
  done : read_refusal m b o (length old) ≡ None → r ≡ Ok tt
      → cells new ≡ part (m.shown b) o (length old) → Fetched m b o old r new

-- ─── arm and restart ───

unfoldable pub powered : Meaning → Power → Meaning
powered m p = record {
  blocks = m.blocks;
  size = m.size;
  page = m.page;
  batch = m.batch;
  shown = m.shown;
  settled = m.settled;
  mark = m.mark;
  power = p;
}

pub data Armed (m : Meaning) (r : Answer) (n : Meaning) : Type 0 where
  refused : (e : Refusal) → arm_refusal m ≡ Some e → r ≡ Err e → n ≡ m → Armed m r n
  done : arm_refusal m ≡ None → r ≡ Ok tt → n ≡ powered m armed → Armed m r n

-- the power is steady, and what was held is lost; k are the marks
unfoldable pub restarted : Meaning → (ℕ → ℕ) → Meaning
restarted m k = record {
  blocks = m.blocks;
  size = m.size;
  page = m.page;
  batch = m.batch;
  shown = m.settled;
  settled = m.settled;
  mark = k;
  power = steady;
}

pub record Restarted (m n : Meaning) : Type 0 where
  pub marks : ℕ → ℕ
  pub is : n ≡ restarted m marks

-- ─── looks ───

abbrev pub answered : Option Refusal → ℕ → Result ℕ Refusal
answered (Some e) n = Err e
answered None n = Ok n

abbrev pub mark_answer : Meaning → ℕ → Result ℕ Refusal
mark_answer m b = answered (place_refusal m b 0 0) (m.mark b)

abbrev pub Shaped : Shape → Meaning → Type 0
Shaped s m = (s.blocks ≡ m.blocks) × (s.size ≡ m.size) × (s.page ≡ m.page) × (s.batch ≡ m.batch)
