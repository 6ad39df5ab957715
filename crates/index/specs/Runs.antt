-- Runs of bytes of a file, among the records of an index. Assumes nothing.
--
-- start_after    where the first content of a number that begins behind the byte i begins, or a limit
-- run_end        how far a content, or none, goes on from there
-- run_at         the content that gives the byte i, if any, and up to where: bytes of a run are given by one content, or by none
-- RunsAlike      that it is so
use Rattle.std.specs.Prelude.{◌≡◌, ℕ, ◌+◌, ◌<◌, ◌≤◌, min, cond, ◌&&◌, List, Some, None, fold, Option, ◌==◌, nat_lt}
use Rattle.tree.specs.Lookups.{giver}
use Rattle.index.specs.declared.record.ContentRecord.{ContentRecord}
use Rattle.index.specs.declared.run.Run.{Run}
use Rattle.index.specs.Shown.{span_shown}

abbrev pub sooner : ℕ → ℕ → ℕ → ContentRecord → ℕ
sooner k i n c = cond (c.ino == k && nat_lt i c.offset) (min n c.offset) n

abbrev pub start_after : List ContentRecord → ℕ → ℕ → ℕ → ℕ
start_after cs k i limit = fold (sooner k i) limit cs

abbrev pub run_end : Option ContentRecord → ℕ → ℕ
run_end None next = next
run_end (Some c) next = min next (c.offset + c.dsize)

abbrev pub run_at : List ContentRecord → ℕ → ℕ → ℕ → Run
run_at cs k i limit = record { content = giver span_shown cs k i; end = run_end (giver span_shown cs k i) (start_after cs k i limit) }

abbrev pub RunsAlike : List ContentRecord → ℕ → ℕ → ℕ → Type 0
RunsAlike cs k i end = (j : ℕ) → i ≤ j → j < end → giver span_shown cs k j ≡ giver span_shown cs k i
