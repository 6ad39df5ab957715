use Rattle.std.proofs.Common.{◌-◌, ◌^◌, ◌<◌, ◌≤◌, sym, arith}
use native.Mathlib.Decide.{dec_le}
use Rattle.tree.specs.Lookups.{giver, last, length_of, shows}
use Rattle.index.specs.Blocks.{all_contents}
use Rattle.index.specs.Shown.{span_shown}
use Rattle.index.proofs.Showing.{Beaten, is_beaten, not_beaten, passed_over, shows_here, giver_ends, any_below_none, any_below_some, not_covered}
use Rattle.index.proofs.needed.is_shown.Goals as goal
use Rattle.index.proofs.needed.is_shown.Goals.{In-Some}

found : (c : In-Some) → Beaten c.args.content.now.version (giver span_shown (all_contents c.args.blocks.now) c.args.content.now.ino c.loop-at.at) c.in-Some.next
found c = is_beaten _ _ _ c.in-Some.ensures

pub loop-at-smaller : goal.loop-at-smaller
loop-at-smaller c =
    let b = found (goal.at.loop-at-smaller c).In-Some in
    let e = giver_ends span_shown (all_contents c.args.blocks.now) c.args.content.now.ino c.loop-at.at b.by b.found in
    omega (arith, b.end, e, c.loop-at-test.true, c.shown_end-end.ensures.value, c.shown_end-end.ensures.fits)

pub loop-at-preserved : goal.loop-at-preserved
loop-at-preserved c =
    let b = found (goal.at.loop-at-preserved c).In-Some in
    let cs = all_contents c.args.blocks.now in
    let s = span_shown c.args.content.now in
    let e = giver_ends span_shown cs s.ino c.loop-at.at b.by b.found in
    let end = b.end in
    let below : c.loop-at.at < 2 ^ 32 - 1 = omega (arith, c.loop-at-test.true, c.shown_end-end.ensures.value, c.shown_end-end.ensures.fits) in
    let start : s.offset ≤ c.loop-at.at = c.loop-at.invariant.0 in (
      omega arith,
      λ j from to. elim (dec_le c.loop-at.at j) [
        | yes h ↦ passed_over span_shown cs s c.loop-at.at b.by b.found b.newer j h (omega arith)
        | no h ↦ c.loop-at.invariant.1 j from (omega arith)
      ],
    )

pub returns-in_default : goal.returns-in_default
returns-in_default c =
    let cs = all_contents c.args.blocks.now in
    let s = span_shown c.args.content.now in
    let end = c.shown_end-end.ensures.value in
    let here = shows_here span_shown cs s c.loop-at.at c.loop-at.invariant.0 (omega (arith, c.loop-at-test.true, end)) (not_beaten s.version (giver span_shown cs s.ino c.loop-at.at) c.in_default.ensures) in
    sym (any_below_some (shows span_shown cs s) (length_of span_shown (last span_shown cs s.ino)) c.loop-at.at (omega (arith, c.loop-at-test.true, end)) here)

pub returns : goal.returns
returns c =
    let cs = all_contents c.args.blocks.now in
    let s = span_shown c.args.content.now in
    let n = length_of span_shown (last span_shown cs s.ino) in
    let end = c.shown_end-end.ensures.value in
    let left = c.loop-at-test.false in
    sym (any_below_none (shows span_shown cs s) n (λ j l. not_covered span_shown cs s j (λ from to. c.loop-at.invariant.1 j from (omega (arith, end, left)))))
