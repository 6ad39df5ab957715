use Rattle.std.proofs.Common.{sym, ap, ◌∙◌}
use Rattle.std.proofs.lemmas.Bool.{le-leb}
use Rattle.nodes.specs.Fields.{padded}
use Rattle.nodes.specs.Views.{standing_shown}
use Rattle.nodes.proofs.Decided.{word_read, word_other, word_long, none_word, word_sized, none_head, none_sound, none_sized, some_sized, passing_some}
use Rattle.nodes.proofs.tail.Tail.standing.Goals as goal

pub returns-in_err-word : goal.returns-in_err-word
returns-in_err-word c = let t = c.args.self in ap standing_shown c.from_residual.ensures ∙ none_word t.readable.now t.at t.bytes.now c.in_err-word.ensures

pub le_u32-requires : goal.le_u32-requires
le_u32-requires c = let t = c.args.self in word_long t.readable.now t.at t.bytes.now c.in_ok-word.ensures

pub returns-then-le_u32-eq0 : goal.returns-then-le_u32-eq0
returns-then-le_u32-eq0 c =
    let t = c.args.self in
    let word = c.in_ok-word.ensures in
    word_sized t.readable.now t.at t.bytes.now word.0 (sym (word_read t.readable.now t.at t.bytes.now word c.le_u32.ensures) ∙ c.if-le_u32-eq0.true)

pub returns-in_err-front : goal.returns-in_err-front
returns-in_err-front c =
    let t = c.args.self in
    let word = c.in_ok-word.ensures in
    ap standing_shown c.from_residual-in_err-front.ensures
    ∙ none_head t.readable.now t.at t.bytes.now word.0 (word_other t.readable.now t.at t.bytes.now word c.le_u32.ensures c.if-le_u32-eq0.false) c.in_err-front.ensures

pub returns-in_err-header : goal.returns-in_err-header
returns-in_err-header c =
    let t = c.args.self in
    ap standing_shown c.from_residual-in_err-header.ensures
    ∙ none_sound t.readable.now t.at t.bytes.now c.in_ok-front.ensures.0 (word_other t.readable.now t.at t.bytes.now c.in_ok-word.ensures c.le_u32.ensures c.if-le_u32-eq0.false) c.in_err-header.ensures

pub item-requires : goal.item-requires
item-requires c =
    let t = c.args.self in
    record {
      all_read = le-leb _ _ c.in_ok-front.ensures.0;
      no_word = word_other t.readable.now t.at t.bytes.now c.in_ok-word.ensures c.le_u32.ensures c.if-le_u32-eq0.false;
      passes = c.in_ok-header.ensures;
    }

pub returns-in_err-item : goal.returns-in_err-item
returns-in_err-item c =
    let t = c.args.self in
    ap standing_shown c.from_residual-in_err-item.ensures
    ∙ none_sized t.readable.now t.at t.bytes.now c.in_ok-front.ensures.0 (word_other t.readable.now t.at t.bytes.now c.in_ok-word.ensures c.le_u32.ensures c.if-le_u32-eq0.false) c.in_err-item.ensures

pub returns : goal.returns
returns c =
    let t = c.args.self in
    some_sized t.readable.now t.at t.bytes.now c.in_ok-front.ensures.0 (word_other t.readable.now t.at t.bytes.now c.in_ok-word.ensures c.le_u32.ensures c.if-le_u32-eq0.false) _ c.padded_len.result c.in_ok-item.ensures
    (c.padded_len.ensures ∙ ap (λ h. padded h.totlen) (passing_some t.bytes.now _ c.in_ok-header.ensures).1)
