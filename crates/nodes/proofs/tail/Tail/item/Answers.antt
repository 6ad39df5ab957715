use Rattle.std.proofs.Common.{Some, ap, ◌∙◌}
use Rattle.nodes.specs.Views.{items_shown}
use Rattle.nodes.proofs.Decided.{node_length, unknown_viewed, marker_viewed, padding_viewed, entry_short, entry_fails, entry_viewed, content_short, content_fails, content_viewed}
use Rattle.nodes.proofs.tail.Tail.item.Goals as goal

pub returns-in_err-bytes-in-Ok-Entry : goal.returns-in_err-bytes-in-Ok-Entry
returns-in_err-bytes-in-Ok-Entry c =
    ap items_shown c.from_residual.ensures ∙ entry_short c.requires (c.in-Ok-Entry.ensures ∙ ap Some c.in-Ok-Entry.field-0-is) c.in_err-bytes-in-Ok-Entry.ensures

pub read_entry-requires : goal.read_entry-requires
read_entry-requires c = node_length c.requires c.in_ok-bytes-in-Ok-Entry.ensures

pub returns-in_err-entry-in-Ok-Entry : goal.returns-in_err-entry-in-Ok-Entry
returns-in_err-entry-in-Ok-Entry c =
    ap items_shown c.from_residual-in_err-entry-in-Ok-Entry.ensures
    ∙ entry_fails c.requires c.in_ok-bytes-in-Ok-Entry.ensures (c.in-Ok-Entry.ensures ∙ ap Some c.in-Ok-Entry.field-0-is) c.in_err-entry-in-Ok-Entry.ensures

pub returns-in_err-bytes-in-Ok-Content : goal.returns-in_err-bytes-in-Ok-Content
returns-in_err-bytes-in-Ok-Content c =
    ap items_shown c.from_residual-in_err-bytes-in-Ok-Content.ensures ∙ content_short c.requires (c.in-Ok-Content.ensures ∙ ap Some c.in-Ok-Content.field-0-is) c.in_err-bytes-in-Ok-Content.ensures

pub read_content-requires : goal.read_content-requires
read_content-requires c = node_length c.requires c.in_ok-bytes-in-Ok-Content.ensures

pub returns-in_err-content-in-Ok-Content : goal.returns-in_err-content-in-Ok-Content
returns-in_err-content-in-Ok-Content c =
    ap items_shown c.from_residual-in_err-content-in-Ok-Content.ensures
    ∙ content_fails c.requires c.in_ok-bytes-in-Ok-Content.ensures (c.in-Ok-Content.ensures ∙ ap Some c.in-Ok-Content.field-0-is) c.in_err-content-in-Ok-Content.ensures

pub returns-in-Ok-Marker : goal.returns-in-Ok-Marker
returns-in-Ok-Marker c = marker_viewed c.requires (c.in-Ok-Marker.ensures ∙ ap Some c.in-Ok-Marker.field-0-is)

pub returns-in-Ok-Padding : goal.returns-in-Ok-Padding
returns-in-Ok-Padding c = padding_viewed c.requires (c.in-Ok-Padding.ensures ∙ ap Some c.in-Ok-Padding.field-0-is)

pub returns-in_ok-entry-in-Ok-Entry : goal.returns-in_ok-entry-in-Ok-Entry
returns-in_ok-entry-in-Ok-Entry c =
    entry_viewed c.requires c.in_ok-bytes-in-Ok-Entry.ensures (c.in-Ok-Entry.ensures ∙ ap Some c.in-Ok-Entry.field-0-is) _ c.in_ok-entry-in-Ok-Entry.ensures

pub returns-in_ok-content-in-Ok-Content : goal.returns-in_ok-content-in-Ok-Content
returns-in_ok-content-in-Ok-Content c =
    content_viewed c.requires c.in_ok-bytes-in-Ok-Content.ensures (c.in-Ok-Content.ensures ∙ ap Some c.in-Ok-Content.field-0-is) _ c.in_ok-content-in-Ok-Content.ensures

pub returns-in-Err : goal.returns-in-Err
returns-in-Err c = unknown_viewed c.requires c.in-Err.ensures.0
