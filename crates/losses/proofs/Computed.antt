-- The examples, computed.
use Rattle.std.proofs.Common.{refl}
use Rattle.crc32.specs.Sum.{sum, sum_from, fed, rounds}
use Rattle.flash.specs.Cells.{front}
use Rattle.nodes.specs.Fields.{le16, le32}
use Rattle.nodes.specs.Items.{reach, passes, offered, stands, size}
use Rattle.nodes.specs.Walk.{walk, walk_from, walk_in, marked, alike}
use Rattle.encode.specs.Encode.{head8, head, padding, entry32, entry_item}
use Rattle.losses.specs.Fair.{counted, nothing_at, fair, loss_fair}
use Rattle.losses.specs.Examples.{Examples, filled, spoilt, torn, foreign, named, renamed, other}

pub computed : Examples
unfolding sum sum_from fed rounds front le16 le32 reach passes offered stands size walk walk_from walk_in marked alike head8 head padding counted nothing_at fair loss_fair filled spoilt torn foreign entry32 entry_item named renamed other
computed = record {
  met_filled = refl;
  spoilt_fair = refl;
  met_spoilt = refl;
  torn_fair = refl;
  met_torn = refl;
  more_unfair = refl;
  erased_fair = refl;
  zeros_fair = refl;
  marker_unfair = refl;
  met_foreign = refl;
  foreign_unfair = refl;
  renamed_fair = refl;
  met_renamed = refl;
  other_unfair = refl;
}
