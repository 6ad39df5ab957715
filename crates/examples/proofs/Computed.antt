-- The worked examples, computed.
use mathlib.Core.Path.{refl}
use Rattle.crc32.specs.Sum.{sum, sum_from, fed, rounds}
use Rattle.encode.specs.Encode.{head, head8, filling}
use Rattle.examples.specs.Worked.{Worked}

pub worked : Worked
unfolding sum sum_from fed rounds head head8 filling
worked = record {
  sum_of_nothing = refl;
  sum_of_00 = refl;
  sum_of_01 = refl;
  sum_of_80 = refl;
  marker_bytes = refl;
  end_500 = refl;
  end_504 = refl;
  end_512 = refl;
}
