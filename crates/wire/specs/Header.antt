-- The fields of a header and their places.
use Rattle.std.specs.Prelude.{ℕ, List, slice_index}
use Rattle.base.specs.Fields.{be, signed64}
use Rattle.wire.specs.declared.head.Head.{Head}

abbrev pub protocol_of : List ℕ → ℕ
protocol_of d = slice_index d 0

abbrev pub version_of : List ℕ → ℕ
version_of d = slice_index d 1

-- the rest of what every header has, whatever its size
abbrev pub head_of : List ℕ → Head
head_of d =
    record {
      header_size = slice_index d 2;
      sender = slice_index d 3;
      market = be 2 d 4;
      channel = be 2 d 6;
      seq = signed64 (be 8 d 8);
      count = be 2 d 16;
      flag = record { 0 = be 2 d 18 };
    }
