-- The fragments of a packet, joined.
use Rattle.std.specs.Prelude.{ℕ, List}
use Rattle.wire.specs.Splitting.{joined}

-- pieces one after another, in the order of their numbers
abbrev pub joined_pieces : List (List ℕ) → List ℕ
joined_pieces pieces = joined pieces
