-- The lowest packet, read into a buffer.
use Rattle.std.specs.Prelude.{◌≡◌, ℕ, ◌≤◌, List, length, take, Some}
use Rattle.std.specs.List.{slice_get}
use Rattle.parts.specs.Holdings.{Holding, pair_of}
use Rattle.parts.specs.declared.shelf.Sizes.{Sizes}

pub record LowestRead (h : Holding) (first : ℕ) (sizes : Sizes) (buffer : List ℕ) : Type 0 where
  pub head : slice_get h.pairs 0 ≡ Some (pair_of first sizes.count (take sizes.length buffer))
  pub fits : sizes.length ≤ length buffer
