use Rattle.std.proofs.Common.{◌-◌, length}
use Rattle.std.specs.List.Sorted.{IsPermutation}
use Rattle.shelves.specs.Sifting.{number_at, Higher}
use Rattle.shelves.proofs.heaping.sifts.sift_down.Given as goal

abbrev pub invariant-down : goal.invariant-down
invariant-down g l = IsPermutation l.initial.rows l.rows × Higher (number_at l.rows) (length l.rows) l.at

abbrev pub decreases-down : goal.decreases-down
decreases-down g l = length l.initial.rows - l.at
