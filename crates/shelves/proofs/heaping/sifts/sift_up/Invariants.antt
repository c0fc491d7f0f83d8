use Rattle.std.proofs.Common.{◌<◌, length}
use Rattle.std.specs.List.Sorted.{IsPermutation}
use Rattle.shelves.specs.Sifting.{number_at, Lower}
use Rattle.shelves.proofs.heaping.sifts.sift_up.Given as goal

abbrev pub invariant-up : goal.invariant-up
invariant-up g l = (l.at < length l.rows) × IsPermutation l.initial.rows l.rows × Lower (number_at l.rows) (length l.rows) l.at

abbrev pub decreases-up : goal.decreases-up
decreases-up g l = l.at
