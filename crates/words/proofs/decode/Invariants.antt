use Rattle.std.proofs.Common.{◌≡◌, ℕ, ◌<◌, [], get_or, Some}
use Rattle.words.proofs.Hexes.{byte_of}
use Rattle.words.proofs.decode.Given as goal

abbrev pub invariant-loop-i : goal.invariant-loop-i
invariant-loop-i l = (k : ℕ) → k < l.i → byte_of (get_or l.pairs k []) ≡ Some (get_or l.out k 0)
