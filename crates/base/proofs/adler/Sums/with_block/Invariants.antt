use Rattle.std.proofs.Common.{◌≡◌, ◌+◌, ◌*◌, ◌%◌, ◌≤◌, take, fold}
use Rattle.base.specs.Adler.{add_byte}
use Rattle.base.proofs.adler.Sums.with_block.Given as goal

abbrev pub invariant-loop-x : goal.invariant-loop-x
invariant-loop-x l =
    (fold add_byte (l.initial.a, l.initial.b) (take l.x-index l.block) ≡ (l.a % 65521, l.b % 65521)) × (l.a ≤ 65520 + 255 * l.x-index)
    × (l.b ≤ 65520 + 1044720 * l.x-index)
