use Rattle.std.proofs.Common.{◌≡◌, ◌^◌, ◌<◌, drop}
use Rattle.words.specs.Words.{value_from, under}
use Rattle.words.proofs.number.Given as goal

abbrev pub invariant-loop-b : goal.invariant-loop-b
invariant-loop-b l =
    (under (2 ^ 64) (value_from l.value (drop l.b-index l.word)) ≡ under (2 ^ 64) (value_from 0 l.word)) × (l.value < 2 ^ 64)
