use Rattle.std.proofs.Common.{◌≡◌, ◌<◌, fold}
use Rattle.std.specs.Slice.Iter.{chunks_rest, chunks_size}
use Rattle.base.specs.Adler.{add_byte}
use Rattle.base.proofs.adler.adler32.Given as goal

abbrev pub invariant-loop-block : goal.invariant-loop-block
invariant-loop-block l =
    (goal.iterator-loop-block).can_next l.block-iterator × (goal.iterator-loop-block).is_finite l.block-iterator
    × (chunks_size l.block-iterator ≡ 3840) × (l.sums.0 < 65521) × (l.sums.1.0 < 65521)
    × (fold add_byte (l.sums.0, l.sums.1.0) (chunks_rest l.block-iterator) ≡ fold add_byte (1, 0) l.bytes)
