use Rattle.std.proofs.Common.{arith, rules}
use Rattle.wire.specs.Reading.{frame_of}
use Rattle.wire.proofs.Heads.{head_of_rest}
use Rattle.wire.proofs.reading.framed_head.Goals as goal

pub returns-clause-value : goal.returns-clause-value
unfolding frame_of
returns-clause-value c = let e = head_of_rest c.args.datagram.now (omega arith) in search rules
