use Rattle.wire.proofs.Cuts.{Reaches}
use Rattle.wire.proofs.splitting.split.Given as goal

abbrev pub invariant-loop-i : goal.invariant-loop-i
invariant-loop-i l = Reaches l.count l.body l.lengths l.i l.at
