use Rattle.sending.proofs.Repacked.{repacks}
use Rattle.sending.proofs.theorems.read_repacks.Goals as goal

pub returns : goal.returns
returns c = repacks
