use Rattle.composed.proofs.Texts.{composes}
use Rattle.composed.proofs.composed_reads_back.Goals as goal

pub returns : goal.returns
returns c = composes
