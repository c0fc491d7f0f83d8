use Rattle.sending.proofs.ReadingBack.{reads_back}
use Rattle.sending.proofs.theorems.packed_reads_back.Goals as goal

pub returns : goal.returns
returns c = reads_back
