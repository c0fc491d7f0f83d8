use Rattle.sending.proofs.Fragments.{fragments_join}
use Rattle.sending.proofs.theorems.fragments_join.Goals as goal

pub returns : goal.returns
returns c = fragments_join
