use Rattle.sending.proofs.JoiningBack.{pieces-join_back}
use Rattle.sending.proofs.theorems.pieces_join.Goals as goal

pub returns : goal.returns
returns c = pieces-join_back
