use Rattle.capture.proofs.Framed.{capture_back}
use Rattle.capture.proofs.reader.captures_read_back.Goals as goal

pub returns : goal.returns
returns c = capture_back
