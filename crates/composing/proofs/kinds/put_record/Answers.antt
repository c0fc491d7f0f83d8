use Rattle.std.proofs.Common.{codes, rules}
use Rattle.std.proofs.lemmas.Slice.Eq.{text_from_reads}
use Rattle.composing.specs.Lines.{record_of}
use Rattle.composing.proofs.kinds.put_record.Goals as goal

pub returns-in-heartbeat : goal.returns-in-heartbeat
unfolding record_of
returns-in-heartbeat g c = let kind = text_from_reads c.args.kind.now (codes "heartbeat") (search rules) (search rules) in search rules

pub returns-in-115-2 : goal.returns-in-115-2
unfolding record_of
returns-in-115-2 g c = let kind = text_from_reads c.args.kind.now (codes "stream-end") (search rules) (search rules) in search rules

pub returns-in-115 : goal.returns-in-115
unfolding record_of
returns-in-115 g c = let kind = text_from_reads c.args.kind.now (codes "stream-heartbeat") (search rules) (search rules) in search rules
