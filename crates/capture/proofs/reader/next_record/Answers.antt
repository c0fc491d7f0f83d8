use Rattle.std.proofs.Common.{rules}
use Rattle.capture.proofs.Nexts.{datagram-cut}
use Rattle.capture.proofs.reader.next_record.Goals as goal

pub returns-in_ok-datagram-in-1-clause-found : goal.returns-in_ok-datagram-in-1-clause-found
returns-in_ok-datagram-in-1-clause-found c =
    datagram-cut c.args.records.now c.in_ok-size-in-1.size.now c.in_ok-size-in-1.rest.now c.in_ok-datagram-in-1.datagram.now
    c.in_ok-datagram-in-1.rest.now c.from-size.result (search rules) (search rules) (search rules) (search rules) (search rules) (search rules) (search rules) (search rules) (search rules)
