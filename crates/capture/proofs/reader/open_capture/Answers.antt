use Rattle.std.proofs.Common.{arith, rules}
use Rattle.capture.proofs.Nexts.{header-cut, other_mark}
use Rattle.capture.proofs.reader.open_capture.Goals as goal

pub returns-in_err-rest : goal.returns-in_err-rest
returns-in_err-rest c = let none = other_mark c.args.bytes.now c.in_err-rest.ensures.cases in search rules

pub returns : goal.returns
returns c =
    let rest = c.in_ok-rest.ensures.cases in
    let channel = c.in_ok-channel.ensures.cases in
    let start = c.in_ok-start.ensures.cases in
    header-cut c.args.bytes.now c.in_ok-rest.rest.now c.in_ok-channel.channel.now c.in_ok-channel.rest.now c.in_ok-start.start.now
    c.in_ok-start.records.now c.from_be_bytes.result c.from_be_bytes-2.result (omega arith) rest.0 rest.1 rest.2
    channel.0 channel.1 channel.2 start.0 start.1 start.2 (omega arith) (omega arith)
