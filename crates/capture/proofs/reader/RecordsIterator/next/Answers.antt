use Rattle.std.proofs.Common.{length, Ok, ap, arith}
use Rattle.capture.specs.Records.{malformed, record_in}
use Rattle.capture.proofs.Taken.{records_more, records_last}
use Rattle.capture.proofs.reader.RecordsIterator.next.Goals as goal

pub returns-in-Ok-Some-clause-steps : goal.returns-in-Ok-Some-clause-steps
returns-in-Ok-Some-clause-steps c =
    records_more c.args.self.now.0.now (record_in (Ok c.in-Ok-Some.record)) c.in-Ok-Some.rest.now (rw c.in-Ok-Some.field-0-is at c.in-Ok-Some.ensures.found)

pub returns-in-Ok-Some-clause-goes : goal.returns-in-Ok-Some-clause-goes
returns-in-Ok-Some-clause-goes c =
    let more = records_more c.args.self.now.0.now (record_in (Ok c.in-Ok-Some.record)) c.in-Ok-Some.rest.now (rw c.in-Ok-Some.field-0-is at c.in-Ok-Some.ensures.found) in
    record { on = λ _. (tt, tt, omega (arith, ap length more)); keeps = tt; rests = λ _. tt }

pub returns-in-Err-clause-goes : goal.returns-in-Err-clause-goes
returns-in-Err-clause-goes c =
    let last = records_last c.args.self.now.0.now malformed c.in-Err.ensures.found in
    record { on = λ _. (tt, tt, omega (arith, ap length last)); keeps = tt; rests = λ _. tt }
