use Rattle.std.proofs.Common.{ap, arith}
use Rattle.page.specs.Text.{sheet}
use Rattle.capture.specs.Inspecting.{capture_pieces, inspect_pieces, inspect_room, malformed_line, lines_from}
use Rattle.capture.specs.Records.{Contents, records_of}
use Rattle.capture.proofs.Rooms.{all_written, records-fit}
use Rattle.capture.proofs.inspecting.inspect.Goals as goal

pub returns-in-None-clause-whole : goal.returns-in-None-clause-whole
returns-in-None-clause-whole c =
    all_written (sheet c.args.page.now) (sheet c.push_malformed.new.page) (malformed_line 0) (inspect_pieces c.args.bytes.now) inspect_room
    c.push_malformed.ensures.text (ap capture_pieces c.in-None.ensures) (omega (arith, c.push_malformed.ensures.short))

pub returns-in-Some-clause-whole : goal.returns-in-Some-clause-whole
returns-in-Some-clause-whole c =
    let k = c.in-Some.capture in
    let contents : Contents = record { channel = k.channel; start = k.start; records = k.records.now } in
    let fit = records-fit c.args.bytes.now contents c.in-Some.ensures in
    all_written (sheet c.args.page.now) (sheet c.push_records.new.page) (lines_from k.channel 1 (records_of k.records.now))
    (inspect_pieces c.args.bytes.now) inspect_room c.push_records.ensures.text (ap capture_pieces c.in-Some.ensures)
    (omega (arith, fit, c.push_records.ensures.short))
