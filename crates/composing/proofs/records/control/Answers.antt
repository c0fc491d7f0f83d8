use Rattle.std.proofs.Common.{length-append, rules}
use Rattle.base.specs.Adler.{adler_of}
use Rattle.base.specs.Fields.{be_bytes}
use Rattle.base.proofs.Fields.{length-be_bytes}
use Rattle.composing.specs.Composing.{control_head, control_for}
use Rattle.base.proofs.Fields.{four_bytes}
use Rattle.composing.proofs.Fronts.{head-and_trailer}
use Rattle.composing.proofs.records.control.Goals as goal

pub slice_bounds-datagram-end-2 : goal.slice_bounds-datagram-end-2
slice_bounds-datagram-end-2 c = search (rules, length-append)

pub returns : goal.returns
unfolding control_for
returns c =
    let head = control_head c.args.sender c.args.channel c.args.last c.args.count in
    let sum = four_bytes (adler_of head) in
    head-and_trailer head (be_bytes 4 (adler_of head)) c.copy_from_slice.new.self c.copy_from_slice-2.new.self (search rules) (search rules)
    (search rules) (length-be_bytes 4 (adler_of head))
