use Rattle.std.proofs.Common.{length}
use Rattle.wire.specs.Messages.{lengths_in, messages_in}
use Rattle.capture.specs.Inspecting.{looked_into}
use Rattle.capture.proofs.Written.{plain_short}
use Rattle.capture.proofs.inspecting.push_plain.Goals as goal

pub returns-in-Ok-clause-short : goal.returns-in-Ok-clause-short
returns-in-Ok-clause-short c =
    let plain = c.args.plain.now in
    let m = c.in-Ok.messages in
    plain_short c.args.place.index c.args.place.channel c.args.packet (looked_into c.args.packet plain) (messages_in m) (lengths_in m)
    c.in-Ok.ensures.value c.in-Ok.ensures.lengths (length plain) c.push_packet.ensures.short c.push_lengths.ensures.short c.in-Ok.ensures.few
