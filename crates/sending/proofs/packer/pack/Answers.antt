use Rattle.std.proofs.Common.{◌^◌, ◌<◌, rules}
use Rattle.sending.proofs.PackedBack.{packed_back}
use Rattle.sending.proofs.packer.pack.Goals as goal

pub returns-clause-reads : goal.returns-clause-reads
returns-clause-reads g c =
    let low : c.args.packing.channel < 2 ^ 16 = search rules in
    packed_back (g.C.OpeningCoder.ready c.args.coder.now) (g.C.SealingCoder.seals c.args.coder.now) c.args.packing c.args.plain.now
    c.write.new.buffer c.write.result low (search rules) (search rules) (search rules) (search rules)
