use Rattle.std.proofs.Common.{length, take, ◌∙◌, rules}
use Rattle.composing.proofs.Prepared.{data_none, data_refused, data_put}
use Rattle.composing.proofs.data.put_data.Goals as goal

pub returns-in_err-packing : goal.returns-in_err-packing
returns-in_err-packing g c =
    let coder = c.args.coder.now in
    let none = data_none (g.C.OpeningCoder.ready coder) (g.C.SealingCoder.seals coder) (length c.args.out.now) c.args.channel c.args.rest.now (search rules) in
    search rules

pub returns-in_err-length : goal.returns-in_err-length
returns-in_err-length g c =
    let coder = c.args.coder.now in
    let refused =
    data_refused (g.C.OpeningCoder.ready coder) (g.C.SealingCoder.seals coder) (length c.args.out.now) c.args.channel c.args.rest.now c.in_ok-packing.packing
    c.in_ok-packing.size (take c.in_ok-packing.size c.prepare.new.plain) (search rules) c.packed.result c.packed.new.buffer (search rules) (search rules) in
    search rules

pub returns : goal.returns
returns g c =
    let coder = c.args.coder.now in
    c.put_datagram.ensures
    ∙ data_put (g.C.OpeningCoder.ready coder) (g.C.SealingCoder.seals coder) (length c.args.out.now) c.args.channel c.args.rest.now c.in_ok-packing.packing
    c.in_ok-packing.size (take c.in_ok-packing.size c.prepare.new.plain) (search rules) c.in_ok-length.length c.packed.new.buffer
    (search rules)
