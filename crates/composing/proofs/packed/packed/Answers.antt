use Rattle.std.proofs.Common.{rules}
use Rattle.composing.proofs.Packs.{packed-front, packed-within}
use Rattle.composing.proofs.packed.packed.Goals as goal

pub returns : goal.returns
returns g c =
    let ready = g.C.OpeningCoder.ready c.args.coder.now in
    let seals = g.C.SealingCoder.seals c.args.coder.now in
    record {
      datagram =
          packed-front ready seals c.args.packing c.args.plain.now c.args.buffer.now c.pack.new.buffer c.pack.result
          c.pack.ensures.answer c.pack.ensures.after (search rules);
      within =
          packed-within ready seals c.args.packing c.args.plain.now c.args.buffer.now c.pack.new.buffer c.pack.result
          c.pack.ensures.answer c.pack.ensures.after (search rules);
    }
