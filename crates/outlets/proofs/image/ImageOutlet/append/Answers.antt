use Rattle.parts.specs.Given.{entry_of}
use Rattle.outlets.proofs.Images.{append_leaves}
use Rattle.outlets.proofs.image.ImageOutlet.append.Goals as goal

pub invariant_of-self : goal.invariant_of-self
invariant_of-self c =
    let s = c.args.self.now in
    let is = append_leaves s.bytes.now s.capacity s.count s.used (entry_of c.args.entry) s.holds s.within c.head.ensures.fits c.requires
    c.head.result c.message-message.result.now c.to_be_bytes.result c.write_at.new.area c.write_at-2.new.area c.write_at-3.new.area c.messages_at.result
    c.head.ensures.value c.message-message.ensures c.to_be_bytes.ensures c.messages_at.ensures
    (rw c.from.ensures at c.write_at.ensures.after) c.write_at-2.ensures.after c.write_at-3.ensures.after in
    record { holds = is.0.0; within = is.0.1 }

pub returns : goal.returns
returns c =
    let s = c.args.self.now in
    (append_leaves s.bytes.now s.capacity s.count s.used (entry_of c.args.entry) s.holds s.within c.head.ensures.fits c.requires
    c.head.result c.message-message.result.now c.to_be_bytes.result c.write_at.new.area c.write_at-2.new.area c.write_at-3.new.area c.messages_at.result
    c.head.ensures.value c.message-message.ensures c.to_be_bytes.ensures c.messages_at.ensures
    (rw c.from.ensures at c.write_at.ensures.after) c.write_at-2.ensures.after c.write_at-3.ensures.after).1
