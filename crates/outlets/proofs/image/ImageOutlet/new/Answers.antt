use Rattle.std.proofs.Common.{length}
use Rattle.outlets.proofs.Images.{new_leaves}
use Rattle.outlets.proofs.image.ImageOutlet.new.Goals as goal

pub invariant_of-result : goal.invariant_of-result
invariant_of-result c =
    let is = new_leaves c.args.capacity (length c.args.memory.now) c.zero.new.area c.write_at.new.area c.requires c.zero.ensures c.write_at.ensures.after in
    record { holds = is.0.0; within = is.0.1 }

pub returns : goal.returns
returns c =
    let is = new_leaves c.args.capacity (length c.args.memory.now) c.zero.new.area c.write_at.new.area c.requires c.zero.ensures c.write_at.ensures.after in
    record { listing = is.1; bytes = is.2 }
