use Rattle.parts.specs.Given.{entry_of}
use Rattle.outlets.proofs.Tables.{append_leaves}
use Rattle.outlets.proofs.table.TableOutlet.append.Goals as goal

pub invariant_of-self-2 : goal.invariant_of-self-2
invariant_of-self-2 c =
    let s = c.args.self.now in
    let is = append_leaves s.records.now s.used s.area.now s.filled (entry_of c.args.entry) s.sound c.requires
    c.message-message.result.now c.write_at.new.area c.record_of.result c.message-message.ensures c.record_of.ensures c.write_at.ensures.after in
    record { sound = is.0 }

pub returns : goal.returns
returns c =
    let s = c.args.self.now in
    (append_leaves s.records.now s.used s.area.now s.filled (entry_of c.args.entry) s.sound c.requires
    c.message-message.result.now c.write_at.new.area c.record_of.result c.message-message.ensures c.record_of.ensures c.write_at.ensures.after).1
