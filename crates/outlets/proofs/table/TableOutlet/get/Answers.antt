use Rattle.std.proofs.Common.{Some, sym, ap, ◌∙◌}
use Rattle.outlets.proofs.Tables.{ends_at, entry_at}
use Rattle.outlets.proofs.table.TableOutlet.get.Goals as goal

pub entry_by-requires : goal.entry_by-requires
entry_by-requires c =
    let s = c.args.self.now in
    let kept = c.in_ok-kept.ensures.lookup in
    ends_at s.records.now s.used s.area.now s.filled c.args.i s.sound _ kept.3.0 kept.1

pub returns : goal.returns
returns c =
    let s = c.args.self.now in
    let kept = c.in_ok-kept.ensures.lookup in
    ap Some c.entry_by.ensures ∙ sym (entry_at s.records.now s.used s.area.now s.filled c.args.i s.sound _ kept.3.0 kept.1)
