use Rattle.std.proofs.Common.{is_some, sym, ap, ◌∙◌, arith}
use Rattle.std.proofs.lemmas.List.{length-drop, drop-drop}
use Rattle.shelves.proofs.Sorts.{sort_put}
use Rattle.shelves.proofs.heaping.calls.HeapRack.insert.Goals as goal

pub invariant_of-self : goal.invariant_of-self
invariant_of-self c =
    let h = c.args.self.now in
    let e = c.push_row.ensures in
    let put = sort_put c.args.row _ _ h.apart (ap is_some c.requires.absent) e.shuffled in
    record { fits = omega (arith, c.requires.free, length-drop h.len h.rows.now); apart = put.0; ordered = e.heap }

pub returns-clause-rows : goal.returns-clause-rows
returns-clause-rows c = (sort_put c.args.row _ _ c.args.self.now.apart (ap is_some c.requires.absent) c.push_row.ensures.shuffled).1

pub returns-clause-spares : goal.returns-clause-spares
returns-clause-spares c = c.push_row.ensures.spares ∙ sym (drop-drop 1 c.args.self.now.len c.args.self.now.rows.now)
