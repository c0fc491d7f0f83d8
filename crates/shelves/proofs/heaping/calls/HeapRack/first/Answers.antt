use Rattle.std.proofs.Common.{◌≡◌, take, ◌∙◌, rules}
use Rattle.std.specs.List.{slice_get}
use Rattle.shelves.proofs.HeapOrders.{heap_first}
use Rattle.shelves.proofs.heaping.calls.HeapRack.first.Goals as goal

pub returns : goal.returns
returns c =
    let h = c.args.self.now in
    let front : c.copied.result ≡ slice_get (take h.len h.rows.now) 0 = search rules in
    front ∙ heap_first (take h.len h.rows.now) h.ordered h.apart
