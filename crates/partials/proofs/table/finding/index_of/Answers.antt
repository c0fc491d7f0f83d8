use Rattle.std.proofs.Common.{rules, tests, ◌∙◌}
use Rattle.std.proofs.lemmas.Iterator.{YieldsList-from_slice}
use Rattle.std.proofs.lemmas.Iterator.Search.{position_from_yields_List}
use Rattle.partials.specs.Joining.{is_head_of}
use Rattle.partials.specs.declared.table.row.Row.{Row}
use Rattle.partials.proofs.Finds.{index-is}
use Rattle.partials.proofs.table.finding.index_of.Goals as goal

pub returns : goal.returns
returns c =
    let s = c.args.key.sender in
    let f = c.args.key.first in
    let rows = c.args.rows.now in
    position_from_yields_List (λ (r : Row). is_head_of s f r.head) _ _ _ c.position.ensures.ran (YieldsList-from_slice rows (cc)) (λ x b q k. search (rules, tests)) ∙ index-is s f rows
