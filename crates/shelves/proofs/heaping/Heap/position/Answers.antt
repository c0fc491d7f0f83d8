use Rattle.std.proofs.Common.{eqb, ap, ◌∙◌, rules, tests}
use Rattle.std.proofs.lemmas.Iterator.{YieldsList-from_slice}
use Rattle.std.proofs.lemmas.Iterator.Adapters.{position_from-zero}
use Rattle.std.proofs.lemmas.Iterator.Search.{position_from_yields_List}
use Rattle.rows.specs.Order.{index_of}
use Rattle.rows.specs.declared.row.Row.{Row}
use Rattle.shelves.specs.declared.held.Held.{Held}
use Rattle.shelves.proofs.Counting.{position-index}
use Rattle.shelves.proofs.heaping.Heap.position.Goals as goal

pub returns-clause-index : goal.returns-clause-index
returns-clause-index c =
    let h = c.args.self.now in
    position_from_yields_List (λ (x : Row Held). eqb x.number c.args.number) _ _ _ c.position.ensures.ran (YieldsList-from_slice c.used.result.now (cc)) (λ x b q k. search (rules, tests))
    ∙ position_from-zero (λ (x : Row Held). eqb x.number c.args.number) c.used.result.now
    ∙ (position-index c.args.number c.used.result.now ∙ ap (λ l. index_of c.args.number l) c.used.ensures)
