use Rattle.std.proofs.Common.{◌≡◌, take, Some, sym, ap, ◌∙◌, arith}
use Rattle.rows.specs.Order.{row_of, remove_by}
use Rattle.rows.proofs.Rises.{remove_absent}
use Rattle.shelves.specs.Heaps.{heap_rows}
use Rattle.shelves.proofs.Sorts.{sort_take, missed_sorted, found_upto, row_number}
use Rattle.shelves.proofs.heaping.calls.HeapRack.remove.Goals as goal

pub returns-in_err-i-clause-answer : goal.returns-in_err-i-clause-answer
returns-in_err-i-clause-answer c =
    let h = c.args.self.now in
    c.from_residual.ensures ∙ sym (missed_sorted c.args.number (take h.len h.rows.now) h.apart (sym c.position.ensures.index ∙ c.in_err-i.was))

pub returns-in_err-i-clause-rows : goal.returns-in_err-i-clause-rows
returns-in_err-i-clause-rows c =
    let h = c.args.self.now in
    sym (remove_absent c.args.number (heap_rows h) (missed_sorted c.args.number (take h.len h.rows.now) h.apart (sym c.position.ensures.index ∙ c.in_err-i.was)))

pub invariant_of-self : goal.invariant_of-self
invariant_of-self c =
    let h = c.args.self.now in
    record { fits = omega arith; apart = (sort_take c.pull_row-row.result _ _ h.apart c.pull_row-row.ensures.shuffled).0; ordered = c.pull_row-row.ensures.heap }

pub returns-clause-answer : goal.returns-clause-answer
returns-clause-answer c =
    let h = c.args.self.now in
    sym (found_upto c.args.number h.rows.now h.len c.in_ok-i.i c.pull_row-row.result h.fits h.apart (sym c.position.ensures.index ∙ c.in_ok-i.was) c.pull_row-row.ensures.row)

pub returns-clause-rows : goal.returns-clause-rows
returns-clause-rows c =
    let h = c.args.self.now in
    let row = c.pull_row-row.result in
    let has : row_of c.args.number (heap_rows h) ≡ Some row =
    found_upto c.args.number h.rows.now h.len c.in_ok-i.i row h.fits h.apart (sym c.position.ensures.index ∙ c.in_ok-i.was) c.pull_row-row.ensures.row in
    (sort_take row _ _ h.apart c.pull_row-row.ensures.shuffled).1 ∙ ap (λ k. remove_by k (heap_rows h)) (row_number c.args.number (heap_rows h) row has)
