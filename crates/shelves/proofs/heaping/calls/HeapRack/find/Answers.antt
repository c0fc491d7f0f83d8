use Rattle.std.proofs.Common.{take, sym, ◌∙◌, arith}
use Rattle.std.proofs.lemmas.List.{get_or_default}
use Rattle.shelves.proofs.Sorts.{missed_sorted, found_upto}
use Rattle.shelves.proofs.heaping.calls.HeapRack.find.Goals as goal

pub returns-in_err-i : goal.returns-in_err-i
returns-in_err-i c =
    let h = c.args.self.now in
    c.from_residual.ensures ∙ sym (missed_sorted c.args.number (take h.len h.rows.now) h.apart (sym c.position.ensures.index ∙ c.in_err-i.was))

pub returns : goal.returns
returns c =
    let h = c.args.self.now in
    sym (found_upto c.args.number h.rows.now h.len c.in_ok-i.i _ h.fits h.apart (sym c.position.ensures.index ∙ c.in_ok-i.was)
    (get_or_default h.rows.now c.in_ok-i.i _ _ (omega (arith, c.in_ok-i.ensures.within, h.fits))))
