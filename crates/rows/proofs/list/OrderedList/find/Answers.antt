use Rattle.std.proofs.Common.{sym, ◌∙◌}
use Rattle.rows.specs.Meaning.{rows_of}
use Rattle.rows.proofs.Orders.{at, absent}
use Rattle.rows.proofs.list.OrderedList.find.Goals as goal

pub returns-in_err-i : goal.returns-in_err-i
returns-in_err-i g c = c.from_residual.ensures ∙ sym (absent c.args.number (rows_of c.args.self.now) (sym c.index.ensures.value ∙ c.in_err-i.was)).row

pub returns : goal.returns
returns g c = c.get.ensures ∙ sym (at c.args.number (rows_of c.args.self.now) c.in_ok-i.i (sym c.index.ensures.value ∙ c.in_ok-i.was)).row
