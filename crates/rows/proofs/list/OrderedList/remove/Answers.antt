use Rattle.std.proofs.Common.{◌≡◌, ◌-◌, is_some, take, Some, sym, ap, ◌∙◌, arith}
use Rattle.rows.specs.Order.{index_of, remove_by}
use Rattle.rows.specs.Meaning.{rows_of}
use Rattle.rows.proofs.Orders.{at, absent, ascends-remove}
use Rattle.rows.proofs.Upto.{spare_out}
use Rattle.rows.proofs.list.OrderedList.remove.Goals as goal

pub returns-in_err-i-clause-answer : goal.returns-in_err-i-clause-answer
returns-in_err-i-clause-answer g c = c.from_residual.ensures ∙ sym (absent c.args.number (rows_of c.args.self.now) (sym c.index.ensures.value ∙ c.in_err-i.was)).row

pub returns-in_err-i-clause-after : goal.returns-in_err-i-clause-after
returns-in_err-i-clause-after g c = sym (absent c.args.number (rows_of c.args.self.now) (sym c.index.ensures.value ∙ c.in_err-i.was)).without

pub invariant_of-self : goal.invariant_of-self
invariant_of-self g c =
    let some : index_of c.args.number (rows_of c.args.self.now) ≡ Some c.in_ok-i.i = sym c.index.ensures.value ∙ c.in_ok-i.was in
    let out : take (c.args.self.now.len - 1) c.close_rows.new.rows ≡ remove_by c.args.number (rows_of c.args.self.now) =
    c.close_rows.ensures.after ∙ sym (at c.args.number (rows_of c.args.self.now) c.in_ok-i.i some).without in
    record { fits = omega arith; sorted = rw out (ascends-remove c.args.number (rows_of c.args.self.now) c.args.self.now.sorted) }

pub returns : goal.returns
returns g c =
    let some : index_of c.args.number (rows_of c.args.self.now) ≡ Some c.in_ok-i.i = sym c.index.ensures.value ∙ c.in_ok-i.was in
    let has = at c.args.number (rows_of c.args.self.now) c.in_ok-i.i some in
    let found = c.get-row.ensures ∙ sym has.row in
    record {
      answer = found;
      after = c.close_rows.ensures.after ∙ sym has.without;
      spares = spare_out c.args.self.now.rows.now c.args.self.now.len _ _ c.in_ok-i.i c.get-row.result has.within c.get-row.ensures
          (ap is_some found ∙ has.there) c.close_rows.ensures.spares;
      room = omega arith;
    }
