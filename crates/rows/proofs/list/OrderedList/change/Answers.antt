use Rattle.std.proofs.Common.{◌≡◌, is_some, get_or, Some, None, sym, refl, ap, ◌∙◌, arith}
use Rattle.std.proofs.lemmas.List.{length-set}
use Rattle.rows.specs.Order.{index_of, with_part}
use Rattle.rows.specs.Meaning.{rows_of}
use Rattle.rows.proofs.Orders.{at, absent, ascends-change}
use Rattle.rows.proofs.Upto.{changed_upto, changed_behind}
use Rattle.rows.proofs.list.OrderedList.change.Goals as goal

pub returns-in_default : goal.returns-in_default
returns-in_default g c =
    let none : index_of c.args.number (rows_of c.args.self.now) ≡ None = cc in
    let lacks = absent c.args.number (rows_of c.args.self.now) none in
    record { answer = sym (ap is_some lacks.row); after = sym (lacks.with c.args.part); spares = refl; room = refl }

pub invariant_of-self : goal.invariant_of-self
invariant_of-self g c =
    let xs = c.args.self.now.rows.now in
    let some : index_of c.args.number (rows_of c.args.self.now) ≡ Some c.in-Some.i = sym c.index.ensures.value ∙ c.in-Some.is in
    let changed = changed_upto xs c.args.self.now.len c.args.number c.in-Some.i c.args.part some c.index-self-i.result in
    record {
      fits = omega (arith, length-set xs c.in-Some.i (with_part c.args.part (get_or xs c.in-Some.i c.index-self-i.result)), c.args.self.now.fits);
      sorted = rw changed (ascends-change c.args.number c.args.part (rows_of c.args.self.now) ∙ c.args.self.now.sorted);
    }

pub returns : goal.returns
returns g c =
    let xs = c.args.self.now.rows.now in
    let some : index_of c.args.number (rows_of c.args.self.now) ≡ Some c.in-Some.i = sym c.index.ensures.value ∙ c.in-Some.is in
    record {
      answer = sym (at c.args.number (rows_of c.args.self.now) c.in-Some.i some).there;
      after = changed_upto xs c.args.self.now.len c.args.number c.in-Some.i c.args.part some c.index-self-i.result;
      spares = changed_behind xs c.args.self.now.len c.args.number c.in-Some.i c.args.part some c.index-self-i.result;
      room = length-set xs c.in-Some.i (with_part c.args.part (get_or xs c.in-Some.i c.index-self-i.result));
    }
