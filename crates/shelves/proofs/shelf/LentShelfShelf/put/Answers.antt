use Rattle.std.proofs.Common.{◌≡◌, is_some, None, Err, sym, refl, ap, ◌∙◌, arith}
use Rattle.std.proofs.lemmas.Grind.{common_steps}
use Rattle.std.specs.List.{slice_get}
use Rattle.parts.specs.Holdings.{pair_of}
use Rattle.rows.specs.Order.{row_of}
use Rattle.rows.proofs.Rises.{none_of}
use Rattle.shelves.specs.Racks.{holding_of, stock_of}
use Rattle.shelves.proofs.Racking.{racked-put}
use Rattle.shelves.proofs.Tidying.{free_place}
use Rattle.shelves.proofs.Shelving.{Putting, hold_present, hold_full, hold_refused, none_first, some_first, put_inside, put_answer, put_after}
use Rattle.shelves.proofs.shelf.LentShelfShelf.put.Goals as goal

pub returns-then-is_some : goal.returns-then-is_some
returns-then-is_some g c =
    let s = stock_of (g.R.Rack.contents c.args.self.now.rack) c.args.self.now.bytes.now in
    let is = hold_present s c.args.first c.args.count c.args.body.now c.if-body-gt-BODY_ROOM.false
    (ap is_some (sym c.find.ensures) ∙ sym c.is_some.ensures ∙ c.if-is_some.true) in
    record { answer = ap Err c.new-then-is_some.ensures ∙ sym is; after = hold_refused (holding_of s) (pair_of c.args.first c.args.count c.args.body.now) _ is }

pub returns-in_err-spare : goal.returns-in_err-spare
returns-in_err-spare g c =
    let s = stock_of (g.R.Rack.contents c.args.self.now.rack) c.args.self.now.bytes.now in
    let absent : None ≡ slice_get s.spares 0 = grind (arith, common_steps) in
    let answer : c.from_residual.result ≡ Err c.new-full.result = grind (arith, common_steps) in
    let is = hold_full s c.args.first c.args.count c.args.body.now c.if-body-gt-BODY_ROOM.false
    (ap is_some (sym c.find.ensures) ∙ sym c.is_some.ensures ∙ c.if-is_some.false)
    (omega (arith, none_first s.spares absent, c.args.self.now.racked.whole)) in
    record { answer = answer ∙ ap Err c.new-full.ensures ∙ sym is; after = hold_refused (holding_of s) (pair_of c.args.first c.args.count c.args.body.now) _ is }

pub insert-requires : goal.insert-requires
insert-requires g c =
    let s = stock_of (g.R.Rack.contents c.args.self.now.rack) c.args.self.now.bytes.now in
    let h : Putting s c.args.first c.args.body.now c.in_ok-spare.spare = record {
      short = c.if-body-gt-BODY_ROOM.false;
      absent = ap is_some (sym c.find.ensures) ∙ sym c.is_some.ensures ∙ c.if-is_some.false;
      next = grind (arith, common_steps);
    } in
    record { absent = none_of (row_of c.args.first s.rows) h.absent; free = some_first s.spares c.in_ok-spare.spare h.next }

pub store-requires : goal.store-requires
store-requires g c =
    let s = stock_of (g.R.Rack.contents c.args.self.now.rack) c.args.self.now.bytes.now in
    let h : Putting s c.args.first c.args.body.now c.in_ok-spare.spare = record {
      short = c.if-body-gt-BODY_ROOM.false;
      absent = ap is_some (sym c.find.ensures) ∙ sym c.is_some.ensures ∙ c.if-is_some.false;
      next = grind (arith, common_steps);
    } in
    record {
      short = h.short;
      inside = omega (arith, c.from.ensures, put_inside s c.args.first c.args.count c.args.body.now c.in_ok-spare.spare c.args.self.now.racked h);
    }

pub invariant_of-self : goal.invariant_of-self
invariant_of-self g c =
    let s = stock_of (g.R.Rack.contents c.args.self.now.rack) c.args.self.now.bytes.now in
    let h : Putting s c.args.first c.args.body.now c.in_ok-spare.spare = record {
      short = c.if-body-gt-BODY_ROOM.false;
      absent = ap is_some (sym c.find.ensures) ∙ sym c.is_some.ensures ∙ c.if-is_some.false;
      next = grind (arith, common_steps);
    } in
    let e = c.insert.ensures in
    record {
      racked = racked-put s (stock_of (g.R.Rack.contents c.insert.new.self) s.bytes) c.args.self.now.racked e.room refl
          _ (none_of (row_of c.args.first s.rows) h.absent) (some_first s.spares c.in_ok-spare.spare h.next)
          (ap free_place h.next) h.short e.rows e.spares;
    }

pub returns : goal.returns
returns g c =
    let s = stock_of (g.R.Rack.contents c.args.self.now.rack) c.args.self.now.bytes.now in
    let h : Putting s c.args.first c.args.body.now c.in_ok-spare.spare = record {
      short = c.if-body-gt-BODY_ROOM.false;
      absent = ap is_some (sym c.find.ensures) ∙ sym c.is_some.ensures ∙ c.if-is_some.false;
      next = grind (arith, common_steps);
    } in
    let e = c.insert.ensures in
    record {
      answer = sym (put_answer s c.args.first c.args.count c.args.body.now c.in_ok-spare.spare c.args.self.now.racked h);
      after = put_after s c.args.first c.args.count c.args.body.now c.in_ok-spare.spare c.args.self.now.racked h
          (stock_of (g.R.Rack.contents c.insert.new.self) c.store.new.bytes) e.rows (rw c.from.ensures at c.store.ensures) e.room;
    }
