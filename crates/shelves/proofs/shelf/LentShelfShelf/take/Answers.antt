use Rattle.std.proofs.Common.{Some, sym, refl, ap, ◌∙◌}
use Rattle.std.specs.Option.{option_map}
use Rattle.parts.specs.Holdings.{sizes_of}
use Rattle.shelves.specs.Racks.{stock_of}
use Rattle.shelves.proofs.Racking.{racked-out}
use Rattle.shelves.proofs.Shelving.{found_sizes, row_absent, taken}
use Rattle.shelves.proofs.shelf.LentShelfShelf.take.Goals as goal

pub invariant_of-self : goal.invariant_of-self
invariant_of-self g c =
    let s = stock_of (g.R.Rack.contents c.args.self.now.rack) c.args.self.now.bytes.now in
    let e = c.remove.ensures in
    record {
      racked = racked-out s (stock_of (g.R.Rack.contents c.remove.new.self) s.bytes) c.args.self.now.racked e.room refl
          c.args.first c.remove.result e.answer e.rows e.spares;
    }

pub returns-in_err-row-clause-answer : goal.returns-in_err-row-clause-answer
returns-in_err-row-clause-answer g c =
    let s = stock_of (g.R.Rack.contents c.args.self.now.rack) c.args.self.now.bytes.now in
    c.from_residual.ensures ∙ sym (ap (option_map sizes_of) (row_absent s c.args.first (sym c.in_err-row.was ∙ c.remove.ensures.answer)))

pub returns-in_err-row-clause-after : goal.returns-in_err-row-clause-after
returns-in_err-row-clause-after g c =
    let s = stock_of (g.R.Rack.contents c.args.self.now.rack) c.args.self.now.bytes.now in
    let e = c.remove.ensures in
    taken s (stock_of (g.R.Rack.contents c.remove.new.self) s.bytes) c.args.first e.rows refl e.room

pub returns-clause-answer : goal.returns-clause-answer
returns-clause-answer g c =
    let s = stock_of (g.R.Rack.contents c.args.self.now.rack) c.args.self.now.bytes.now in
    ap Some c.from.ensures ∙ found_sizes s c.args.self.now.racked c.args.first c.in_ok-row.row (sym c.in_ok-row.was ∙ c.remove.ensures.answer)

pub returns-clause-after : goal.returns-clause-after
returns-clause-after g c =
    let s = stock_of (g.R.Rack.contents c.args.self.now.rack) c.args.self.now.bytes.now in
    let e = c.remove.ensures in
    taken s (stock_of (g.R.Rack.contents c.remove.new.self) s.bytes) c.args.first e.rows refl e.room
