use Rattle.std.proofs.Common.{◌≡◌, true, eqb, length, Some, Ok, sym, ap, ◌∙◌, arith}
use Rattle.std.specs.Option.{option_map}
use Rattle.std.proofs.lemmas.Bool.{eq-eqb, cond-true}
use Rattle.base.specs.Limits.{body_room}
use Rattle.parts.specs.Holdings.{sizes_of, copied}
use Rattle.shelves.specs.Racks.{stock_of}
use Rattle.shelves.proofs.Shelving.{found_fits, found_sizes, row_found, row_absent}
use Rattle.shelves.proofs.shelf.LentShelfShelf.read.Goals as goal

pub returns-in_default : goal.returns-in_default
returns-in_default g c =
    let s = stock_of (g.R.Rack.contents c.args.self.now.rack) c.args.self.now.bytes.now in
    let whole : eqb (length c.args.into.now) body_room ≡ true = eq-eqb _ _ (omega arith) in
    let none = row_absent s c.args.first c.in_default.ensures in
    record {
      answer = sym (cond-true _ _ _ whole ∙ ap (λ o. Ok (option_map sizes_of o)) none);
      after = sym (cond-true _ _ _ whole ∙ ap (λ o. copied o c.args.into.now) none);
    }

pub load-requires : goal.load-requires
load-requires g c =
    let s = stock_of (g.R.Rack.contents c.args.self.now.rack) c.args.self.now.bytes.now in
    let fits = found_fits s c.args.self.now.racked c.args.first c.in-Some.row c.in-Some.ensures in
    record { whole = omega arith; inside = rw c.from.ensures fits.0; short = rw c.from-2.ensures fits.1 }

pub returns : goal.returns
returns g c =
    let s = stock_of (g.R.Rack.contents c.args.self.now.rack) c.args.self.now.bytes.now in
    let whole : eqb (length c.args.into.now) body_room ≡ true = eq-eqb _ _ (omega arith) in
    record {
      answer = ap (λ z. Ok (Some z)) c.from-3.ensures ∙ ap Ok (found_sizes s c.args.self.now.racked c.args.first c.in-Some.row c.in-Some.ensures)
          ∙ sym (cond-true _ _ _ whole);
      after = (rw c.from-2.ensures at (rw c.from.ensures at c.load.ensures)) ∙ sym (cond-true _ _ _ whole ∙ ap (λ o. copied o c.args.into.now) (row_found s c.args.first c.in-Some.row c.in-Some.ensures));
    }
