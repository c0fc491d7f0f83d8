use Rattle.std.proofs.Common.{◌≡◌, true, ap, ◌∙◌, rules}
use Rattle.parts.specs.Given.{entry_of}
use Rattle.parts.specs.Listings.{fits, totals_of}
use Rattle.parts.proofs.Listed.{with_entry_totals}
use Rattle.outlets.specs.Meaning.{table_meaning}
use Rattle.outlets.proofs.table.calls.TableOutletOutlet.put.Goals as goal

pub returns-clause-totals : goal.returns-clause-totals
returns-clause-totals c =
    let fit : fits (table_meaning c.args.self.now) (entry_of c.args.entry) ≡ true = search rules in
    ap totals_of c.append.ensures ∙ with_entry_totals (table_meaning c.args.self.now) (entry_of c.args.entry) fit
