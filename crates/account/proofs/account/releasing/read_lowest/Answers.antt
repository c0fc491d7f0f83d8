use Rattle.std.proofs.Common.{◌≤◌, length, take, is_some, Some, Ok, sym, ap, ◌∙◌, subst}
use Rattle.parts.specs.Holdings.{pair_of}
use Rattle.parts.proofs.Lowest.{lowest_is, read_ok, read_front}
use Rattle.account.proofs.account.releasing.read_lowest.Goals as goal

pub unwrap-requires-2 : goal.unwrap-requires-2
unwrap-requires-2 g c =
    let low = lowest_is (g.S.Shelf.holding c.args.shelf.now) c.args.first (g.S.Shelf.sound c.args.shelf.now) c.requires in
    ap is_some (read_ok _ c.args.first low c.args.plain.now c.unwrap.result (sym c.unwrap.ensures ∙ c.read.ensures.answer)).1

pub returns : goal.returns
returns g c =
    let h = g.S.Shelf.holding c.args.shelf.now in
    let sizes = c.unwrap-2.result in
    let low = lowest_is h c.args.first (g.S.Shelf.sound c.args.shelf.now) c.requires in
    let read = read_front h c.args.first low c.args.plain.now sizes (ap Ok (sym c.unwrap-2.ensures) ∙ sym c.unwrap.ensures ∙ c.read.ensures.answer) in
    record {
      head = low.head ∙ ap Some read.0 ∙ ap (λ b. Some (pair_of c.args.first sizes.count (take sizes.length b))) (sym c.read.ensures.after);
      fits = subst (λ b. sizes.length ≤ length b) (sym c.read.ensures.after) read.1;
    }
