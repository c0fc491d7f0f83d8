use Rattle.std.proofs.Common.{eqb, sym, ap, ◌∙◌}
use Rattle.shelves.specs.Sounds.{length_pairs}
use Rattle.shelves.proofs.shelf.LentShelfShelf.is_empty.Goals as goal

pub returns : goal.returns
returns g c =
    let s = c.args.self.now in
    ap (λ n. eqb n 0) (c.len.ensures ∙ sym (length_pairs s.bytes.now (g.R.Rack.contents s.rack).rows))
