use Rattle.std.proofs.Common.{ap, ◌∙◌}
use Rattle.partials.specs.Known.{distinct, all_unfinished}
use Rattle.partials.specs.Meaning.{partials_of}
use Rattle.partials.proofs.Standing.{distinct_without, each-without}
use Rattle.partials.proofs.reassembly.Partials.end.Goals as goal

pub invariant_of-self : goal.invariant_of-self
invariant_of-self c =
    let p = c.args.self.now in
    record {
      apart = ap distinct c.end.ensures ∙ distinct_without c.args.sender c.args.first (partials_of p) p.apart;
      each = ap all_unfinished c.end.ensures ∙ each-without c.args.sender c.args.first (partials_of p) p.each;
    }
