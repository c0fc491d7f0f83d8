use Rattle.std.specs.Prelude.{count_by}
use Rattle.std.proofs.Common.{◌-◌, ap, ◌∙◌}
use Rattle.partials.specs.Places.{partials_at, misfit}
use Rattle.partials.proofs.Ends.{fitting-removed, own-removed, removes}
use Rattle.partials.proofs.table.Table.remove.Goals as goal

pub invariant_of-self-clause-fitting : goal.invariant_of-self-clause-fitting
invariant_of-self-clause-fitting c = ap (count_by misfit) c.rotated-self.ensures ∙ fitting-removed c.args.self.now c.args.i c.requires.within

pub invariant_of-self-clause-own : goal.invariant_of-self-clause-own
invariant_of-self-clause-own c = rw c.rotated-self.ensures (own-removed c.args.self.now c.args.i c.requires.within)

pub returns-clause-after : goal.returns-clause-after
returns-clause-after c =
    let t = c.args.self.now in
    ap (λ rows. partials_at t.memory.now rows (t.len - 1)) c.rotated-self.ensures ∙ removes t c.args.i c.requires.within
