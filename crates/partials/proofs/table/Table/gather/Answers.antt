use Rattle.std.proofs.Common.{◌≡◌, ◌+◌, ◌-◌, ◌*◌, length, take, drop, arith, length-drop}
use Rattle.std.proofs.lemmas.List.{length-take-le}
use Rattle.base.specs.Limits.{body_room}
use Rattle.std.proofs.lemmas.List.Sums.{sum_by-take-le}
use Rattle.partials.proofs.table.Table.gather.Goals as goal

pub splice-requires-clause-inside : goal.splice-requires-clause-inside
splice-requires-clause-inside c =
    let start = body_room * c.args.row.place in
    let memory = c.args.self.now.memory.now in
    let used = c.sum-used.result in
    let n : length (take (start + used - start) (drop start memory)) ≡ start + used - start = length-take-le (start + used - start) (drop start memory) (simp length-drop (omega arith)) in
    omega (arith, sum_by-take-le (λ x. x) c.args.row.lengths c.args.piece.index)
