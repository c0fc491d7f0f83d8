use Rattle.std.proofs.Common.{sym, ◌∙◌, arith}
use Rattle.partials.proofs.Finds.{found_at, missed_at}
use Rattle.partials.proofs.table.Table.end.Goals as goal

pub remove-requires : goal.remove-requires
remove-requires c =
    let t = c.args.self.now in
    record { within = (found_at t.memory.now t.rows t.len c.args.key.sender c.args.key.first c.in-Some.i (omega arith) (sym c.in-Some.ensures)).within }

pub returns-in-Some : goal.returns-in-Some
returns-in-Some c =
    let t = c.args.self.now in
    let found = found_at t.memory.now t.rows t.len c.args.key.sender c.args.key.first c.in-Some.i (omega arith) (sym c.in-Some.ensures) in
    c.remove.ensures.after ∙ sym found.out

pub returns-in_default : goal.returns-in_default
returns-in_default c =
    let t = c.args.self.now in
    sym (missed_at t.memory.now t.rows t.len c.args.key.sender c.args.key.first (sym c.in_default.ensures)).1
