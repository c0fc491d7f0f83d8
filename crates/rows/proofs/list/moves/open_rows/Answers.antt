use Rattle.std.proofs.Common.{arith, rules}
use Rattle.std.proofs.lemmas.List.{places}
use Rattle.rows.proofs.Shifts.{opened, opened_spares}
use Rattle.rows.proofs.list.moves.open_rows.Goals as goal

pub returns : goal.returns
returns g c =
    record {
      after = opened c.args.rows.now _ c.args.len c.args.i c.args.row (omega arith) (omega arith) (search (rules, places))
          (λ k d h. search (rules, places)) (λ k d h m. search (rules, places));
      spares = opened_spares c.args.rows.now _ c.args.len c.args.i c.args.row (omega arith) (search (rules, places))
          (λ k d h m. search (rules, places));
    }
