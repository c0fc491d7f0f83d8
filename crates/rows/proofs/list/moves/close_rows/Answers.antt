use Rattle.std.proofs.Common.{arith, rules}
use Rattle.std.proofs.lemmas.List.{places}
use Rattle.rows.proofs.Shifts.{closed, closed_spares}
use Rattle.rows.proofs.list.moves.close_rows.Goals as goal

pub returns : goal.returns
returns g c =
    record {
      after = closed c.args.rows.now _ c.args.len c.args.i (omega arith) (omega arith) (search (rules, places))
          (λ k d h. search (rules, places)) (λ k d h m. search (rules, places));
      spares = closed_spares c.args.rows.now _ c.args.len c.args.i (omega arith) (omega arith) (search (rules, places))
          (λ d. search (rules, places)) (λ k d h m. search (rules, places));
    }
