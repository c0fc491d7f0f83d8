use Rattle.std.proofs.Common.{◌+◌, ◌*◌, length, arith}
use Rattle.shelves.specs.Sifting.{number_at}
use Rattle.shelves.proofs.HeapOrders.{number-at, least-of}
use Rattle.shelves.proofs.heaping.sifts.smaller_below.Goals as goal
use Rattle.shelves.proofs.heaping.sifts.smaller_below.Goals.{else-right-rows-via-then-right-rows+else-rows-right, else-right-rows-via-else-right-rows}

pub returns-then-rows-right : goal.returns-then-rows-right
returns-then-rows-right g c =
    let left = 2 * c.args.at + 1 in
    let xs = c.args.rows.now in
    record {
      after = omega arith;
      least = least-of (number_at xs) (length xs) c.args.at (left + 1) left (omega arith) (omega arith) (omega arith) (omega arith)
          (λ q. omega (arith, number-at xs (left + 1) c.index-rows-right.result (omega arith), number-at xs left c.index-rows-left.result q));
    }

pub returns-else-right-rows : goal.returns-else-right-rows
returns-else-right-rows g c =
    let left = 2 * c.args.at + 1 in
    let xs = c.args.rows.now in
    record {
      after = omega arith;
      least = least-of (number_at xs) (length xs) c.args.at left (left + 1) (omega arith) (omega arith) (omega arith) (omega arith)
          (λ q. elim c.else-right-rows.branch [
            | else-right-rows-via-then-right-rows+else-rows-right w ↦
                omega (arith, number-at xs (left + 1) w.index-rows-right.result q, number-at xs left w.index-rows-left.result (omega arith))
            | else-right-rows-via-else-right-rows w ↦ absurd (omega arith)
          ]);
    }
