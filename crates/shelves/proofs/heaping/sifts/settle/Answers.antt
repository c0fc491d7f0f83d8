use Rattle.std.proofs.Common.{length, arith}
use Rattle.shelves.specs.Sifting.{above, number_at}
use Rattle.shelves.proofs.HeapOrders.{number-at, near_lower, near_higher}
use Rattle.shelves.proofs.heaping.sifts.settle.Goals as goal
use Rattle.shelves.proofs.heaping.sifts.settle.Goals.{else-at-gt0-via-then-at-gt0+then-at-rows+else-rows-at, else-at-gt0-via-then-at-gt0+else-at-rows, else-at-gt0-via-else-at-gt0}

pub sift_up-requires : goal.sift_up-requires
sift_up-requires g c =
    let xs = c.args.rows.now in
    let at = c.args.at in
    let inside = c.if-at-rows.true in
    record {
      inside = inside;
      lower = near_lower (number_at xs) (length xs) at c.requires (omega arith)
          (omega (arith, number-at xs at c.index-rows-at.result inside, number-at xs (above at) c.index-rows-at-then-at-rows.result (omega arith)));
    }

pub sift_down-requires : goal.sift_down-requires
sift_down-requires g c =
    let xs = c.args.rows.now in
    let at = c.args.at in
    near_higher (number_at xs) (length xs) at c.requires (λ z inside. elim c.else-at-gt0.branch [
      | else-at-gt0-via-then-at-gt0+then-at-rows+else-rows-at w ↦
          omega (arith, number-at xs at w.index-rows-at.result inside, number-at xs (above at) w.index-rows-at-then-at-rows.result (omega arith))
      | else-at-gt0-via-then-at-gt0+else-at-rows w ↦ absurd (omega arith)
      | else-at-gt0-via-else-at-gt0 w ↦ absurd (omega arith)
    ])
