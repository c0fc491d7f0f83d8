use Rattle.std.proofs.Common.{◌<◌, length, arith}
use Rattle.std.proofs.lemmas.List.Sorted.{IsPermutation-trans}
use Rattle.shelves.specs.Sifting.{number_at}
use Rattle.shelves.proofs.HeapOrders.{number-at, swapped_numbers, higher_leaf, higher_done, higher_step}
use Rattle.shelves.proofs.heaping.sifts.sift_down.Goals as goal

pub returns-then-rows-at : goal.returns-then-rows-at
returns-then-rows-at g c =
    let xs = c.down.rows in
    let at = c.down.at in
    let below = c.smaller_below-below.result in
    let least = c.smaller_below-below.ensures.least in
    record {
      shuffled = c.down.invariant.0;
      heap = higher_done (number_at xs) (length xs) at below c.down.invariant.1 least
          (omega (arith, number-at xs below c.index-rows-below.result least.within, number-at xs at c.index-rows-at.result (omega arith)));
    }

pub down-preserved : goal.down-preserved
down-preserved g c =
    let xs = c.down.rows in
    let zs = c.swap.new.self in
    let at = c.down.at in
    let inside : at < length xs = omega arith in
    let below = c.smaller_below-below.result in
    let least = c.smaller_below-below.ensures.least in
    let d = c.index-rows-at.result in (
      IsPermutation-trans c.args.rows.now xs zs c.down.invariant.0 c.swap.ensures.permutation,
      rw c.swap.ensures.len (higher_step (number_at xs) (number_at zs) (length xs) at below least
          (swapped_numbers xs zs at below d c.swap.ensures.len inside least.within c.swap.ensures.by_index)
          (omega (arith, number-at xs below c.index-rows-below.result least.within, number-at xs at d inside))
          c.down.invariant.1),
    )

pub returns : goal.returns
returns g c =
    record {
      shuffled = c.down.invariant.0;
      heap = higher_leaf _ _ c.down.at c.down.invariant.1 (omega arith);
    }
