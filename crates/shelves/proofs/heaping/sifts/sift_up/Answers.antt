use Rattle.std.proofs.Common.{◌≡◌, length, arith}
use Rattle.std.proofs.lemmas.List.Sorted.{IsPermutation-trans}
use Rattle.shelves.specs.Sifting.{above, number_at}
use Rattle.shelves.proofs.HeapOrders.{number-at, swapped_numbers, lower_top, lower_done, lower_step}
use Rattle.shelves.proofs.heaping.sifts.sift_up.Goals as goal

pub returns-then-rows-above : goal.returns-then-rows-above
returns-then-rows-above g c =
    let xs = c.up.rows in
    let at = c.up.at in
    let inside = c.up.invariant.0 in
    record {
      shuffled = c.up.invariant.1;
      heap = lower_done (number_at xs) (length xs) at c.up.invariant.2
          (omega (arith, number-at xs (above at) c.index-rows-above.result (omega arith), number-at xs at c.index-rows-at.result inside));
    }

pub up-preserved : goal.up-preserved
up-preserved g c =
    let xs = c.up.rows in
    let zs = c.swap.new.self in
    let at = c.up.at in
    let inside = c.up.invariant.0 in
    let d = c.index-rows-at.result in (
      omega arith,
      IsPermutation-trans c.args.rows.now xs zs c.up.invariant.1 c.swap.ensures.permutation,
      rw c.swap.ensures.len (lower_step (number_at xs) (number_at zs) (length xs) at c.up-test.true inside
          (swapped_numbers xs zs (above at) at d c.swap.ensures.len (omega arith) inside c.swap.ensures.by_index)
          (omega (arith, number-at xs (above at) c.index-rows-above.result (omega arith), number-at xs at d inside))
          c.up.invariant.2),
    )

pub returns : goal.returns
returns g c =
    record {
      shuffled = c.up.invariant.1;
      heap = lower_top _ _ (let z : c.up.at ≡ 0 = omega arith in rw z at c.up.invariant.2);
    }
