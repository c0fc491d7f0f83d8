use Rattle.std.proofs.Common.{◌+◌, ◌∷◌, take, set, sym, ap, ◌∙◌, subst, arith}
use Rattle.std.specs.List.Sorted.{IsPermutation}
use Rattle.std.proofs.lemmas.List.{length-set, drop-set-lt}
use Rattle.shelves.specs.Sifting.{heaped}
use Rattle.shelves.proofs.Moves.{fronted, pushed_lower, pushed_shuffled}
use Rattle.shelves.proofs.heaping.sifts.push_row.Goals as goal

pub sift_up-requires-clause-lower : goal.sift_up-requires-clause-lower
sift_up-requires-clause-lower g c = pushed_lower c.args.rows.now c.args.len _ c.args.row (omega arith) c.requires.free c.requires.heap

pub returns : goal.returns
returns g c =
    let xs = c.args.rows.now in
    let len = c.args.len in
    let row = c.args.row in
    let moved = c.sift_up.ensures.shuffled in
    let whole = fronted (len + 1) _ (set xs len row) c.sift_up.new.rows (omega arith) (omega (arith, length-set xs len row, c.requires.free)) moved in
    record {
      shuffled = subst (λ l. IsPermutation (row ∷ take len xs) l) (sym whole.front) (pushed_shuffled xs len _ row (omega arith) c.requires.free _ moved);
      heap = ap heaped whole.front ∙ c.sift_up.ensures.heap;
      spares = whole.behind ∙ drop-set-lt (len + 1) xs len row (omega arith);
    }
