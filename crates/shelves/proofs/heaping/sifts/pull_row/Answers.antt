use Rattle.std.proofs.Common.{◌≡◌, ◌-◌, ◌∷◌, get_or, take, drop, sym, ap, ◌∙◌, subst, arith}
use Rattle.std.specs.List.Sorted.{IsPermutation}
use Rattle.shelves.specs.Sifting.{heaped}
use Rattle.shelves.proofs.Moves.{fronted, pulled}
use Rattle.shelves.proofs.heaping.sifts.pull_row.Goals as goal

pub settle-requires : goal.settle-requires
settle-requires g c =
    (pulled c.args.rows.now c.swap.new.self c.args.len _ c.args.at c.index-rows-at.result (omega arith) c.requires.inside c.requires.fits
    c.swap.ensures.len c.swap.ensures.by_index).near c.requires.heap

pub returns : goal.returns
returns g c =
    let xs = c.args.rows.now in
    let zs = c.swap.new.self in
    let len = c.args.len in
    let at = c.args.at in
    let d = c.index-rows-at.result in
    let moved = c.settle.ensures.shuffled in
    let whole = fronted (len - 1) _ zs c.settle.new.rows (omega arith) (omega (arith, c.requires.fits, c.swap.ensures.len)) moved in
    let out = pulled xs zs len _ at d (omega arith) c.requires.inside c.requires.fits c.swap.ensures.len c.swap.ensures.by_index in
    let here : get_or xs at d ≡ d = sym c.index-rows-at.is in
    let out-moved : IsPermutation (take len xs) (d ∷ c.settle.new.rows) =
    subst (λ y. IsPermutation (take len xs) (y ∷ c.settle.new.rows)) here (out.shuffled _ moved) in
    record {
      row = c.index-rows-at.is;
      shuffled = subst (λ l. IsPermutation (take len xs) (d ∷ l)) (sym whole.front) out-moved;
      heap = ap heaped whole.front ∙ c.settle.ensures.heap;
      spares = whole.behind ∙ out.spares ∙ ap (λ y. y ∷ drop len xs) here;
    }
