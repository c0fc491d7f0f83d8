use Rattle.std.proofs.Common.{◌≡◌, ◌-◌, [], ◌++◌, length, take, drop, replicate, sym, ap, ◌∙◌, append-nil, arith, length-drop, length-take}
use Rattle.std.proofs.lemmas.List.{take_all, drop_all}
use Rattle.base.proofs.area.zero_from.Goals as goal

pub returns-then-at-area : goal.returns-then-at-area
returns-then-at-area c =
    let area = c.args.area.now in
    let at = c.args.at in
    let none : drop (length area - at) (drop at area) ≡ [] = drop_all (length area - at) (drop at area) (simp length-drop (omega arith)) in
    let size : length (take (length area - at) (drop at area)) ≡ length area - at = simp (length-take, length-drop) (omega arith) in
    ap (λ rest. take at area ++ (c.zero.new.area ++ rest)) none
    ∙ ap (λ rest. take at area ++ rest) (append-nil c.zero.new.area ∙ c.zero.ensures ∙ ap (λ n. replicate n 0) size)

pub returns-else-at-area : goal.returns-else-at-area
returns-else-at-area c =
    let area = c.args.area.now in
    let at = c.args.at in
    let none : length area - at ≡ 0 = omega arith in
    sym (ap (λ n. take at area ++ replicate n 0) none ∙ append-nil (take at area) ∙ take_all at area (omega arith))
