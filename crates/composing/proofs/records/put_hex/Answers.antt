use Rattle.std.proofs.Common.{◌≡◌, ◌+◌, ◌-◌, [], ◌∷◌, ◌++◌, length, get_or, take, drop, refl, ap, ◌∙◌, arith, rules, ◌<◌}
use Rattle.std.proofs.lemmas.Grind.{common_steps}
use borrow.Rule.Slice.PartMut.{put_mid}
use Rattle.base.specs.Fields.{be_bytes}
use Rattle.composing.proofs.Hexes.{hex_short, hex_none, hex_large, hex_put, three_over}
use Rattle.composing.proofs.records.put_hex.Goals as goal

pub returns-then-out-lt3 : goal.returns-then-out-lt3
returns-then-out-lt3 c = search (rules, hex_short)

pub returns-in_err-size : goal.returns-in_err-size
returns-in_err-size c = search (rules, hex_none)

pub returns-in_err-ok : goal.returns-in_err-ok
returns-in_err-ok c =
    let out = c.args.out.now in
    let large : 65535 < c.in_ok-size.size = grind (arith, common_steps) in
    rw c.from_residual-in_err-ok.ensures (hex_large (length out) (length (take (length out - 3) (drop 3 out))) c.in_ok-size.size c.args.word.now c.in_ok-size.ensures.size large)

pub returns : goal.returns
returns c =
    let out = c.args.out.now in
    let old = take (length out - 3) (drop 3 out) in
    let size = c.in_ok-size.size in
    let part = c.hex_into.new.out in
    let two = c.write_at.new.area in
    let bytes = c.to_be_bytes.result in
    let head = 1 ∷ (get_or bytes 0 0 ∷ (get_or bytes 1 0 ∷ [])) in
    let same : head ≡ 1 ∷ be_bytes 2 size = search rules in
    let over =
    three_over out (put_mid 3 (length out - 3) out part) two part head (length out - 3) c.in_ok-start.start refl (search rules) (search rules) refl
    c.in_ok-start.ensures.end c.in_ok-start.ensures.after in
    hex_put (length out) (length old) size c.in_ok-start.start c.args.word.now old (drop (3 + length part) out) two head (search rules)
    c.in_ok-size.ensures.size over.0 refl same (search rules)
    (over.1 ∙ ap (λ p. head ++ (p ++ drop (3 + length part) out)) c.in_ok-size.ensures.after)
