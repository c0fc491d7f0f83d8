use Rattle.std.proofs.Common.{◌-◌, length, take, drop, ap, ◌∙◌, arith}
use Rattle.std.proofs.lemmas.List.{take_rest}
use Rattle.base.specs.Fields.{be}
use Rattle.base.proofs.Fields.{be-take, be-drop}
use Rattle.wire.proofs.fields.bytes_at.Goals as goal

pub returns : goal.returns
returns g c =
    let n = g.row.N in
    let bytes = c.args.bytes.now in
    let chunk = rw c.unwrap.ensures at c.first_chunk.ensures.cases in
    ap (λ l. be n l 0) chunk.same ∙ be-take n n (take (length bytes - c.args.at) (drop c.args.at bytes)) (omega arith)
    ∙ ap (λ l. be n l 0) (take_rest bytes c.args.at) ∙ be-drop n c.args.at bytes
