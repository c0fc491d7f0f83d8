use Rattle.std.proofs.Common.{rules}
use Rattle.composing.specs.Lines.{composed_of}
use Rattle.composing.proofs.Areas.{size-answered, area_zeroed}
use Rattle.composing.proofs.text.compose.Goals as goal

pub returns : goal.returns
returns g c =
    let whole = composed_of (g.C.OpeningCoder.ready c.args.coder.now) (g.C.SealingCoder.seals c.args.coder.now) c.args.text.now in
    let area = c.compose_lines-answer.new.area in
    let answer = size-answered c.compose_lines-answer.result whole area (search rules) (search rules) in
    let after = area_zeroed c.compose_lines-answer.result whole area (search rules) (search rules) in
    record { answer = answer; after = search rules; within = search rules }
