use Rattle.std.proofs.Common.{◌+◌, ◌-◌, ◌≤◌, take, drop, rules}
use Rattle.composing.specs.Lines.{composed_of}
use Rattle.composing.proofs.Loops.{line_bad, line_within, line_more, lines_end}
use Rattle.composing.proofs.text.compose_lines.Given as given
use Rattle.composing.proofs.text.compose_lines.Goals as goal

pub loop-line-init : goal.loop-line-init
unfolding composed_of
loop-line-init g c = (search rules, search rules, search rules)

pub returns-in_err-size-clause-capture : goal.returns-in_err-size-clause-capture
returns-in_err-size-clause-capture g c =
    let area = c.loop-line.area in
    let size = c.loop-line.size in
    let bad =
    line_bad (g.C.OpeningCoder.ready c.args.coder.now) (g.C.SealingCoder.seals c.args.coder.now) 65536 c.loop-line.number size c.loop-line.stage area
    c.in-Some.line.now c.loop-line.line-iterator c.next.new.self (take (65536 - size) (drop size area))
    (composed_of (g.C.OpeningCoder.ready c.args.coder.now) (g.C.SealingCoder.seals c.args.coder.now) c.args.text.now) c.loop-line.invariant.0 (search rules)
    (search rules) c.loop-line.invariant.1 (search rules) (search rules) in
    search rules

fits : (g : given.Over) (c : goal.After-stage_after-stage g) → c.loop-line.size + c.in_ok-size.field-0 ≤ 65536
fits g c =
    let area = c.loop-line.area in
    let size = c.loop-line.size in
    line_within (g.C.OpeningCoder.ready c.args.coder.now) (g.C.SealingCoder.seals c.args.coder.now) 65536 c.loop-line.number size c.loop-line.stage area
    c.in-Some.line.now c.loop-line.line-iterator c.next.new.self (take (65536 - size) (drop size area))
    (composed_of (g.C.OpeningCoder.ready c.args.coder.now) (g.C.SealingCoder.seals c.args.coder.now) c.args.text.now) c.loop-line.invariant.0 (search rules)
    (search rules) c.loop-line.invariant.1 (search rules) c.in_ok-size.field-0 c.put_line-added.new.out (search rules)

pub loop-line-preserved : goal.loop-line-preserved
loop-line-preserved g c =
    let area = c.loop-line.area in
    let size = c.loop-line.size in (
      line_more (g.C.OpeningCoder.ready c.args.coder.now) (g.C.SealingCoder.seals c.args.coder.now) 65536 c.loop-line.number size c.loop-line.stage area
          c.in-Some.line.now c.loop-line.line-iterator c.next.new.self (take (65536 - size) (drop size area))
          (composed_of (g.C.OpeningCoder.ready c.args.coder.now) (g.C.SealingCoder.seals c.args.coder.now) c.args.text.now) c.loop-line.invariant.0 (search rules)
          (search rules) c.loop-line.invariant.1 (search rules) c.in_ok-size.field-0 c.put_line-added.new.out (search rules) (search rules)
          c.stage_after-stage.result c.stage_after-stage.ensures,
      fits g c,
      search rules,
    )

pub returns-in-Some-stage-clause-capture : goal.returns-in-Some-stage-clause-capture
returns-in-Some-stage-clause-capture g c =
    let whole =
    lines_end (g.C.OpeningCoder.ready c.args.coder.now) (g.C.SealingCoder.seals c.args.coder.now) 65536 c.loop-line.number c.loop-line.stage (take c.loop-line.size c.loop-line.area) c.loop-line.line-iterator
    (composed_of (g.C.OpeningCoder.ready c.args.coder.now) (g.C.SealingCoder.seals c.args.coder.now) c.args.text.now) (search rules) c.loop-line.invariant.0 in
    search rules

pub returns-in-None-stage-clause-capture : goal.returns-in-None-stage-clause-capture
returns-in-None-stage-clause-capture g c =
    let whole =
    lines_end (g.C.OpeningCoder.ready c.args.coder.now) (g.C.SealingCoder.seals c.args.coder.now) 65536 c.loop-line.number c.loop-line.stage (take c.loop-line.size c.loop-line.area) c.loop-line.line-iterator
    (composed_of (g.C.OpeningCoder.ready c.args.coder.now) (g.C.SealingCoder.seals c.args.coder.now) c.args.text.now) (search rules) c.loop-line.invariant.0 in
    search rules
