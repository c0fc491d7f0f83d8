use Rattle.std.proofs.Common.{◌≡◌, ◌+◌, ◌≤◌, length, take}
use Rattle.composing.specs.Lines.{composed_from, composed_of}
use Rattle.composing.proofs.text.compose_lines.Given as goal

abbrev pub invariant-loop-line : goal.invariant-loop-line
invariant-loop-line g l =
    (composed_from (g.C.OpeningCoder.ready l.coder) (g.C.SealingCoder.seals l.coder) 65536 l.stage l.number (take l.size l.area) l.line-iterator
    ≡ composed_of (g.C.OpeningCoder.ready l.coder) (g.C.SealingCoder.seals l.coder) l.text)
    × (l.size ≤ 65536) × (l.number + length l.line-iterator ≤ 1 + length l.text)
