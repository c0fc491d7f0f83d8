use Rattle.std.proofs.Common.{◌≡◌, ◌+◌, ◌*◌, ◌≤◌, length, drop}
use Rattle.std.specs.List.{concat}
use Rattle.page.specs.Text.{sheet, wrote_all}
use Rattle.wire.specs.Messages.{lengths_in}
use Rattle.capture.specs.Inspecting.{length_pieces}
use Rattle.capture.proofs.lines.push_lengths.Given as goal

abbrev pub invariant-loop-length : goal.invariant-loop-length
invariant-loop-length l =
    (wrote_all (sheet l.page) (length_pieces (drop l.length-index (lengths_in l.messages)))
    ≡ wrote_all (sheet l.initial.page) (length_pieces (lengths_in l.messages)))
    × (length (concat (length_pieces (lengths_in l.messages)))
    ≤ 21 * l.length-index + length (concat (length_pieces (drop l.length-index (lengths_in l.messages)))))
