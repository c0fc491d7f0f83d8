use Rattle.std.proofs.Common.{◌≡◌, ◌+◌, ◌≤◌, [], length, get_or, drop, decimal, arith, length-append, rules}
use Rattle.base.specs.Fields.{be}
use Rattle.std.proofs.lemmas.List.{length-map}
use Rattle.std.specs.List.{concat}
use Rattle.page.specs.Text.{sheet, wrote_all}
use Rattle.wire.specs.Messages.{lengths_in}
use Rattle.wire.proofs.Cuts.{lengths-more, lengths-all}
use Rattle.capture.specs.Inspecting.{length_pieces, messages_pieces}
use Rattle.capture.proofs.lines.push_lengths.Goals as goal

pub loop-length-preserved : goal.loop-length-preserved
loop-length-preserved c =
    let fours = c.args.messages.lengths.now in
    let i = c.loop-length.length-index in
    let n = c.from_be_bytes.result in
    let same : n ≡ be 4 (get_or fours i []) 0 = omega arith in
    let turn = lengths-more (λ ls. wrote_all (sheet c.loop-length.page) (length_pieces ls)) fours i n (omega arith) same in
    let more = lengths-more (λ ls. length (concat (length_pieces ls))) fours i n (omega arith) same in
    let left = concat (length_pieces (drop (i + 1) (lengths_in c.args.messages))) in
    let short : length (decimal n) ≤ 20 = search (rules, length-append) in
    (search rules, omega (arith, more, length-append (decimal n) left, c.loop-length.invariant.1))

pub returns : goal.returns
unfolding messages_pieces
returns c =
    let fours = c.args.messages.lengths.now in
    let i = c.loop-length.length-index in
    let end = lengths-all (λ ls. wrote_all (sheet c.loop-length.page) (length_pieces ls)) fours i (omega arith) in
    let none = lengths-all (λ ls. length (concat (length_pieces ls))) fours i (omega arith) in
    let count = length-map fours (λ four. be 4 four 0) in
    record { text = search rules; short = omega (arith, none, count, c.loop-length.invariant.1) }
