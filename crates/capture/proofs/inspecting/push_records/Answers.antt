use Rattle.std.proofs.Common.{◌≡◌, ◌+◌, length, ap, ◌∙◌, arith}
use Rattle.std.specs.List.{concat}
use Rattle.std.specs.Iterator.Adapters.{zip_first, zip_second}
use Rattle.page.specs.Text.{sheet, wrote_all}
use Rattle.capture.specs.Inspecting.{lines_from}
use Rattle.capture.specs.Records.{records_of, record_in}
use Rattle.capture.proofs.Taken.{one_byte, line_more, lengths_more, sizes_more}
use Rattle.capture.proofs.inspecting.push_records.Goals as goal

pub loop-index-preserved : goal.loop-index-preserved
loop-index-preserved c =
    let channel = c.args.capture.channel in
    let index = c.in-Some.index in
    let r = record_in c.in-Some.found in
    let left = records_of (zip_second c.loop-index.index-iterator).0.now in
    let more = records_of (zip_second c.next.new.self).0.now in
    let steps = c.in-Some.ensures.steps in
    let same : index ≡ (zip_first c.loop-index.index-iterator).start = steps.0.0 in
    let next : (zip_first c.next.new.self).start ≡ index + 1 = omega (arith, steps.0.1) in
    let sizes = sizes_more channel index left more r steps.1 in
    let lines = ap (λ n. length (concat (lines_from channel n left))) same in
    let others = ap (λ n. length (concat (lines_from channel n more))) next in
    record {
      few = omega (arith, sizes, one_byte r);
      text =
          ap (λ n. wrote_all (sheet c.push_record.new.page) (lines_from channel n more)) next
          ∙ line_more channel index left more r steps.1 (sheet c.loop-index.page) (sheet c.push_record.new.page) c.push_record.ensures.text
          ∙ ap (λ n. wrote_all (sheet c.loop-index.page) (lines_from channel n left)) same ∙ c.loop-index.invariant.text;
      short = omega (arith, sizes, lines, others, lengths_more channel index left more r steps.1, c.push_record.ensures.short);
    }
