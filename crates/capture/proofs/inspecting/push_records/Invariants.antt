use Rattle.std.proofs.Common.{◌≡◌, ◌+◌, ◌*◌, ◌≤◌, length, sum_by}
use Rattle.std.specs.List.{concat}
use Rattle.std.specs.Iterator.Adapters.{zip_first, zip_second}
use Rattle.page.specs.Text.{sheet, wrote_all}
use Rattle.capture.specs.Inspecting.{lines_from}
use Rattle.capture.specs.Records.{records_of, size_of}
use Rattle.capture.proofs.inspecting.push_records.Given as goal

-- The lines of the records that are left make up the page; a line has no more than 48 bytes for each byte of its record.
abbrev pub invariant-loop-index : goal.invariant-loop-index
invariant-loop-index l =
    let index = (zip_first l.index-iterator).start in
    let left = records_of (zip_second l.index-iterator).0.now in
    let all = records_of l.capture.records.now in
    let size = length l.capture.records.now in
    record {
      few : index + sum_by size_of left ≤ 1 + size;
      text : wrote_all (sheet l.page) (lines_from l.capture.channel index left) ≡ wrote_all (sheet l.initial.page) (lines_from l.capture.channel 1 all);
      short : length (concat (lines_from l.capture.channel 1 all)) + 48 * sum_by size_of left
          ≤ 48 * size + length (concat (lines_from l.capture.channel index left));
    }
