use Rattle.std.proofs.Common.{length, ap, ◌∙◌, arith}
use Rattle.std.proofs.lemmas.List.Edits.{fill_by_more}
use Rattle.shelves.proofs.Tidying.{blank, numbered}
use Rattle.shelves.proofs.held.looking.number_places.Goals as goal

pub loop-i-preserved : goal.loop-i-preserved
loop-i-preserved c = fill_by_more blank c.loop-i.rows c.loop-i.i (blank 0) (omega arith) c.loop-i.invariant

pub returns : goal.returns
returns c = numbered (length c.loop-i.rows) 0 c.loop-i.rows (omega arith) (λ k h. c.loop-i.invariant k (omega arith) ∙ ap blank (omega arith))
