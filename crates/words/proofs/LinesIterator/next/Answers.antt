use Rattle.std.proofs.Common.{rules}
use Rattle.words.proofs.Lists.{lines_next}
use Rattle.words.proofs.LinesIterator.next.Goals as goal

pub returns-clause-steps : goal.returns-clause-steps
returns-clause-steps c = let next = lines_next c.self.inside.rest.now c.split_line.result.0.now c.split_line.result.1.now (search rules) (search rules) (search rules) in search rules

pub returns-clause-goes : goal.returns-clause-goes
returns-clause-goes c = let next = lines_next c.self.inside.rest.now c.split_line.result.0.now c.split_line.result.1.now (search rules) (search rules) (search rules) in search rules
