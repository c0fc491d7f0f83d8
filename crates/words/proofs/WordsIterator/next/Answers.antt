use Rattle.std.proofs.Common.{rules}
use Rattle.words.proofs.Lists.{words_end, words_next}
use Rattle.words.proofs.WordsIterator.next.Goals as goal

pub returns-then-is_empty-clause-steps : goal.returns-then-is_empty-clause-steps
returns-then-is_empty-clause-steps c = let none = words_end c.self.inside.rest.now c.split_word.result.0.now (search rules) (search rules) in search rules

pub returns-clause-steps : goal.returns-clause-steps
returns-clause-steps c = let next = words_next c.self.inside.rest.now c.split_word.result.0.now c.split_word.result.1.now (search rules) (search rules) (search rules) in search rules

pub returns-clause-goes : goal.returns-clause-goes
returns-clause-goes c = let next = words_next c.self.inside.rest.now c.split_word.result.0.now c.split_word.result.1.now (search rules) (search rules) (search rules) in search rules
