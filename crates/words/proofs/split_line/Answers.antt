use Rattle.std.proofs.Common.{rules}
use Rattle.std.proofs.lemmas.List.{take_rest, take_all, drop_all}
use Rattle.words.proofs.split_line.Goals as goal

pub returns-then-end-text : goal.returns-then-end-text
returns-then-end-text c = search (rules, take_all, drop_all)

pub returns : goal.returns
returns c = search (rules, take_rest)
