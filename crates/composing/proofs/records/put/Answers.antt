use Rattle.std.proofs.Common.{rules}
use Rattle.composing.proofs.Fronts.{front_written}
use Rattle.composing.proofs.records.put.Goals as goal

pub returns : goal.returns
returns c = search (rules, front_written)
