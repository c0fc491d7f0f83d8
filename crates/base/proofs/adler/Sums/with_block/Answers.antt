use Rattle.std.proofs.Common.{arith, rules}
use Rattle.std.proofs.lemmas.List.Sums.{fold_more}
use Rattle.std.proofs.lemmas.List.{take_all}
use Rattle.base.proofs.AdlerSteps.{step_mod}
use Rattle.base.proofs.adler.Sums.with_block.Goals as goal

pub loop-x-preserved : goal.loop-x-preserved
loop-x-preserved c = (search (rules, fold_more, step_mod), omega arith, omega arith)

pub returns : goal.returns
returns c = search (rules, take_all)
