use Rattle.std.proofs.Common.{arith, rules}
use Rattle.wire.proofs.Cuts.{reaches_none, reaches_more, split_here, split_behind, split_whole, sum_whole}
use Rattle.wire.proofs.MessageLemmas.{lengths_in_lem}
use Rattle.wire.proofs.splitting.split.Goals as goal

pub loop-i-init : goal.loop-i-init
loop-i-init c = reaches_none _ _ _ c.split_at.result.0.now _ c.from-n.ensures (search rules) (search rules) (search rules) c.as_chunks.ensures.front

pub loop-i-preserved : goal.loop-i-preserved
loop-i-preserved c = reaches_more _ _ _ _ _ c.loop-i.invariant c.in_ok-at.at c.loop-i-test.true (search rules) (search rules)

pub returns-in_err-at-clause-value : goal.returns-in_err-at-clause-value
returns-in_err-at-clause-value c =
    let refused = split_here _ _ _ _ _ c.loop-i.invariant c.loop-i-test.true (search rules) in search rules

pub returns-then-at-body-clause-value : goal.returns-then-at-body-clause-value
returns-then-at-body-clause-value c =
    let refused = split_behind _ _ _ _ _ c.loop-i.invariant (omega arith) (omega arith) in search rules

pub invariant_of-result : goal.invariant_of-result
invariant_of-result c = let whole = sum_whole _ _ _ _ _ c.loop-i.invariant (omega arith) (omega arith) in search rules

pub returns-clause-value : goal.returns-clause-value
returns-clause-value c = let fits = split_whole _ _ _ _ _ c.loop-i.invariant (omega arith) (omega arith) in search rules

pub returns-clause-lengths : goal.returns-clause-lengths
returns-clause-lengths c = search (rules, lengths_in_lem)
