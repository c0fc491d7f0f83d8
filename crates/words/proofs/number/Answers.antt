use Rattle.std.proofs.Common.{rules}
use Rattle.words.proofs.Numbers.{number-all, number-other, number-long, number_more, under-less}
use Rattle.words.proofs.number.Goals as goal

pub returns-in_err-digit : goal.returns-in_err-digit
returns-in_err-digit c = search (rules, number-other)

pub returns-in_err-value : goal.returns-in_err-value
returns-in_err-value c = search (rules, number-long)

pub loop-b-preserved : goal.loop-b-preserved
loop-b-preserved c = (search (rules, number_more), search (rules, under-less))

pub returns : goal.returns
returns c =
    number-all c.args.word.now c.loop-b.value c.loop-b.b-index c.loop-b.invariant.0 (search rules) (search rules)
    c.loop-b.invariant.1
