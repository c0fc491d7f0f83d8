use Rattle.std.proofs.Common.{arith, rules}
use Rattle.std.proofs.lemmas.Grind.{common_steps}
use Rattle.composing.specs.Data.{part_of}
use Rattle.base.proofs.Fields.{four_bytes}
use Rattle.composing.proofs.Messages.{part_none, part-long, part-size}
use Rattle.composing.proofs.data.put_part.Goals as goal

pub returns-in_err-size-in-Size : goal.returns-in_err-size-in-Size
unfolding part_of
returns-in_err-size-in-Size c = grind (arith, common_steps, part_none, part-long)

pub returns-in-Content : goal.returns-in-Content
unfolding part_of
returns-in-Content c = search rules

pub returns-in_ok-size-in-Size : goal.returns-in_ok-size-in-Size
returns-in_ok-size-in-Size c =
    let field = part-size c.in_ok-size-in-Size.size c.args.word.now (search rules) (search rules) in
    let bytes = four_bytes c.in_ok-size-in-Size.size in search rules
