use Rattle.std.proofs.Common.{eqb, ◌∙◌, rules, tests}
use Rattle.std.proofs.lemmas.Iterator.{YieldsList-from_slice}
use Rattle.std.proofs.lemmas.Iterator.Search.{all_from_yields_List}
use Rattle.words.proofs.Lists.{all_spaces}
use Rattle.composing.proofs.fields.is_blank.Goals as goal

pub returns : goal.returns
returns c =
    all_from_yields_List (λ b. eqb b 32) _ _ c.all.result c.all.ensures.ran (YieldsList-from_slice c.args.line.now (cc)) (λ x b q k. search (rules, tests))
    ∙ all_spaces c.args.line.now
