use Rattle.std.proofs.Common.{◌/◌, length, ap, ◌∙◌}
use Rattle.std.specs.Bool.{then_some}
use Rattle.words.proofs.Hexes.{hex_sized}
use Rattle.words.proofs.hex_size.Goals as goal

pub returns : goal.returns
returns c =
    let word = c.args.word.now in
    c.then_some.ensures ∙ ap (λ b. then_some b (length word / 2)) c.is_hex.ensures ∙ hex_sized word
