use Rattle.std.proofs.Common.{◌≡◌, ◌-◌, length, take, drop, sym, ap, ◌∙◌, rules}
use Rattle.std.proofs.lemmas.List.{take_rest}
use Rattle.words.specs.Words.{hex_of, fitting}
use Rattle.composing.specs.Composing.{sized}
use Rattle.composing.specs.Data.{message_of}
use Rattle.composing.proofs.Messages.{front_over, message_hex}
use Rattle.composing.proofs.data.put_message.Goals as goal

pub returns-in-120 : goal.returns-in-120
returns-in-120 c =
    let word = c.args.word.now in
    let room = length c.args.out.now in
    let message = message_hex word (search rules) (search rules) (search rules) in
    let same : hex_of (take (length word - 2) (drop 2 word)) ≡ message_of word = ap hex_of (take_rest word 2) ∙ sym message in
    front_over (fitting room (hex_of (take (length word - 2) (drop 2 word)))) c.args.out.now c.hex_into.new.out c.hex_into.result c.hex_into.ensures.size c.hex_into.ensures.after
    ∙ ap (λ m. sized (fitting room m)) same
