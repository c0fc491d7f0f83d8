use Rattle.std.proofs.Common.{[], length, get_or, sym, ap, ◌∙◌, arith, rules}
use Rattle.words.proofs.Hexes.{byte_of, pair_some, said_more, hex_bytes}
use Rattle.words.proofs.decode.Goals as goal

pub unwrap-requires : goal.unwrap-requires
unwrap-requires c =
    let word = c.args.word.now in
    let some = pair_some word c.loop-i.i c.requires.hex (omega (arith, c.requires.size)) (omega (arith, ap length c.as_chunks.ensures.front, c.as_chunks.ensures.front_len, c.requires.size)) in
    search rules

pub loop-i-preserved : goal.loop-i-preserved
loop-i-preserved c =
    said_more (λ k. byte_of (get_or c.as_chunks.result.0.now k [])) c.loop-i.out c.loop-i.i c.unwrap.result (search rules) c.loop-i.invariant (sym c.hex_byte.ensures ∙ c.unwrap.ensures)

pub returns : goal.returns
returns c = hex_bytes c.args.word.now c.loop-i.out (search rules) (λ i h. ap (λ p. byte_of (get_or p i [])) (sym c.as_chunks.ensures.front) ∙ c.loop-i.invariant i (search rules))
