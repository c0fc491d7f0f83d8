use Rattle.std.proofs.Common.{is_some, length, arith, sym, ◌∙◌, rules, tests}
use borrow.Author.Tests.{eqb-false}
use Rattle.std.proofs.lemmas.Iterator.{YieldsList-from_slice}
use Rattle.std.proofs.lemmas.Iterator.Search.{all_from_yields_List}
use Rattle.words.proofs.Hexes.{byte_of, pairs_of, hex_even, hex_odd}
use Rattle.words.proofs.is_hex.Goals as goal

pub returns-then-is_empty : goal.returns-then-is_empty
returns-then-is_empty c =
    all_from_yields_List (λ p. is_some (byte_of p)) _ _ c.all.result c.all.ensures.ran (YieldsList-from_slice (pairs_of c.args.word.now) (cc)) (λ x b q k. search (rules, tests))
    ∙ hex_even c.args.word.now (search (rules, tests))

pub returns-else-is_empty : goal.returns-else-is_empty
returns-else-is_empty c =
    let some = eqb-false (length c.as_chunks.result.1.now) 0 (sym c.is_empty.ensures ∙ c.if-is_empty.false) in
    c.if-is_empty.false ∙ sym (hex_odd c.args.word.now (grind arith))
