use Rattle.std.proofs.Common.{◌≡◌, not, eqb, rules, tests}
use Rattle.std.specs.List.{position}
use Rattle.std.proofs.lemmas.Iterator.{YieldsList-from_slice}
use Rattle.std.proofs.lemmas.Iterator.Search.{position_from_yields_List}
use Rattle.words.proofs.Places.{place_from_position}
use Rattle.words.proofs.spaces_of.Goals as goal

pub returns-clause-spaces : goal.returns-clause-spaces
returns-clause-spaces c =
    let bytes = c.args.bytes.now in
    let found : c.position.result ≡ position (λ b. not (eqb b 32)) bytes =
    position_from_yields_List (λ b. not (eqb b 32)) _ _ c.position.result c.position.ensures.ran (YieldsList-from_slice bytes (cc)) (λ x b q k. search (rules, tests)) in
    search (rules, place_from_position)
