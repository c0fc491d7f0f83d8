use Rattle.std.proofs.Common.{◌≡◌, [], ◌∷◌, ◌++◌, length, get_or, Some, ap, ◌∙◌, rules}
use Rattle.base.specs.Fields.{be_bytes}
use Rattle.words.specs.Words.{fitting}
use Rattle.composing.specs.Composing.{sized}
use Rattle.composing.proofs.Fronts.{front_two}
use Rattle.composing.proofs.records.put_datagram.Goals as goal

pub returns : goal.returns
returns c =
    let out = c.args.out.now in
    let d = c.args.datagram.now in
    let size = c.to_be_bytes.result in
    let head = 1 ∷ (get_or size 0 0 ∷ (get_or size 1 0 ∷ [])) in
    let same : head ≡ 1 ∷ be_bytes 2 (length d) = search rules in
    front_two out head d c.write_at.new.area c.write_at-2.new.area c.in_ok-start.start c.write_at-2.result
    c.in_ok-start.ensures.end c.write_at.ensures.after c.write_at-2.ensures.end c.write_at-2.ensures.after
    ∙ ap (λ h. sized (fitting (length out) (Some (h ++ d)))) same
