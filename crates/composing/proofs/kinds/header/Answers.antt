use Rattle.std.proofs.Common.{◌≡◌, [], ◌∷◌, ◌++◌, ap, ◌∙◌, append-nil, rules}
use borrow.Rule.Slice.PartMut.{put_mid}
use Rattle.base.specs.Fields.{be_bytes}
use Rattle.base.proofs.Fields.{eight_bytes}
use Rattle.composing.specs.Lines.{header_for}
use Rattle.composing.proofs.Fronts.{part_behind}
use Rattle.composing.proofs.kinds.header.Goals as goal

pub returns : goal.returns
unfolding header_for
returns c =
    let mark = c.copy_from_slice.new.self in
    let channel = c.copy_from_slice-2.new.self in
    let start = c.copy_from_slice-3.new.self in
    let begins : mark ≡ 77 ∷ (68 ∷ (67 ∷ (0 ∷ (1 ∷ [])))) = search rules in
    let names : channel ≡ be_bytes 2 c.args.channel = search rules in
    let numbers : start ≡ be_bytes 8 c.args.start = search (rules, eight_bytes) in
    ap (λ l. put_mid 7 8 l start) (part_behind mark (0 ∷ (0 ∷ (0 ∷ (0 ∷ (0 ∷ (0 ∷ (0 ∷ (0 ∷ (0 ∷ (0 ∷ [])))))))))) channel 5 2 (search rules) (search rules))
    ∙ part_behind (mark ++ channel) (0 ∷ (0 ∷ (0 ∷ (0 ∷ (0 ∷ (0 ∷ (0 ∷ (0 ∷ [])))))))) start 7 8 (search rules) (search rules)
    ∙ append-nil ((mark ++ channel) ++ start) ∙ ap (λ l. (l ++ channel) ++ start) begins
    ∙ ap (λ l. (77 ∷ (68 ∷ (67 ∷ (0 ∷ (1 ∷ l))))) ++ start) names ∙ ap (λ l. (77 ∷ (68 ∷ (67 ∷ (0 ∷ (1 ∷ be_bytes 2 c.args.channel))))) ++ l) numbers
