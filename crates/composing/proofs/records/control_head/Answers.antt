use Rattle.std.proofs.Common.{◌≡◌, [], ◌∷◌, ◌++◌, ap, ◌∙◌, rules}
use borrow.Rule.Slice.PartMut.{put_mid}
use Rattle.base.specs.Fields.{be_bytes}
use Rattle.base.proofs.Fields.{eight_bytes}
use Rattle.composing.specs.Composing.{control_head}
use Rattle.composing.proofs.Fronts.{part_behind}
use Rattle.composing.proofs.records.control_head.Goals as goal

pub returns : goal.returns
unfolding control_head
returns c =
    let first = c.copy_from_slice.new.self in
    let channel = c.copy_from_slice-2.new.self in
    let last = c.copy_from_slice-3.new.self in
    let count = c.copy_from_slice-4.new.self in
    let begins : first ≡ 0xFF ∷ (1 ∷ (5 ∷ (c.args.sender ∷ (0 ∷ (1 ∷ []))))) = search rules in
    let names : channel ≡ be_bytes 2 c.args.channel = search rules in
    let numbers : last ≡ be_bytes 8 c.args.last = search (rules, eight_bytes) in
    let counts : count ≡ be_bytes 2 c.args.count = search rules in
    ap (λ l. put_mid 16 2 (put_mid 8 8 l last) count) (part_behind first (0 ∷ (0 ∷ (0 ∷ (0 ∷ (0 ∷ (0 ∷ (0 ∷ (0 ∷ (0 ∷ (0 ∷ (0 ∷ (0 ∷ (0 ∷ (0 ∷ ([]))))))))))))))) channel 6 2 (search rules) (search rules))
    ∙ ap (λ l. put_mid 16 2 l count) (part_behind (first ++ channel) (0 ∷ (0 ∷ (0 ∷ (0 ∷ (0 ∷ (0 ∷ (0 ∷ (0 ∷ (0 ∷ (0 ∷ (0 ∷ (0 ∷ ([]))))))))))))) last 8 8 (search rules) (search rules))
    ∙ part_behind ((first ++ channel) ++ last) (0 ∷ (0 ∷ (0 ∷ (0 ∷ ([]))))) count 16 2 (search rules) (search rules)
    ∙ ap (λ l. (((l ++ channel) ++ last) ++ count) ++ (0 ∷ (0 ∷ []))) begins
    ∙ ap (λ l. ((((0xFF ∷ (1 ∷ (5 ∷ (c.args.sender ∷ (0 ∷ (1 ∷ [])))))) ++ l) ++ last) ++ count) ++ (0 ∷ (0 ∷ []))) names
    ∙ ap (λ l. ((((0xFF ∷ (1 ∷ (5 ∷ (c.args.sender ∷ (0 ∷ (1 ∷ [])))))) ++ be_bytes 2 c.args.channel) ++ l) ++ count) ++ (0 ∷ (0 ∷ []))) numbers
    ∙ ap (λ l. ((((0xFF ∷ (1 ∷ (5 ∷ (c.args.sender ∷ (0 ∷ (1 ∷ [])))))) ++ be_bytes 2 c.args.channel) ++ be_bytes 8 c.args.last) ++ l) ++ (0 ∷ (0 ∷ []))) counts
