use Rattle.std.proofs.Common.{◌≡◌, ◌+◌, ◌-◌, length, take, drop, refl, ap, ◌∙◌, arith, length-drop}
use Rattle.std.proofs.lemmas.List.{take_rest, length-take-le}
use Rattle.partials.proofs.Cuts.{splice_writes}
use Rattle.base.proofs.Areas.{written, length-written}
use Rattle.partials.proofs.table.joining.splice.Goals as goal

pub returns : goal.returns
returns c =
    let front = c.args.front.now in
    let at = c.args.at in
    let piece = c.args.piece.now in
    let out = c.args.out.now in
    let out₁ = c.write_at.new.area in
    let out₂ = c.write_at-2.new.area in
    let before = take at front in
    let behind = take (length front - at) (drop at front) in
    let behind-is : behind ≡ drop at front = take_rest front at in
    let short : length before ≡ at = length-take-le at front c.requires.inside in
    let long : length behind ≡ length front - at = ap length behind-is ∙ length-drop at front in
    let e₁ = written out 0 before (omega (arith, c.requires.room)) out₁ c.write_at.ensures.after in
    let n₁ : length out₁ ≡ length out = ap length e₁ ∙ length-written out 0 before (omega (arith, c.requires.room)) in
    let e₂ = written out₁ at piece (omega (arith, c.requires.room, c.requires.inside)) out₂ c.write_at-2.ensures.after in
    let n₂ : length out₂ ≡ length out₁ = ap length e₂ ∙ length-written out₁ at piece (omega (arith, c.requires.room, c.requires.inside)) in
    let e₃ = written out₂ (at + length piece) behind (omega (arith, c.requires.room, c.requires.inside)) c.write_at-3.new.area c.write_at-3.ensures.after in
    splice_writes out out₁ out₂ c.write_at-3.new.area front piece before behind at c.requires.inside c.requires.room refl behind-is e₁ e₂ e₃
