use Rattle.std.proofs.Common.{◌≡◌, ℕ, ◌+◌, ◌-◌, ◌*◌, ◌≤◌, List, ◌++◌, length, take, drop, replicate, sym, ap, ◌∙◌, arith}
use Rattle.std.proofs.lemmas.List.{take-take, take_at}
use Rattle.std.proofs.lemmas.Bool.{le-leb, cond-true}
use Rattle.base.specs.Areas.{written_at}
use Rattle.base.specs.Limits.{body_room}
use Rattle.shelves.specs.Racks.{bytes_at}
use Rattle.base.proofs.Areas.{length-written}
use Rattle.shelves.proofs.Places.{length_front}
use Rattle.shelves.proofs.area.load.Goals as goal

pub returns : goal.returns
returns c =
    let at = body_room * c.args.place in
    let bytes = c.args.bytes.now in
    let into = c.args.into.now in
    let size = c.args.size in
    let front = take (at + size - at) (drop at bytes) in
    let body = take size (bytes_at bytes c.args.place) in
    let cut : at + size - at ≡ size = omega arith in
    let is : front ≡ body = ap (λ n. take n (drop at bytes)) cut ∙ sym (take-take size body_room (drop at bytes) c.requires.short) in
    let long : length body ≡ size = length_front bytes c.args.place size c.requires.inside c.requires.short in
    let fits : 0 + length front ≤ length into = omega (arith, ap length is, c.requires.whole, c.requires.short) in
    let written : c.write_at.new.area ≡ written_at into 0 body = c.write_at.ensures.after ∙ cond-true _ _ _ (le-leb _ _ fits) ∙ ap (written_at into 0) is in
    let whole : length c.write_at.new.area ≡ body_room = ap length written ∙ length-written into 0 body (omega (arith, c.requires.whole, c.requires.short)) ∙ c.requires.whole in
    c.zero_from.ensures
    ∙ ap (λ (l : List ℕ). l ++ replicate (length c.write_at.new.area - size) 0) (ap (take size) written ∙ take_at body (drop (0 + length body) into) size long)
    ∙ ap (λ n. body ++ replicate n 0) (omega arith)
