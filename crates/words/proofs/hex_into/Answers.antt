use Rattle.std.proofs.Common.{length, sym, ap, rules}
use Rattle.words.specs.Words.{size_of, over_front}
use Rattle.words.proofs.Hexes.{hex_some, fitting-other, fitting-long, fitting-bytes}
use Rattle.words.proofs.hex_into.Goals as goal

pub returns-then-word-out : goal.returns-then-word-out
returns-then-word-out c =
    let long = fitting-long (length c.args.out.now) c.args.word.now (search rules) in
    record { size = ap size_of (sym long); after = ap (over_front c.args.out.now) (sym long) }

pub returns-in_err-size : goal.returns-in_err-size
returns-in_err-size c =
    let other = fitting-other (length c.args.out.now) c.args.word.now (search rules) in
    record { size = (let none = ap size_of other in search rules); after = ap (over_front c.args.out.now) (sym other) }

pub slice_bounds-decode-end : goal.slice_bounds-decode-end
slice_bounds-decode-end c = let some = hex_some c.args.word.now c.in_ok-size.size (search rules) in search rules

pub slice_bounds-decode-end-2 : goal.slice_bounds-decode-end-2
slice_bounds-decode-end-2 c = let some = hex_some c.args.word.now c.in_ok-size.size (search rules) in search rules

pub decode-requires : goal.decode-requires
decode-requires c = let some = hex_some c.args.word.now c.in_ok-size.size (search rules) in search rules

pub returns : goal.returns
returns c = let some = hex_some c.args.word.now c.in_ok-size.size (search rules) in search (rules, fitting-bytes)
