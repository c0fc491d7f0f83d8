use Rattle.std.proofs.Common.{length, take, Some, rules}
use Rattle.words.specs.Words.{words_of, fitting}
use Rattle.composing.specs.Composing.{up_to}
use Rattle.composing.specs.Data.{plain_of, after_five, packing_of, prepared_of}
use Rattle.composing.proofs.Prepared.{prepared_none, prepared_many, prepared_bad, prepared_whole}
use Rattle.composing.proofs.data.prepare.Goals as goal

pub returns-in_err-size : goal.returns-in_err-size
unfolding prepared_of
returns-in_err-size c =
    let rest = c.args.rest.now in
    let none =
    prepared_none (fitting (length c.args.plain.now) (plain_of (after_five rest))) (up_to 65535 (Some (length (words_of (after_five rest)))))
    (λ k. packing_of c.args.channel k rest) (search rules) in
    search rules

pub returns-in_err-count : goal.returns-in_err-count
unfolding prepared_of
returns-in_err-count c =
    let rest = c.args.rest.now in
    let many =
    prepared_many (fitting (length c.args.plain.now) (plain_of (after_five rest))) (up_to 65535 (Some (length (words_of (after_five rest)))))
    (λ k. packing_of c.args.channel k rest) c.in_ok-size.size (take c.in_ok-size.size c.put_plain.new.out) (search rules) (search rules) in
    search rules

pub returns-in_err-packing : goal.returns-in_err-packing
unfolding prepared_of
returns-in_err-packing c =
    let rest = c.args.rest.now in
    let bad =
    prepared_bad (fitting (length c.args.plain.now) (plain_of (after_five rest))) (up_to 65535 (Some (length (words_of (after_five rest)))))
    (λ k. packing_of c.args.channel k rest) c.in_ok-size.size (take c.in_ok-size.size c.put_plain.new.out) (search rules) c.in_ok-count.count (search rules) (search rules) in
    search rules

pub returns : goal.returns
unfolding prepared_of
returns c =
    let rest = c.args.rest.now in
    prepared_whole (fitting (length c.args.plain.now) (plain_of (after_five rest))) (up_to 65535 (Some (length (words_of (after_five rest)))))
    (λ k. packing_of c.args.channel k rest) c.in_ok-size.size (take c.in_ok-size.size c.put_plain.new.out) (search rules) c.in_ok-count.count (search rules)
    c.in_ok-packing.packing (search rules)
