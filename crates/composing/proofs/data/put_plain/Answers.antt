use Rattle.std.proofs.Common.{◌-◌, length, take, drop, rules}
use Rattle.words.specs.Words.{words_of}
use Rattle.composing.specs.Data.{all_of, plain_of}
use Rattle.composing.specs.declared.data.Part.TheVariants.{Size, Content}
use Rattle.composing.proofs.WordLists.{plain_none, plain_bad, plain_put}
use Rattle.composing.proofs.data.put_plain.Goals as goal

pub returns-in_err-sizes : goal.returns-in_err-sizes
unfolding plain_of
returns-in_err-sizes c =
    let none =
    plain_none (length c.args.out.now) (all_of Size (words_of c.args.line.now)) (all_of Content (words_of c.args.line.now)) (search rules) in
    search rules

pub returns-in_err-contents : goal.returns-in_err-contents
unfolding plain_of
returns-in_err-contents c =
    let one = c.put_all.new.out in
    let sizes = c.in_ok-sizes.sizes in
    let bad =
    plain_bad (length c.args.out.now) sizes one (all_of Size (words_of c.args.line.now)) (all_of Content (words_of c.args.line.now)) (search rules)
    (search rules) (take (length one - sizes) (drop sizes one)) (search rules) (search rules) in
    search rules

pub returns : goal.returns
unfolding plain_of
returns c =
    let one = c.put_all.new.out in
    let sizes = c.in_ok-sizes.sizes in
    plain_put (length c.args.out.now) sizes one (all_of Size (words_of c.args.line.now)) (all_of Content (words_of c.args.line.now)) (search rules)
    (search rules) (take (length one - sizes) (drop sizes one)) (search rules) c.in_ok-contents.contents c.put_all-2.new.out (search rules)
    (search rules)
