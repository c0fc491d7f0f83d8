use Rattle.std.proofs.Common.{◌-◌, length, take, drop, rules}
use Rattle.words.specs.Words.{words_of}
use Rattle.composing.specs.Data.{all_of}
use Rattle.composing.proofs.WordLists.{joined-nil, words_all, word_bad, word_within, word_more}
use Rattle.composing.proofs.data.put_all.Goals as goal

pub loop-word-init : goal.loop-word-init
loop-word-init c = search (rules, joined-nil)

pub returns-in_err-at : goal.returns-in_err-at
returns-in_err-at c =
    let area = c.loop-word.out in
    let at = c.loop-word.at in
    let bad =
    word_bad c.args.part (length c.args.out.now) at area c.loop-word.word-iterator
    (all_of c.args.part (words_of c.args.line.now)) c.loop-word.invariant.0 (search rules) c.loop-word.invariant.1
    c.in-Some.word.now c.next.new.self (search rules) (take (length area - at) (drop at area)) (search rules) (search rules) in
    search rules

pub loop-word-preserved : goal.loop-word-preserved
loop-word-preserved c =
    let area = c.loop-word.out in
    let at = c.loop-word.at in (
      word_more c.args.part (length c.args.out.now) at area c.loop-word.word-iterator
          (all_of c.args.part (words_of c.args.line.now)) c.loop-word.invariant.0 (search rules) c.loop-word.invariant.1
          c.in-Some.word.now c.next.new.self (search rules) (take (length area - at) (drop at area)) (search rules)
          c.in_ok-at.field-0 c.put_part.new.out (search rules) (search rules),
      word_within c.args.part (length c.args.out.now) at area c.loop-word.word-iterator
          (all_of c.args.part (words_of c.args.line.now)) c.loop-word.invariant.0 (search rules) c.loop-word.invariant.1
          c.in-Some.word.now c.next.new.self (search rules) (take (length area - at) (drop at area)) (search rules)
          c.in_ok-at.field-0 c.put_part.new.out (search rules),
    )

pub returns : goal.returns
returns c =
    words_all c.args.part (length c.args.out.now) c.loop-word.at c.loop-word.out c.loop-word.word-iterator
    (all_of c.args.part (words_of c.args.line.now)) c.loop-word.invariant.0 (search rules) c.loop-word.invariant.1 (search rules)
