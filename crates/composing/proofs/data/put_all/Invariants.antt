use Rattle.std.proofs.Common.{◌≡◌, ◌≤◌, length, take, Some}
use Rattle.words.specs.Words.{words_of}
use Rattle.composing.specs.Data.{joined, all_of}
use Rattle.composing.proofs.data.put_all.Given as goal

abbrev pub invariant-loop-word : goal.invariant-loop-word
invariant-loop-word l =
    (joined (Some (take l.at l.out)) (all_of l.part l.word-iterator) ≡ all_of l.part (words_of l.line))
    × (l.at ≤ length l.initial.out)
