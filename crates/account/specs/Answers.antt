-- Answers, and the numbers under which they are told.
use Rattle.std.specs.Prelude.{ℕ}
use Rattle.account.specs.declared.answer.Answer.{Answer}
use Rattle.account.specs.declared.answer.Answer.TheVariants.{Done, Delivered, Held, Expired, AlreadyHeld, FragmentKept, FragmentAgain, Heartbeat, StreamEnd, Waiting}

abbrev pub answer_number : Answer → ℕ
answer_number Done = 0
answer_number Delivered = 1
answer_number Held = 2
answer_number Expired = 3
answer_number AlreadyHeld = 4
answer_number FragmentKept = 5
answer_number FragmentAgain = 6
answer_number Heartbeat = 7
answer_number StreamEnd = 8
answer_number Waiting = 9
