-- Judge: the numbers from the next expected to below k are given up, and reported missing.
use Rattle.std.specs.Prelude.{ℕ, ◌+◌, ◌-◌, Bool, not, ◌||◌, [], ◌∷◌, length, Ok, Err, Option, Result, nat_le, nat_lt}
use Rattle.base.specs.Refusals.{first_of}
use Rattle.base.specs.declared.refusal.Cause.{Cause}
use Rattle.base.specs.declared.refusal.Cause.TheVariants.{JudgeNumber, GapRowsFull, OutletFull}
use Rattle.base.specs.declared.refusal.Refusal.{Refusal}
use Rattle.parts.specs.Entries.{missing}
use Rattle.parts.specs.Holdings.{lowest_of}
use Rattle.parts.specs.Listings.{fits, with_entry}
use Rattle.account.specs.Delivering.{next_at}
use Rattle.account.specs.Gaps.{with_gap}
use Rattle.account.specs.Ranges.{is_past}
use Rattle.account.specs.States.{State, Done, state_of, done}
use Rattle.account.specs.declared.account.numbers.Numbers.{Numbers}
use Rattle.account.specs.declared.answer.Answer.{Answer}
use Rattle.account.specs.declared.answer.Answer.TheVariants as answers

abbrev refused_at : State → Cause → Refusal
refused_at s cause = record { cause = cause; value = s.numbers.next }

-- k is not above the next expected number, above one more than what was heard, or above the lowest that is held.
abbrev pub out_of_reach : Numbers → Option ℕ → ℕ → Bool
out_of_reach a lowest k = nat_le k a.next || (nat_lt (a.heard + 1) k || is_past lowest k)

abbrev pub judge_answer : State → ℕ → Result Answer Refusal
judge_answer s k =
    first_of
    ((out_of_reach s.numbers (lowest_of s.shelf) k, refused_at s JudgeNumber)
    ∷ (nat_le s.gaps.room (length s.gaps.rows), refused_at s GapRowsFull)
    ∷ (not (fits s.outlet (missing s.numbers.next (k - 1))), refused_at s OutletFull)
    ∷ [])
    (Ok answers.Done)

abbrev pub judged : State → ℕ → State
judged s k =
    state_of (next_at s.numbers k) s.shelf s.partials (with_gap s.numbers.next (k - 1) s.gaps) (with_entry s.outlet (missing s.numbers.next (k - 1)))

abbrev pub if_ok : Result Answer Refusal → State → State → State
if_ok (Ok a) after s = after
if_ok (Err e) after s = s

unfoldable pub judge_of : State → ℕ → Done
judge_of s k = done (judge_answer s k) (if_ok (judge_answer s k) (judged s k) s)
