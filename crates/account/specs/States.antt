-- The state of a channel: the account's numbers, and what its parts mean.
use Rattle.std.specs.Prelude.{List, Result}
use Rattle.base.specs.declared.refusal.Refusal.{Refusal}
use Rattle.parts.specs.Holdings.{Holding}
use Rattle.parts.specs.Listings.{Listing}
use Rattle.partials.specs.Joining.{Partial}
use Rattle.account.specs.Gaps.{Gaps}
use Rattle.account.specs.declared.account.Account.{Account}
use Rattle.account.specs.declared.account.numbers.Numbers.{Numbers}
use Rattle.account.specs.declared.answer.Answer.{Answer}

abbrev pub numbers_of : Account → Numbers
numbers_of a = a.numbers

pub record State : Type 0 where
  pub numbers : Numbers
  pub shelf : Holding
  pub partials : List Partial
  pub gaps : Gaps
  pub outlet : Listing

-- What a call answers, and the state that it leaves.
pub record Done : Type 0 where
  pub answer : Result Answer Refusal
  pub state : State

abbrev pub state_of : Numbers → Holding → List Partial → Gaps → Listing → State
state_of n h ps g l = record { numbers = n; shelf = h; partials = ps; gaps = g; outlet = l }

abbrev pub done : Result Answer Refusal → State → Done
done answer state = record { answer = answer; state = state }
