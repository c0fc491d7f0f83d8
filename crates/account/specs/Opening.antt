-- Opening an account over empty parts.
use Rattle.std.specs.Prelude.{ℕ, ◌-◌, Bool, cond, not, ◌&&◌, ◌||◌, List, length, None, Ok, Err, Result, ◌==◌, nat_lt}
use Rattle.base.specs.Limits.{max_number}
use Rattle.base.specs.declared.refusal.Cause.TheVariants.{Opening}
use Rattle.base.specs.declared.refusal.Refusal.{Refusal}
use Rattle.parts.specs.Holdings.{Holding}
use Rattle.parts.specs.Listings.{Listing}
use Rattle.partials.specs.Joining.{Partial}
use Rattle.account.specs.Gaps.{Gaps}
use Rattle.account.specs.declared.account.Account.{Account}
use Rattle.account.specs.declared.account.numbers.Numbers.{Numbers}

-- Nothing was heard of before the start, and no end is known.
abbrev pub starting_at : ℕ → ℕ → Numbers
starting_at channel start = record { channel = channel; start = start; next = start; heard = start - 1; «end» = None }

abbrev pub all_empty : Holding → List Partial → Gaps → Listing → Bool
all_empty h ps g l = length h.pairs == 0 && (length ps == 0 && (length g.rows == 0 && length l.entries == 0))

abbrev pub open_of : ℕ → ℕ → Holding → List Partial → Gaps → Listing → Result Numbers Refusal
open_of channel start h ps g l =
    cond (channel == 0 || (start == 0 || (nat_lt max_number start || not (all_empty h ps g l)))) (Err (record { cause = Opening; value = 0 })) (Ok (starting_at channel start))

-- The numbers of an account that was opened.
abbrev pub opened_in : Result Account Refusal → Result Numbers Refusal
opened_in (Ok a) = Ok a.numbers
opened_in (Err e) = Err e
