-- Delivering a packet: all its messages go to the outlet, or none.
use Rattle.std.specs.Prelude.{ℕ, ◌+◌, Bool, cond, ◌&&◌, List, [], ◌∷◌, length, Ok, Err, nat_le}
use Rattle.base.specs.declared.refusal.Cause.TheVariants.{OutletFull}
use Rattle.parts.specs.Entries.{Entry, delivered, costs_of}
use Rattle.parts.specs.Listings.{Listing, with_entry}
use Rattle.account.specs.States.{State, Done, state_of, done}
use Rattle.account.specs.declared.account.numbers.Numbers.{Numbers}
use Rattle.account.specs.declared.answer.Answer.TheVariants.{Delivered}

-- An entry for each message, numbered from the first on.
unfoldable pub entries_from : ℕ → List (List ℕ) → List Entry
entries_from n [] = []
entries_from n (m ∷ ms) = delivered n m ∷ entries_from (n + 1) ms

-- The outlet has room for all of them; the outlet with all of them.
abbrev pub all_fit : Listing → List Entry → Bool
all_fit l es = nat_le (length es) l.entries_left && nat_le (costs_of es) l.bytes_left

unfoldable pub with_all : Listing → List Entry → Listing
with_all l [] = l
with_all l (e ∷ es) = with_all (with_entry l e) es

abbrev pub next_at : Numbers → ℕ → Numbers
next_at a n = record { channel = a.channel; start = a.start; next = n; heard = a.heard; «end» = a.«end» }

-- The messages of a packet with this first number, which is the next expected.
unfoldable pub delivered_of : State → ℕ → List (List ℕ) → Done
delivered_of s first messages =
    cond (all_fit s.outlet (entries_from first messages))
    (done (Ok Delivered) (state_of (next_at s.numbers (first + length messages)) s.shelf s.partials s.gaps (with_all s.outlet (entries_from first messages))))
    (done (Err (record { cause = OutletFull; value = s.numbers.next })) s)
