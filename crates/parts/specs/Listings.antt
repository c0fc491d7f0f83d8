-- What an outlet means: its entries, and how many entries and message bytes it has left.
use Rattle.std.specs.Prelude.{ℕ, ◌+◌, ◌-◌, ◌≤◌, Bool, cond, ◌&&◌, List, [], ◌∷◌, ◌++◌, length, Ok, Err, Result, nat_le}
use Rattle.base.specs.Limits.{max_entries}
use Rattle.base.specs.declared.refusal.Cause.TheVariants.{OutletFull}
use Rattle.base.specs.declared.refusal.Refusal.{Refusal}
use Rattle.parts.specs.Entries.{Entry, cost_of, costs_of}

pub record Listing : Type 0 where
  pub entries : List Entry
  pub entries_left : ℕ
  pub bytes_left : ℕ

-- An entry costs one entry and its message bytes.
abbrev pub fits : Listing → Entry → Bool
fits l e = nat_le 1 l.entries_left && nat_le (cost_of e) l.bytes_left

abbrev pub with_entry : Listing → Entry → Listing
with_entry l e = record { entries = l.entries ++ (e ∷ []); entries_left = l.entries_left - 1; bytes_left = l.bytes_left - cost_of e }

-- An entry is refused only where it does not fit, and then nothing changes.
abbrev pub list_answer : Listing → Entry → Result (Unit {0}) Refusal
list_answer l e = cond (fits l e) (Ok tt) (Err (record { cause = OutletFull; value = 0 }))

abbrev pub listed : Listing → Entry → Listing
listed l e = cond (fits l e) (with_entry l e) l

-- Entries put and left, and bytes put and left.
abbrev pub totals_of : Listing → ℕ × ℕ
totals_of l = (length l.entries + l.entries_left, costs_of l.entries + l.bytes_left)

pub record Capacity (l : Listing) : Type 0 where
  pub some : 1 ≤ (totals_of l).0
  pub few : (totals_of l).0 ≤ max_entries
