-- Gaps: rows by their last numbers, and for how many there is room.
use Rattle.std.specs.Prelude.{ℕ, cond, ◌&&◌, List, Ok, Err, Result, nat_le}
use Rattle.base.specs.Limits.{max_gaps}
use Rattle.base.specs.declared.refusal.Cause.TheVariants.{PartSize}
use Rattle.base.specs.declared.refusal.Refusal.{Refusal}
use Rattle.rows.specs.Meaning.{rows_of, room_of, insert_answer, insert_leaves}
use Rattle.rows.specs.declared.list.Full.{Full}
use Rattle.rows.specs.declared.row.Row.{Row}
use Rattle.account.specs.declared.gaps.GapList.{GapList}
use Rattle.account.specs.declared.gaps.row.Gap.{Gap}
use Rattle.account.specs.declared.gaps.row.GapState.TheVariants.{Open}

-- The look before a gap list is made: 1 to 32 rows.
abbrev pub gaps_fit : ℕ → Result (Unit {0}) Refusal
gaps_fit rows = cond (nat_le 1 rows && nat_le rows max_gaps) (Ok tt) (Err (record { cause = PartSize; value = 0 }))

pub record Gaps : Type 0 where
  pub rows : List (Row Gap)
  pub room : ℕ

abbrev pub gaps_of : GapList → Gaps
gaps_of g = record { rows = rows_of g.list; room = room_of g.list }

-- An open gap from a first to a last number.
abbrev pub open_gap : ℕ → ℕ → Row Gap
open_gap first last = record { number = last; part = record { at = first; state = Open } }

abbrev pub gap_answer : Gaps → Result (Unit {0}) Full
gap_answer g = insert_answer g.room g.rows

abbrev pub with_gap : ℕ → ℕ → Gaps → Gaps
with_gap first last g = record { rows = insert_leaves g.room (open_gap first last) g.rows; room = g.room }
