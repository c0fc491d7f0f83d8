-- A packet on its way from a shelf to an outlet.
use Rattle.std.specs.Prelude.{ℕ, cond, List, length, Some, None, Ok, Err, Option, Result, ◌==◌}
use Rattle.std.specs.List.{slice_get}
use Rattle.base.specs.Limits.{body_room}
use Rattle.base.specs.declared.refusal.Cause.{Cause}
use Rattle.base.specs.declared.refusal.Cause.TheVariants.{BufferSize, OutletFull}
use Rattle.base.specs.declared.refusal.Refusal.{Refusal}
use Rattle.parts.specs.Entries.{Entry, delivered}
use Rattle.parts.specs.Holdings.{Packet, Holding, padded, take_leaves}
use Rattle.parts.specs.Listings.{Listing, fits, with_entry}
use Rattle.rows.specs.declared.row.Row.{Row}

-- What is answered, and what shelf, outlet and buffer are then.
pub record Passed : Type 0 where
  pub answer : Result (Option ℕ) Refusal
  pub holding : Holding
  pub listing : Listing
  pub buffer : List ℕ

abbrev refusal : Cause → Refusal
refusal cause = record { cause = cause; value = 0 }

abbrev entry_for : Row Packet → Entry
entry_for p = delivered p.number p.part.body

abbrev pub passed_by : Holding → Listing → List ℕ → Option (Row Packet) → Passed
passed_by h l buffer None = record { answer = Ok None; holding = h; listing = l; buffer = buffer }
passed_by h l buffer (Some p) =
    cond (length buffer == body_room)
    (cond (fits l (entry_for p))
    (record { answer = Ok (Some p.number); holding = take_leaves h p.number; listing = with_entry l (entry_for p); buffer = padded p.part.body })
    (record { answer = Err (refusal OutletFull); holding = h; listing = l; buffer = padded p.part.body }))
    (record { answer = Err (refusal BufferSize); holding = h; listing = l; buffer = buffer })

abbrev pub passed : Holding → Listing → List ℕ → Passed
passed h l buffer = passed_by h l buffer (slice_get h.pairs 0)
