-- The looks before an outlet is made over lent memory.
use Rattle.std.specs.Prelude.{ℕ, Bool, cond, ◌&&◌, Ok, Err, Result, nat_le}
use Rattle.base.specs.Limits.{max_entries}
use Rattle.base.specs.declared.refusal.Cause.TheVariants.{PartSize}
use Rattle.base.specs.declared.refusal.Refusal.{Refusal}
use Rattle.outlets.specs.Images.{messages_at}

abbrev pub look_answer : Bool → Result (Unit {0}) Refusal
look_answer fits = cond fits (Ok tt) (Err (record { cause = PartSize; value = 0 }))

-- An outlet has room for 1 to 65,535 entries.
abbrev pub allowed : ℕ → Bool
allowed entries = nat_le 1 entries && nat_le entries max_entries

-- A table has a record for each entry. Its area of bytes may have any size.
abbrev pub table_fits : ℕ → Result (Unit {0}) Refusal
table_fits records = look_answer (allowed records)

-- An image has a head for each entry. Its messages may have any room.
abbrev pub image_fits : ℕ → ℕ → Result (Unit {0}) Refusal
image_fits memory capacity = look_answer (allowed capacity && nat_le (messages_at capacity) memory)
