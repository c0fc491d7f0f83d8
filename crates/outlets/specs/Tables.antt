-- What a table of records beside an area of bytes means.
use Rattle.std.specs.Prelude.{◌≡◌, ℕ, ◌+◌, ◌-◌, ◌≤◌, Bool, true, ◌&&◌, List, [], ◌∷◌, map, length, take, drop, nat_le}
use Rattle.std.proofs.Common.{◌∙◌, arith, length-take-le}
use Rattle.std.proofs.lemmas.List.{length-map}
use Rattle.base.specs.Limits.{max_entries}
use Rattle.parts.specs.Entries.{Entry, delivered, missing, made_up, written_off, closed}
use Rattle.parts.specs.Listings.{Listing, Capacity}
use Rattle.outlets.specs.declared.table.records.Span.{Span}
use Rattle.parts.specs.declared.entry.Entry.{Entry as Given}
use Rattle.parts.specs.declared.entry.Entry.TheVariants.{Delivered, Missing, MadeUp, WrittenOff, Closed}

-- An entry of the code, with its message bytes as a part of the area.
abbrev pub Record : Type 0
Record = Given Span

abbrev pub part_of : List ℕ → Span → List ℕ
part_of area s = take s.len (drop s.start area)

-- The entry that a record stands for.
abbrev pub entry_by : List ℕ → Record → Entry
entry_by area (Delivered n s) = delivered n (part_of area s)
entry_by area (Missing first last) = missing first last
entry_by area (MadeUp n s) = made_up n (part_of area s)
entry_by area (WrittenOff first last) = written_off first last
entry_by area (Closed n) = closed n

-- The record of an entry whose message stands at a part of the area.
abbrev pub record_of : Entry → Span → Record
record_of (delivered n message) s = Delivered n s
record_of (missing first last) s = Missing first last
record_of (made_up n message) s = MadeUp n s
record_of (written_off first last) s = WrittenOff first last
record_of (closed n) s = Closed n

-- The records in use stand for the entries.
abbrev pub listing_of : List Record → ℕ → List ℕ → ℕ → Listing
listing_of records used area filled = record { entries = map (entry_by area) (take used records); entries_left = length records - used; bytes_left = length area - filled }

-- Every part in use ends where the used bytes of the area end, or before.
abbrev pub ends_by : ℕ → Record → Bool
ends_by filled (Delivered n s) = nat_le (s.start + s.len) filled
ends_by filled (Missing first last) = true
ends_by filled (MadeUp n s) = nat_le (s.start + s.len) filled
ends_by filled (WrittenOff first last) = true
ends_by filled (Closed n) = true

abbrev pub all_end_by : ℕ → List Record → Bool
all_end_by filled [] = true
all_end_by filled (r ∷ rs) = ends_by filled r && all_end_by filled rs

-- What holds of a table at all times.
abbrev pub Sound : List Record → ℕ → List ℕ → ℕ → Type 0
Sound records used area filled =
    (1 ≤ length records) × (length records ≤ max_entries) × (used ≤ length records) × (filled ≤ length area) × (all_end_by filled (take used records) ≡ true)

-- each record in use is an entry
pub length-entries : (records : List Record) (used : ℕ) (area : List ℕ) → used ≤ length records → length (map (entry_by area) (take used records)) ≡ used
length-entries records used area within = length-map (take used records) (entry_by area) ∙ length-take-le used records within

-- so a table has room for as many entries as it has records
pub capacity_of : (records : List Record) (used : ℕ) (area : List ℕ) (filled : ℕ) → Sound records used area filled → Capacity (listing_of records used area filled)
capacity_of records used area filled sound =
    let put = length-entries records used area sound.2 in
    record { some = omega (arith, put, sound); few = omega (arith, put, sound) }
