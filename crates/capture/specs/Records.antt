-- The capture format: a header of 15 bytes, then records.
use Rattle.std.specs.Prelude.{◌≡◌, ℕ, zero, suc, ◌+◌, Bool, cond, ◌&&◌, List, [], ◌∷◌, length, take, drop, Some, None, Ok, Err, Option, Result, ◌==◌, nat_le, slice_index}
use Rattle.std.specs.Borrow.{Bor}
use Rattle.base.specs.Fields.{be}
use Rattle.base.specs.Limits.{max_capture}
use Rattle.capture.specs.declared.record.Capture.{Capture}
use Rattle.capture.specs.declared.record.Malformed.{Malformed}
use Rattle.capture.specs.declared.record.Record.{Record as RecordRead}
use Rattle.capture.specs.declared.record.Record.TheVariants.{Datagram, Judge}

-- The channel, the start and the bytes of the records: the mark is MDC, the version 1.
pub record Contents : Type 0 where
  pub channel : ℕ
  pub start : ℕ
  pub records : List ℕ

abbrev pub is_marked : List ℕ → Bool
is_marked xs = slice_index xs 0 == 77 && (slice_index xs 1 == 68 && (slice_index xs 2 == 67 && be 2 xs 3 == 1))

abbrev pub contents_of : List ℕ → Option Contents
contents_of xs =
    cond (nat_le (length xs) max_capture && (nat_le 15 (length xs) && is_marked xs))
    (Some (record { channel = be 2 xs 5; start = be 8 xs 7; records = drop 15 xs })) None

-- A record is a datagram, a number to judge, or no record at all.
pub data Record : Type 0 where
  datagram : List ℕ → Record
  judge : ℕ → Record
  malformed : Record

-- What bytes begin with: nothing, or a record and what is left behind it.
pub data Found : Type 0 where
  nothing : Found
  last : Record → Found
  one : Record → List ℕ → Found

-- byte 1, a length of two bytes, a datagram
abbrev pub datagram_in : List ℕ → Found
datagram_in xs =
    cond (nat_le 3 (length xs) && nat_le (3 + be 2 xs 1) (length xs)) (one (datagram (take (be 2 xs 1) (drop 3 xs))) (drop (3 + be 2 xs 1) xs)) (last malformed)

-- byte 2, a number of eight bytes
abbrev pub judge_in : List ℕ → Found
judge_in xs = cond (nat_le 9 (length xs)) (one (judge (be 8 xs 1)) (drop 9 xs)) (last malformed)

abbrev pub next_in : List ℕ → Found
next_in xs =
    cond (length xs == 0) nothing (cond (slice_index xs 0 == 1) (datagram_in xs) (cond (slice_index xs 0 == 2) (judge_in xs) (last malformed)))

-- The records in bytes, at most so many. A malformed one is the last.
abbrev pub records_then : (List ℕ → List Record) → Found → List Record
records_then more nothing = []
records_then more (last r) = r ∷ []
records_then more (one r rest) = r ∷ more rest

unfoldable pub records_from : ℕ → List ℕ → List Record
records_from zero xs = []
records_from (suc most) xs = records_then (records_from most) (next_in xs)

-- All of them: each takes a byte at least, so that there are fewer than this.
abbrev pub records_of : List ℕ → List Record
records_of xs = records_from (length xs + 1) xs

-- The bytes that a record takes; a malformed one has a byte at least.
abbrev pub size_of : Record → ℕ
size_of (datagram d) = 3 + length d
size_of (judge k) = 9
size_of malformed = 1

-- What the code answers.
abbrev pub record_in : Result RecordRead Malformed → Record
record_in (Ok (Datagram bytes)) = datagram bytes.now
record_in (Ok (Judge number)) = judge number
record_in (Err e) = malformed

abbrev pub found_in : Result (Option (RecordRead × Bor (List ℕ))) Malformed → Found
found_in (Ok None) = nothing
found_in (Ok (Some (r, rest))) = one (record_in (Ok r)) rest.now
found_in (Err e) = last malformed

-- The bytes that a record takes of n bytes.
abbrev pub Takes : ℕ → Result (Option (RecordRead × Bor (List ℕ))) Malformed → Type 0
Takes n (Ok None) = Unit {0}
Takes n (Ok (Some (r, rest))) = size_of (record_in (Ok r)) + length rest.now ≡ n
Takes n (Err e) = Unit {0}

abbrev pub contents_in : Option Capture → Option Contents
contents_in None = None
contents_in (Some c) = Some (record { channel = c.channel; start = c.start; records = c.records.now })
