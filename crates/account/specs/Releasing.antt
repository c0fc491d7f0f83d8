-- Release: what becomes of the lowest packet that is held.
use Rattle.std.specs.Prelude.{ℕ, ◌+◌, Bool, cond, ◌&&◌, List, length, replicate, is_ok, Some, None, Ok, Err, Option, Result, ◌==◌, nat_lt}
use Rattle.std.specs.List.{slice_get}
use Rattle.base.specs.Limits.{body_room, max_number}
use Rattle.base.specs.declared.refusal.Cause.TheVariants.{BufferSize, NumberRange}
use Rattle.base.specs.declared.refusal.Refusal.{Refusal}
use Rattle.parts.specs.Holdings.{Packet, take_leaves}
use Rattle.rows.specs.declared.row.Row.{Row}
use Rattle.wire.specs.Splitting.{split_of}
use Rattle.account.specs.Delivering.{delivered_of}
use Rattle.account.specs.States.{State, Done, state_of, done}
use Rattle.account.specs.declared.answer.Answer.TheVariants.{Expired, Waiting}
use Rattle.account.specs.declared.answer.Answer.TheVariants as answers

abbrev pub without : State → ℕ → State
without s first = state_of s.numbers (take_leaves s.shelf first) s.partials s.gaps s.outlet

-- A packet that is delivered leaves the shelf.
abbrev pub taken_if : Done → ℕ → Done
taken_if d first = done d.answer (cond (is_ok d.answer) (without d.state first) d.state)

abbrev pub release_split : State → ℕ → Result (List (List ℕ)) Refusal → Done
release_split s first (Err refusal) = done (Err refusal) s
release_split s first (Ok messages) = taken_if (delivered_of s first messages) first

-- The packet is the next expected. One that another account put on the shelf may have numbers or a body that no arrival has.
abbrev pub release_next : State → Row Packet → Done
release_next s p =
    cond (nat_lt (max_number + 1) (p.number + p.part.count))
    (done (Err (record { cause = NumberRange; value = 0 })) s)
    (release_split s p.number (split_of p.part.count p.part.body))

abbrev pub release_lowest : State → Option (Row Packet) → Done
release_lowest s None = done (Ok answers.Done) s
release_lowest s (Some p) =
    cond (nat_lt p.number s.numbers.next) (done (Ok Expired) (without s p.number))
    (cond (p.number == s.numbers.next) (release_next s p) (done (Ok Waiting) s))

-- Both working buffers have 4,096 bytes.
abbrev pub buffers_fit : List ℕ → List ℕ → Bool
buffers_fit joining plain = length joining == body_room && length plain == body_room

-- A working buffer afterwards: zero in every byte, unless a buffer was refused.
abbrev pub wiped : List ℕ → List ℕ → List ℕ → List ℕ
wiped joining plain buffer = cond (buffers_fit joining plain) (replicate (length buffer) 0) buffer

unfoldable pub release_of : State → List ℕ → List ℕ → Done
release_of s joining plain =
    cond (buffers_fit joining plain) (release_lowest s (slice_get s.shelf.pairs 0)) (done (Err (record { cause = BufferSize; value = 0 })) s)
