-- Arrive: what a datagram comes to, layer by layer. A datagram that fails one layer never reaches the next.
use Rattle.std.specs.Prelude.{ℕ, ◌+◌, ◌-◌, max, Bool, false, cond, not, ◌&&◌, ◌||◌, List, length, take, drop, is_some, is_ok, Some, None, Ok, Err, Option, Result, ◌==◌, nat_le, nat_lt}
use Rattle.base.specs.declared.refusal.Cause.TheVariants.{BufferSize, CoderNotReady, PastEnd, ShelfFull}
use Rattle.base.specs.declared.refusal.Refusal.{Refusal}
use Rattle.parts.specs.Holdings.{pair_of}
use Rattle.partials.specs.Joining.{Partial, Outcome, refused, again, kept, whole, join_of}
use Rattle.partials.specs.Joining.{without as withoutPartial}
use Rattle.partials.specs.declared.head.PartialHead.{PartialHead}
use Rattle.rows.specs.Order.{row_of, insert_by}
use Rattle.wire.specs.Bodies.{checked_of}
use Rattle.wire.specs.Flags.{is_sealed}
use Rattle.wire.specs.Reading.{reading_of, and_then}
use Rattle.wire.specs.Splitting.{split_of}
use Rattle.wire.specs.declared.datagram.Fragment.{Fragment}
use Rattle.wire.specs.declared.datagram.Packet.{Packet}
use Rattle.wire.specs.declared.datagram.Reading.{Reading}
use Rattle.wire.specs.declared.datagram.Reading.TheVariants as reading
use Rattle.account.specs.Delivering.{delivered_of}
use Rattle.account.specs.Ranges.{is_past}
use Rattle.account.specs.Releasing.{buffers_fit}
use Rattle.account.specs.States.{State, Done, state_of, done}
use Rattle.account.specs.declared.account.numbers.Numbers.{Numbers}
use Rattle.account.specs.declared.answer.Answer.TheVariants as answers

-- What an opening coder does: whether it is ready for a number, and what it opens a body to.
pub record Coder : Type 0 where
  pub ready : ℕ → Bool
  pub opens : ℕ → List ℕ → List ℕ

abbrev pub coder_of : (ℕ → Bool) → (ℕ → List ℕ → List ℕ) → Coder
coder_of ready opens = record { ready = ready; opens = opens }

-- The parts of a state that an arrival changes one at a time.
abbrev pub with_numbers : State → Numbers → State
with_numbers s a = state_of a s.shelf s.partials s.gaps s.outlet

abbrev pub with_partials : State → List Partial → State
with_partials s ps = state_of s.numbers s.shelf ps s.gaps s.outlet

-- The highest number heard of is at least n.
abbrev pub heard_to : Numbers → ℕ → Numbers
heard_to a n = record { channel = a.channel; start = a.start; next = a.next; heard = max a.heard n; «end» = a.«end» }

-- A heartbeat of the channel.
unfoldable pub beat_of : State → ℕ → Done
beat_of s last =
    cond (is_past s.numbers.«end» last) (done (Err (record { cause = PastEnd; value = last })) s)
    (done (Ok answers.Heartbeat) (with_numbers s (heard_to s.numbers last)))

-- A stream end. It must not lie below what was heard, nor differ from an end that is known.
abbrev pub is_other : Option ℕ → ℕ → Bool
is_other None n = false
is_other (Some e) n = not (e == n)

abbrev pub ended_at : Numbers → ℕ → Numbers
ended_at a last = record { channel = a.channel; start = a.start; next = a.next; heard = last; «end» = Some last }

unfoldable pub end_of : State → ℕ → Done
end_of s last =
    cond (nat_lt last s.numbers.heard || is_other s.numbers.«end» last) (done (Err (record { cause = PastEnd; value = last })) s)
    (done (Ok answers.StreamEnd) (with_numbers s (ended_at s.numbers last)))

-- Placing a whole packet: it is delivered if it is the next expected, and else held.
abbrev pub last_of : Packet → ℕ
last_of p = p.first + p.count - 1

abbrev pub heard_if_ok : Done → ℕ → Done
heard_if_ok d last = done d.answer (cond (is_ok d.answer) (with_numbers d.state (heard_to d.state.numbers last)) d.state)

unfoldable pub held_of : State → Packet → List ℕ → Done
held_of s p plain =
    cond (is_some (row_of p.first s.shelf.pairs)) (done (Ok answers.AlreadyHeld) s)
    (cond (nat_le s.shelf.places (length s.shelf.pairs)) (done (Err (record { cause = ShelfFull; value = p.first })) s)
    (done (Ok answers.Held)
    (state_of (heard_to s.numbers (last_of p)) (record { pairs = insert_by (pair_of p.first p.count plain) s.shelf.pairs; places = s.shelf.places })
    s.partials s.gaps s.outlet)))

unfoldable pub placed_of : State → Packet → List ℕ → List (List ℕ) → Done
placed_of s p plain messages =
    cond (is_past s.numbers.«end» (last_of p)) (done (Err (record { cause = PastEnd; value = p.first })) s)
    (cond (p.first == s.numbers.next) (heard_if_ok (delivered_of s p.first messages) (last_of p)) (held_of s p plain))

-- Coding: the plain body of a coded one.
abbrev pub opened_by : Coder → Packet → List ℕ → List ℕ
opened_by c p coded = cond (is_sealed p.flag.0) (c.opens p.first coded) coded

unfoldable pub plain_of : Coder → Packet → List ℕ → Result (List ℕ) Refusal
plain_of c p coded =
    cond (is_sealed p.flag.0 && not (c.ready p.first)) (Err (record { cause = CoderNotReady; value = p.start }))
    (and_then (checked_of p (opened_by c p coded)) (λ _. Ok (opened_by c p coded)))

-- Splitting, and then placing.
abbrev pub split_then : State → Packet → List ℕ → Result (List (List ℕ)) Refusal → Done
split_then s p plain (Err refusal) = done (Err refusal) s
split_then s p plain (Ok messages) = placed_of s p plain messages

abbrev pub opened_then : State → Packet → Result (List ℕ) Refusal → Done
opened_then s p (Err refusal) = done (Err refusal) s
opened_then s p (Ok plain) = split_then s p plain (split_of p.count plain)

unfoldable pub whole_of : Coder → State → Packet → List ℕ → Done
whole_of c s p coded = opened_then s p (plain_of c p coded)

-- Joining: a datagram's piece of the coded body, and what it comes to.
abbrev pub piece_of : Packet → List ℕ → List ℕ
piece_of p datagram = take (p.«end» - p.start) (drop p.start datagram)

abbrev pub head_for : Packet → Fragment → PartialHead
head_for p f = record { sender = p.sender; first = p.first; count = p.count; flag = p.flag.0; total = f.total; checksum = p.checksum }

abbrev pub comes_by : Option Fragment → List Partial → Packet → List ℕ → Outcome
comes_by None ps p datagram = whole (piece_of p datagram)
comes_by (Some f) ps p datagram = join_of ps (head_for p f) f.number (piece_of p datagram)

abbrev pub comes_to : List Partial → Packet → List ℕ → Outcome
comes_to ps p datagram = comes_by p.fragment ps p datagram

-- A fragment that completes a packet which is taken ends its partial.
abbrev pub ended_by : Option Fragment → Packet → List Partial → List Partial
ended_by None p ps = ps
ended_by (Some f) p ps = withoutPartial p.sender p.first ps

abbrev pub ends_if_ok : Done → Packet → Done
ends_if_ok d p = done d.answer (cond (is_ok d.answer) (with_partials d.state (ended_by p.fragment p d.state.partials)) d.state)

abbrev pub joined_then : Coder → State → Packet → Outcome → Done
joined_then c s p (refused refusal) = done (Err refusal) s
joined_then c s p again = done (Ok answers.FragmentAgain) s
joined_then c s p (kept ps bytes) = done (Ok answers.FragmentKept) (with_partials s ps)
joined_then c s p (whole coded) = ends_if_ok (whole_of c s p coded) p

-- Data: expired below the next expected number, else joined.
unfoldable pub data_of : Coder → State → Packet → List ℕ → Done
data_of c s p datagram = cond (nat_lt p.first s.numbers.next) (done (Ok answers.Expired) s) (joined_then c s p (comes_to s.partials p datagram))

abbrev pub read_then : Coder → State → List ℕ → Result Reading Refusal → Done
read_then c s datagram (Err refusal) = done (Err refusal) s
read_then c s datagram (Ok (reading.Heartbeat sender)) = done (Ok answers.Heartbeat) s
read_then c s datagram (Ok (reading.StreamHeartbeat sender last)) = beat_of s last
read_then c s datagram (Ok (reading.StreamEnd sender last)) = end_of s last
read_then c s datagram (Ok (reading.Data packet)) = data_of c s packet datagram

unfoldable pub arrive_of : Coder → State → List ℕ → List ℕ → List ℕ → Done
arrive_of c s datagram joining plain =
    cond (buffers_fit joining plain) (read_then c s datagram (reading_of s.numbers.channel datagram)) (done (Err (record { cause = BufferSize; value = 0 })) s)
