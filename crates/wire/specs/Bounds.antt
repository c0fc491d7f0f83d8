-- What is known of a packet besides: its numbers and its body lie where they must.
use Rattle.std.specs.Prelude.{◌≡◌, ℕ, ◌+◌, ◌-◌, ◌<◌, ◌≤◌, List, length, Some, None, Ok, Err, Option, Result}
use Rattle.base.specs.Limits.{max_number, max_datagram, max_messages, max_fragments, trailer_size}
use Rattle.base.specs.declared.refusal.Refusal.{Refusal}
use Rattle.wire.specs.declared.datagram.Fragment.{Fragment}
use Rattle.wire.specs.declared.datagram.Packet.{Packet}
use Rattle.wire.specs.declared.datagram.Reading.{Reading}
use Rattle.wire.specs.declared.datagram.Reading.TheVariants.{Heartbeat, StreamHeartbeat, StreamEnd, Data}

abbrev pub FragmentBounds : Option Fragment → ℕ → ℕ → Type 0
FragmentBounds None start end = Unit {0}
FragmentBounds (Some f) start end = (1 ≤ f.number) × (f.number ≤ f.total) × (f.total ≤ max_fragments) × (start < end)

pub record PacketBounds (p : Packet) (d : List ℕ) : Type 0 where
  pub header : 20 ≤ p.start
  pub body : p.start ≤ p.end
  pub trailer : p.end + trailer_size ≡ length d
  pub size : length d ≤ max_datagram
  pub some : 1 ≤ p.count
  pub few : p.count ≤ max_messages
  pub first : 1 ≤ p.first
  pub last : p.first + p.count - 1 ≤ max_number
  pub fragment : FragmentBounds p.fragment p.start p.end

abbrev pub Bounds : Result Reading Refusal → List ℕ → Type 0
Bounds (Err e) d = Unit {0}
Bounds (Ok (Heartbeat s)) d = Unit {0}
Bounds (Ok (StreamHeartbeat s last)) d = last ≤ max_number
Bounds (Ok (StreamEnd s last)) d = last ≤ max_number
Bounds (Ok (Data p)) d = PacketBounds p d
