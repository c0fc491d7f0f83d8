-- What was read is packed again as it stood.
use Rattle.std.specs.Prelude.{◌≡◌, ℕ, Bool, true, List, Some, None, Ok, ◌==◌}
use Rattle.base.specs.Areas.{Bytes}
use Rattle.base.specs.Fields.{bits}
use Rattle.parts.specs.Coders.{Inverse}
use Rattle.wire.specs.Bodies.{part_of, checked_of}
use Rattle.wire.specs.Flags.{is_sealed, has_checksum}
use Rattle.sending.specs.Packing.{packed_of}
use Rattle.wire.specs.Reading.{reading_of}
use Rattle.wire.specs.Splitting.{split_of}
use Rattle.wire.specs.declared.datagram.Packet.{Packet}
use Rattle.wire.specs.declared.datagram.Reading.TheVariants.{Data}
use Rattle.sending.specs.declared.packing.Packing.{Packing}
use Rattle.sending.specs.Joining.{opened_for}

-- bit 15 of a flag: the packet may have been sent before
abbrev pub is_duplicate : ℕ → Bool
is_duplicate flag = bits flag 15 1 == 1

-- The packing that asks for a packet of no fragments, on its channel.
abbrev pub packing_of : ℕ → Packet → Packing
packing_of channel a =
    record {
      sender = a.sender;
      channel = channel;
      first = a.first;
      count = a.count;
      duplicate = is_duplicate a.flag.0;
      sealed = is_sealed a.flag.0;
      checksum = has_checksum a.flag.0;
      piece_size = 0;
      «fragment» = 0;
    }

-- A datagram is read as a packet of no fragments, whose body opens, has its checksum and splits into messages.
pub record Received (ready : ℕ → Bool) (opens : ℕ → List ℕ → List ℕ) (channel : ℕ) (d : List ℕ) (a : Packet) (coded plain : List ℕ) (messages : List (List ℕ)) : Type 0 where
  pub reading : reading_of channel d ≡ Ok (Data a)
  pub whole : a.fragment ≡ None
  pub body : part_of a.start a.end d ≡ Some coded
  pub coder : is_sealed a.flag.0 ≡ true → ready a.first ≡ true
  pub opened : opened_for opens (packing_of channel a) coded ≡ plain
  pub checked : checked_of a plain ≡ Ok tt
  pub split : split_of a.count plain ≡ Ok messages

-- The packing that asks for the packet packs the very datagram.
abbrev pub Repacks : Type 0
Repacks =
    (ready : ℕ → Bool) (opens seals : ℕ → List ℕ → List ℕ) (channel : ℕ) (d : List ℕ) (a : Packet) (coded plain : List ℕ) (messages : List (List ℕ))
    → Inverse ready opens seals
    → Bytes d
    → Received ready opens channel d a coded plain messages
    → packed_of ready seals (packing_of channel a) plain ≡ Ok d
