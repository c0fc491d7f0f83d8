-- What is packed is read back.
use Rattle.std.specs.Prelude.{◌≡◌, ℕ, ◌-◌, ◌*◌, ◌^◌, ◌<◌, Bool, cond, List, length, Some, None, Ok, Option}
use Rattle.base.specs.Adler.{adler_of}
use Rattle.base.specs.Limits.{trailer_size}
use Rattle.wire.specs.Bodies.{part_of}
use Rattle.sending.specs.Packing.{is_cut, total_for, piece_of, flag_for, header_words, coded_for, packed_of}
use Rattle.wire.specs.Reading.{reading_of}
use Rattle.wire.specs.declared.datagram.Fragment.{Fragment}
use Rattle.wire.specs.declared.datagram.Packet.{Packet}
use Rattle.wire.specs.declared.datagram.Reading.TheVariants.{Data}
use Rattle.sending.specs.declared.packing.Packing.{Packing}

-- The packet that a packing asks for: its fragment's numbers where it is cut, its plain body's checksum where that is asked for,
-- and its coded body between the header and the trailer of a datagram of so many bytes.
abbrev pub fragment_for : Packing → List ℕ → Option Fragment
fragment_for p plain =
    cond (is_cut p) (Some (record { total = total_for p.piece_size (length plain); number = p.«fragment» })) None

abbrev pub checksum_for : Packing → List ℕ → Option ℕ
checksum_for p plain = cond p.checksum (Some (adler_of plain)) None

abbrev pub packet_for : Packing → List ℕ → ℕ → Packet
packet_for p plain size =
    record {
      header_size = header_words p;
      sender = p.sender;
      first = p.first;
      count = p.count;
      flag = record { 0 = flag_for p };
      fragment = fragment_for p plain;
      checksum = checksum_for p plain;
      start = 4 * header_words p;
      end = size - trailer_size;
    }

-- A datagram is read as the packet that its packing asks for, and has the piece of the coded body where the packet says.
pub record ReadBack (p : Packing) (plain coded d : List ℕ) : Type 0 where
  pub reading : reading_of p.channel d ≡ Ok (Data (packet_for p plain (length d)))
  pub piece : part_of (packet_for p plain (length d)).start (packet_for p plain (length d)).end d ≡ Some (piece_of p coded)

-- Whatever is packed for a channel of two bytes, with a coded body as long as the plain one, is read back.
abbrev pub EveryReadsBack : Type 0
EveryReadsBack =
    (ready : ℕ → Bool) (seals : ℕ → List ℕ → List ℕ) (p : Packing) (plain d : List ℕ)
    → length (coded_for seals p plain) ≡ length plain
    → p.channel < 2 ^ 16
    → packed_of ready seals p plain ≡ Ok d
    → ReadBack p plain (coded_for seals p plain) d
