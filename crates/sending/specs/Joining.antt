-- The pieces of a packed body, joined, opened and split.
use Rattle.std.specs.Prelude.{◌≡◌, ℕ, ◌+◌, ◌^◌, ◌<◌, Bool, true, cond, List, [], length, Some, Ok, slice_index_or}
use Rattle.base.specs.Areas.{Bytes}
use Rattle.parts.specs.Coders.{Inverse}
use Rattle.wire.specs.Bodies.{part_of}
use Rattle.wire.specs.Joining.{joined_pieces}
use Rattle.sending.specs.Packing.{pieces_of}
use Rattle.sending.specs.Packing.{total_for, coded_for, packed_of}
use Rattle.wire.specs.Reading.{reading_of}
use Rattle.wire.specs.Splitting.{split_of, Tells}
use Rattle.wire.specs.declared.datagram.Packet.{Packet}
use Rattle.wire.specs.declared.datagram.Reading.TheVariants.{Data}
use Rattle.sending.specs.declared.packing.Packing.{Packing}

-- A body as the coder opens it, where it is sealed.
abbrev pub opened_for : (ℕ → List ℕ → List ℕ) → Packing → List ℕ → List ℕ
opened_for opens p coded = cond p.sealed (opens p.first coded) coded

-- A body is the coded one, opens to the plain one, and splits into the messages of which that is made.
pub record JoinedBack (opens seals : ℕ → List ℕ → List ℕ) (p : Packing) (plain body : List ℕ) : Type 0 where
  pub coded : body ≡ coded_for seals p plain
  pub opened : opened_for opens p body ≡ plain
  pub split : (messages : List (List ℕ)) → Tells p.count plain messages → split_of p.count (opened_for opens p body) ≡ Ok messages

-- All pieces of a packing that is cut, joined by their numbers.
abbrev pub PiecesJoin : Type 0
PiecesJoin =
    (ready : ℕ → Bool) (opens seals : ℕ → List ℕ → List ℕ) (p : Packing) (plain : List ℕ)
    → Inverse ready opens seals
    → Bytes plain
    → 0 < p.piece_size
    → (p.sealed ≡ true → ready p.first ≡ true)
    → JoinedBack opens seals p plain
    (joined_pieces (pieces_of p.piece_size (total_for p.piece_size (length plain)) (coded_for seals p plain)))

-- A packing, for the fragment of another number.
abbrev pub fragment_at : ℕ → Packing → Packing
fragment_at number p =
    record {
      sender = p.sender;
      channel = p.channel;
      first = p.first;
      count = p.count;
      duplicate = p.duplicate;
      sealed = p.sealed;
      checksum = p.checksum;
      piece_size = p.piece_size;
      «fragment» = number;
    }

-- A piece that is read from the datagram of a packing.
pub record ReadPiece (ready : ℕ → Bool) (seals : ℕ → List ℕ → List ℕ) (p : Packing) (plain piece : List ℕ) : Type 0 where
  pub datagram : List ℕ
  pub packet : Packet
  pub packed : packed_of ready seals p plain ≡ Ok datagram
  pub reading : reading_of p.channel datagram ≡ Ok (Data packet)
  pub part : part_of packet.start packet.end datagram ≡ Some piece

-- The pieces that are read from the datagrams of all numbers, joined by these.
abbrev pub FragmentsJoin : Type 0
FragmentsJoin =
    (ready : ℕ → Bool) (opens seals : ℕ → List ℕ → List ℕ) (p : Packing) (plain : List ℕ) (pieces : List (List ℕ))
    → Inverse ready opens seals
    → Bytes plain
    → 0 < p.piece_size
    → p.channel < 2 ^ 16
    → (p.sealed ≡ true → ready p.first ≡ true)
    → length pieces ≡ total_for p.piece_size (length plain)
    → ((k : ℕ) → k < length pieces → ReadPiece ready seals (fragment_at (k + 1) p) plain (slice_index_or pieces k []))
    → JoinedBack opens seals p plain (joined_pieces pieces)
