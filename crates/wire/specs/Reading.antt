-- What a datagram is read as: its rows of refusals, tried in their order, and then its kind and fields.
use Rattle.std.specs.Prelude.{ℕ, ◌+◌, ◌-◌, ◌*◌, Bool, cond, not, ◌&&◌, ◌||◌, List, [], ◌∷◌, length, take, ℤ, pos, negsuc, Some, None, Ok, Err, Option, Result, ◌==◌, nat_le, nat_lt}
use Rattle.std.specs.Option.{ok_or}
use Rattle.base.specs.Adler.{adler_of}
use Rattle.base.specs.Fields.{be}
use Rattle.base.specs.Limits.{max_number, min_datagram, max_datagram, max_messages, max_fragments, trailer_size}
use Rattle.base.specs.Refusals.{Row, first_of, refused_in}
use Rattle.base.specs.declared.refusal.Cause.TheVariants.{DatagramSize, Protocol, Version, Trailer, Market, Channel, FlagBits, HeaderSize, ControlShape, MessageCount, DataFlag, NumberRange}
use Rattle.base.specs.declared.refusal.Cause.TheVariants as causes
use Rattle.base.specs.declared.refusal.Refusal.{Refusal}
use Rattle.wire.specs.Flags.{message_type, is_by_number, compression, encryption, has_lengths, is_fragmented, has_checksum, reserved}
use Rattle.wire.specs.Header.{protocol_of, version_of, head_of}
use Rattle.wire.specs.declared.datagram.Fragment.{Fragment}
use Rattle.wire.specs.declared.datagram.Packet.{Packet}
use Rattle.wire.specs.declared.datagram.Reading.{Reading}
use Rattle.wire.specs.declared.datagram.Reading.TheVariants.{Heartbeat, StreamHeartbeat, StreamEnd, Data}
use Rattle.wire.specs.declared.head.Head.{Head}

-- The datagram as a whole: its size, its first bytes and its trailer.
abbrev pub frame_rows : List ℕ → List Row
frame_rows d =
    (nat_lt (length d) min_datagram || nat_lt max_datagram (length d), refused_in d DatagramSize)
    ∷ (not (protocol_of d == 0xFF), refused_in d Protocol)
    ∷ (not (version_of d == 1), refused_in d Version)
    ∷ (not (be 4 d (length d - trailer_size) == adler_of (take (length d - trailer_size) d)), refused_in d Trailer)
    ∷ []

unfoldable pub frame_of : List ℕ → Result Head Refusal
frame_of d = first_of (frame_rows d) (Ok (head_of d))

-- The words of a header: five, one more for the fragment's numbers and one more for the body's checksum.
abbrev pub words_for : ℕ → ℕ
words_for flag = 5 + cond (is_fragmented flag) 1 0 + cond (has_checksum flag) 1 0

-- What every header keeps to, on a channel.
abbrev pub head_rows : ℕ → List ℕ → Head → List Row
head_rows channel d h =
    (not (h.market == 1), refused_in d Market)
    ∷ (not (h.channel == 0) && not (h.channel == channel), refused_in d Channel)
    ∷ (not (reserved h.flag.0 == 0), refused_in d FlagBits)
    ∷ (nat_lt 1 (message_type h.flag.0), refused_in d FlagBits)
    ∷ (not (compression h.flag.0 == 0), refused_in d FlagBits)
    ∷ (nat_lt 1 (encryption h.flag.0), refused_in d FlagBits)
    ∷ (not (h.header_size == words_for h.flag.0), refused_in d HeaderSize)
    ∷ (nat_lt (length d) (4 * h.header_size + trailer_size), refused_in d HeaderSize)
    ∷ []

unfoldable pub sound_head : ℕ → List ℕ → Head → Result Head Refusal
sound_head channel d h = first_of (head_rows channel d h) (Ok h)

-- A heartbeat or a stream end, and not data.
abbrev pub is_control : Head → Bool
is_control h = h.channel == 0 || (h.count == 0 || h.count == 0xFFFF)

-- A sequence number from 0 to the largest.
abbrev pub numbered : ℤ → Option ℕ
numbered (pos n) = cond (nat_le n max_number) (Some n) None
numbered (negsuc n) = None

-- Heartbeats and ends have 24 bytes and no flag; a multicast heartbeat has no numbers either.
abbrev pub control_kind : Head → Option ℕ → Option Reading
control_kind h None = None
control_kind h (Some last) =
    cond (h.channel == 0) (cond (last == 0 && h.count == 0) (Some (Heartbeat h.sender)) None)
    (Some (cond (h.count == 0) (StreamHeartbeat h.sender last) (StreamEnd h.sender last)))

abbrev pub control_rows : List ℕ → Head → List Row
control_rows d h =
    (not (length d == min_datagram), refused_in d ControlShape)
    ∷ (not (h.flag.0 == 0), refused_in d ControlShape)
    ∷ []

unfoldable pub control_of : List ℕ → Head → Result Reading Refusal
control_of d h = first_of (control_rows d h) (ok_or (control_kind h (numbered h.seq)) (refused_in d ControlShape))

-- The first number of a packet, where all its numbers lie in 1 to the largest.
abbrev pub first_in_range : Option ℕ → ℕ → Option ℕ
first_in_range None count = None
first_in_range (Some first) count = cond (nat_le 1 first && nat_le (first + count - 1) max_number) (Some first) None

abbrev pub data_rows : List ℕ → Head → List Row
data_rows d h =
    (nat_lt max_messages h.count, refused_in d MessageCount)
    ∷ (not (message_type h.flag.0 == 1), refused_in d DataFlag)
    ∷ (not (is_by_number h.flag.0), refused_in d DataFlag)
    ∷ (not (has_lengths h.flag.0), refused_in d DataFlag)
    ∷ []

unfoldable pub first_number_of : List ℕ → Head → Result ℕ Refusal
first_number_of d h = first_of (data_rows d h) (ok_or (first_in_range (numbered h.seq) h.count) (refused_in d NumberRange))

-- A fragment's numbers; its piece of the body is not empty.
abbrev pub fragment_numbers : List ℕ → Fragment
fragment_numbers d = record { total = be 2 d 20; number = be 2 d 22 }

abbrev pub fragment_rows : List ℕ → Head → Fragment → List Row
fragment_rows d h f =
    (f.total == 0 || nat_lt max_fragments f.total, refused_in d causes.Fragment)
    ∷ (f.number == 0 || nat_lt f.total f.number, refused_in d causes.Fragment)
    ∷ ((length d == 4 * h.header_size + trailer_size), refused_in d causes.Fragment)
    ∷ []

unfoldable pub fragment_of : List ℕ → Head → Result (Option Fragment) Refusal
fragment_of d h =
    cond (is_fragmented h.flag.0) (first_of (fragment_rows d h (fragment_numbers d)) (Ok (Some (fragment_numbers d)))) (Ok None)

-- The plain body's checksum is the header's last word.
abbrev pub checksum_of : List ℕ → Head → Option ℕ
checksum_of d h = cond (has_checksum h.flag.0) (Some (be 4 d (4 * h.header_size - 4))) None

abbrev pub packet_of : List ℕ → Head → ℕ → Option Fragment → Packet
packet_of d h first fragment =
    record {
      header_size = h.header_size;
      sender = h.sender;
      first = first;
      count = h.count;
      flag = h.flag;
      fragment = fragment;
      checksum = checksum_of d h;
      start = 4 * h.header_size;
      end = length d - trailer_size;
    }

-- A layer that answers hands its answer on; one that refuses ends the reading.
abbrev pub and_then : {X Y E : Type 0} → Result X E → (X → Result Y E) → Result Y E
and_then (Ok x) next = next x
and_then (Err e) next = Err e

abbrev pub data_of : List ℕ → Head → Result Reading Refusal
data_of d h =
    and_then (first_number_of d h) (λ first. and_then (fragment_of d h) (λ fragment. Ok (Data (packet_of d h first fragment))))

-- What a datagram is read as on a channel.
abbrev pub layers_of : ℕ → List ℕ → Result Reading Refusal
layers_of channel d =
    and_then (frame_of d) (λ head. and_then (sound_head channel d head) (λ h. cond (is_control h) (control_of d h) (data_of d h)))

unfoldable pub reading_of : ℕ → List ℕ → Result Reading Refusal
reading_of channel d = layers_of channel d
