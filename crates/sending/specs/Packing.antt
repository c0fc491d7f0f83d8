-- What the packer writes: a datagram from its arguments and a plain body, or a refusal.
use Rattle.std.specs.Prelude.{◌≡◌, ℕ, ◌+◌, ◌-◌, ◌*◌, ◌/◌, ◌≤◌, Bool, true, cond, not, ◌&&◌, ◌||◌, List, [], ◌∷◌, ◌++◌, map, length, take, drop, replicate, is_ok, Ok, Err, Result, ◌==◌, nat_lt}
use Rattle.std.specs.List.{range_with_len}
use Rattle.base.specs.Adler.{adler_of}
use Rattle.base.specs.Fields.{be_bytes}
use Rattle.base.specs.Limits.{max_number, max_datagram, max_messages, max_fragments, body_room, trailer_size}
use Rattle.base.specs.Refusals.{Row, first_of}
use Rattle.base.specs.declared.refusal.Cause.{Cause}
use Rattle.base.specs.declared.refusal.Cause.TheVariants.{BufferSize, PackArgument, SealNotReady}
use Rattle.base.specs.declared.refusal.Refusal.{Refusal}
use Rattle.wire.specs.Splitting.{split_of}
use Rattle.sending.specs.declared.packing.Packing.{Packing}

-- A piece size of 0 asks for no fragments.
abbrev pub is_cut : Packing → Bool
is_cut p = not (p.piece_size == 0)

-- The fragments of a body, all of the piece size but perhaps the last.
abbrev pub total_for : ℕ → ℕ → ℕ
total_for size bytes = (bytes + size - 1) / size

abbrev pub piece_at : ℕ → ℕ → List ℕ → List ℕ
piece_at size number coded = take size (drop (size * (number - 1)) coded)

-- All pieces of a coded body, by the numbers of their fragments.
abbrev pub pieces_of : ℕ → ℕ → List ℕ → List (List ℕ)
pieces_of size total coded = map (λ number. piece_at size number coded) (range_with_len 1 total)

-- The part of the coded body that the datagram carries.
abbrev pub piece_of : Packing → List ℕ → List ℕ
piece_of p coded = cond (is_cut p) (piece_at p.piece_size p.«fragment» coded) coded

-- Application data that can be resent by number and has lengths, and what the arguments add.
abbrev pub flag_for : Packing → ℕ
flag_for p = 0x3080 + cond p.duplicate 0x8000 0 + cond p.sealed 0x100 0 + cond (is_cut p) 0x40 0 + cond p.checksum 0x20 0

abbrev pub header_words : Packing → ℕ
header_words p = 5 + cond (is_cut p) 1 0 + cond p.checksum 1 0

-- The header: its five words, the fragment's numbers, the plain body's checksum.
abbrev pub head_for : Packing → List ℕ
head_for p =
    (0xFF ∷ (1 ∷ (header_words p ∷ (p.sender ∷ []))))
    ++ (be_bytes 2 1 ++ (be_bytes 2 p.channel ++ (be_bytes 8 p.first ++ (be_bytes 2 p.count ++ be_bytes 2 (flag_for p)))))

abbrev pub fragment_field : Packing → List ℕ → List ℕ
fragment_field p plain = cond (is_cut p) (be_bytes 2 (total_for p.piece_size (length plain)) ++ be_bytes 2 p.«fragment») []

abbrev pub checksum_field : Packing → List ℕ → List ℕ
checksum_field p plain = cond p.checksum (be_bytes 4 (adler_of plain)) []

abbrev pub header_for : Packing → List ℕ → List ℕ
header_for p plain = head_for p ++ (fragment_field p plain ++ checksum_field p plain)

-- The whole body is sealed before it is cut.
abbrev pub coded_for : (ℕ → List ℕ → List ℕ) → Packing → List ℕ → List ℕ
coded_for seals p plain = cond p.sealed (seals p.first plain) plain

-- bytes and their trailer
abbrev pub with_trailer : List ℕ → List ℕ
with_trailer bytes = bytes ++ be_bytes 4 (adler_of bytes)

unfoldable pub datagram_for : (ℕ → List ℕ → List ℕ) → Packing → List ℕ → List ℕ
datagram_for seals p plain = with_trailer (header_for p plain ++ piece_of p (coded_for seals p plain))

abbrev pub refused_by : Cause → Refusal
refused_by cause = record { cause = cause; value = 0 }

-- What the arguments must keep to.
abbrev pub argument_rows : Packing → List ℕ → List Row
argument_rows p plain =
    ((p.channel == 0), refused_by PackArgument)
    ∷ (p.count == 0 || nat_lt max_messages p.count, refused_by PackArgument)
    ∷ (p.first == 0 || nat_lt max_number (p.first + p.count - 1), refused_by PackArgument)
    ∷ (nat_lt body_room (length plain) || not (is_ok (split_of p.count plain)), refused_by PackArgument)
    ∷ []

-- What the pieces must keep to: a number among 1 to 16 of them, or no number where there are none.
abbrev pub piece_rows : Packing → List ℕ → List Row
piece_rows p plain =
    (not (is_cut p) && not (p.«fragment» == 0), refused_by PackArgument)
    ∷ (is_cut p && nat_lt max_fragments (total_for p.piece_size (length plain)), refused_by PackArgument)
    ∷ (is_cut p && (p.«fragment» == 0 || nat_lt (total_for p.piece_size (length plain)) p.«fragment»), refused_by PackArgument)
    ∷ (nat_lt max_datagram (4 * header_words p + length (piece_of p plain) + trailer_size), refused_by PackArgument)
    ∷ []

-- What holds of pieces that no row refuses.
pub record PiecesFit (p : Packing) (plain : List ℕ) : Type 0 where
  pub numbers : is_cut p ≡ true → total_for p.piece_size (length plain) ≤ max_fragments
  pub size : 4 * header_words p + length (piece_of p plain) + trailer_size ≤ max_datagram

-- A body is sealed only by a coder that is ready for it.
abbrev pub ready_rows : (ℕ → Bool) → Packing → List Row
ready_rows ready p = (p.sealed && not (ready p.first), refused_by SealNotReady) ∷ []

-- All that is tested before the buffer is written to.
unfoldable pub tested_of : (ℕ → Bool) → Packing → List ℕ → Result (Unit {0}) Refusal
tested_of ready p plain = first_of (argument_rows p plain) (first_of (piece_rows p plain) (first_of (ready_rows ready p) (Ok tt)))

-- The datagram, where arguments and pieces are sound and the coder is ready.
unfoldable pub packed_of : (ℕ → Bool) → (ℕ → List ℕ → List ℕ) → Packing → List ℕ → Result (List ℕ) Refusal
packed_of ready seals p plain =
    first_of (argument_rows p plain)
    (first_of (piece_rows p plain)
    (first_of (ready_rows ready p) (Ok (datagram_for seals p plain))))

-- The packer writes into a buffer that has room for every datagram, and into no other.
abbrev pub packed_into : (ℕ → Bool) → (ℕ → List ℕ → List ℕ) → Packing → List ℕ → List ℕ → Result (List ℕ) Refusal
packed_into ready seals p plain buffer =
    first_of ((not (length buffer == max_datagram), refused_by BufferSize) ∷ []) (packed_of ready seals p plain)

-- It answers the datagram's length.
abbrev pub length_in : Result (List ℕ) Refusal → Result ℕ Refusal
length_in (Ok datagram) = Ok (length datagram)
length_in (Err refusal) = Err refusal

-- Zeros stand behind the datagram; a refusal leaves the buffer as it was.
abbrev pub buffer_after : List ℕ → Result (List ℕ) Refusal → List ℕ
buffer_after buffer (Ok datagram) = datagram ++ replicate (max_datagram - length datagram) 0
buffer_after buffer (Err refusal) = buffer
