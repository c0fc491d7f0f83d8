-- A data line: what its datagram is packed from.
use Rattle.std.specs.Prelude.{ℕ, ◌-◌, ◌^◌, Bool, true, false, cond, List, [], ◌∷◌, ◌++◌, length, take, drop, Some, None, Ok, Err, codes, Option, Result}
use Rattle.std.specs.Str.{bytes_eq}
use Rattle.base.specs.Fields.{be_bytes}
use Rattle.base.specs.Limits.{max_message, body_room}
use Rattle.base.specs.declared.refusal.Refusal.{Refusal}
use Rattle.words.specs.Words.{word_of, after_word, words_of, number_of, hex_of, fitting}
use Rattle.composing.specs.Composing.{up_to, mapped, datagram_record}
use Rattle.sending.specs.Packing.{packed_of}
use Rattle.sending.specs.declared.packing.Packing.{Packing}
use Rattle.composing.specs.declared.data.Marks.{Marks}
use Rattle.composing.specs.declared.data.Part.{Part}
use Rattle.composing.specs.declared.data.Part.TheVariants.{Size, Content}

-- A message is t:TEXT, which stands for its bytes, or x:HEX.
unfoldable pub message_of : List ℕ → Option (List ℕ)
message_of word =
    cond (bytes_eq (take 2 word) (codes "t:")) (Some (drop 2 word)) (cond (bytes_eq (take 2 word) (codes "x:")) (hex_of (drop 2 word)) None)

-- A body has the sizes of its messages, of four bytes each, and then the messages.
unfoldable pub part_of : Part → List ℕ → Option (List ℕ)
part_of Size word = mapped (λ m. be_bytes 4 (length m)) (fitting max_message (message_of word))
part_of Content word = message_of word

abbrev pub joined : Option (List ℕ) → Option (List ℕ) → Option (List ℕ)
joined None rest = None
joined (Some bytes) None = None
joined (Some bytes) (Some rest) = Some (bytes ++ rest)

abbrev pub all_of : Part → List (List ℕ) → Option (List ℕ)
all_of part [] = Some []
all_of part (word ∷ words) = joined (part_of part word) (all_of part words)

unfoldable pub plain_of : List ℕ → Option (List ℕ)
plain_of line = joined (all_of Size (words_of line)) (all_of Content (words_of line))

abbrev pub then_on : {X Y : Type 0} → Option X → (X → Option Y) → Option Y
then_on None next = None
then_on (Some x) next = next x

-- The marks: d for a possible duplicate, s for a sealed body, c for its checksum; or - for none of them.
unfoldable pub marks_of : List ℕ → Option Marks
marks_of word =
    cond (bytes_eq word (codes "-")) (Some (record { duplicate = false; sealed = false; checksum = false }))
    (cond (bytes_eq word (codes "d")) (Some (record { duplicate = true; sealed = false; checksum = false }))
    (cond (bytes_eq word (codes "s")) (Some (record { duplicate = false; sealed = true; checksum = false }))
    (cond (bytes_eq word (codes "c")) (Some (record { duplicate = false; sealed = false; checksum = true }))
    (cond (bytes_eq word (codes "ds")) (Some (record { duplicate = true; sealed = true; checksum = false }))
    (cond (bytes_eq word (codes "dc")) (Some (record { duplicate = true; sealed = false; checksum = true }))
    (cond (bytes_eq word (codes "sc")) (Some (record { duplicate = false; sealed = true; checksum = true }))
    (cond (bytes_eq word (codes "dsc")) (Some (record { duplicate = true; sealed = true; checksum = true })) None)))))))

-- SENDER FIRST MARKS SIZE FRAGMENT, and what follows them.
abbrev pub field_of : ℕ → List ℕ → Option ℕ
field_of most rest = up_to most (number_of (word_of rest))

abbrev pub after_five : List ℕ → List ℕ
after_five rest = after_word (after_word (after_word (after_word (after_word rest))))

unfoldable pub packing_of : ℕ → ℕ → List ℕ → Option Packing
packing_of channel count rest =
    then_on (field_of 255 rest) (λ sender.
    then_on (field_of (2 ^ 64 - 1) (after_word rest)) (λ first.
    then_on (marks_of (word_of (after_word (after_word rest)))) (λ marks.
    then_on (field_of 65535 (after_word (after_word (after_word rest)))) (λ size.
    then_on (field_of 65535 (after_word (after_word (after_word (after_word rest))))) (λ number.
    Some (record {
      sender = sender;
      channel = channel;
      first = first;
      count = count;
      duplicate = marks.duplicate;
      sealed = marks.sealed;
      checksum = marks.checksum;
      piece_size = size;
      «fragment» = number;
    }))))))

-- The record of a data line, packed for a coder; a line that the packer refuses is bad.
abbrev pub packed_record : Result (List ℕ) Refusal → Option (List ℕ)
packed_record (Ok datagram) = Some (datagram_record datagram)
packed_record (Err refusal) = None

-- What a data line is packed from: a body within the room, at most 65,535 messages, and the fields before them.
unfoldable pub prepared_of : ℕ → ℕ → List ℕ → Option (Packing × List ℕ)
prepared_of room channel rest =
    then_on (fitting room (plain_of (after_five rest))) (λ plain.
    then_on (up_to 65535 (Some (length (words_of (after_five rest))))) (λ count.
    then_on (packing_of channel count rest) (λ packing. Some (packing, plain))))

unfoldable pub data_of : (ℕ → Bool) → (ℕ → List ℕ → List ℕ) → ℕ → List ℕ → Option (List ℕ)
data_of ready seals channel rest = then_on (prepared_of body_room channel rest) (λ p. packed_record (packed_of ready seals p.0 p.1))

-- What an answer says of an area: the packing, and the body at the front.
abbrev pub prepared_in : Option (Packing × ℕ) → List ℕ → Option (Packing × (ℕ × List ℕ))
prepared_in None area = None
prepared_in (Some p) area = Some (p.0, (p.1, take p.1 area))

abbrev pub prepared_sized : Option (Packing × List ℕ) → Option (Packing × (ℕ × List ℕ))
prepared_sized None = None
prepared_sized (Some p) = Some (p.0, (length p.1, p.1))

-- What a packer's answer says of its buffer.
abbrev pub packed_in : Result ℕ Refusal → List ℕ → Result (List ℕ) Refusal
packed_in (Ok n) buffer = Ok (take n buffer)
packed_in (Err refusal) buffer = Err refusal
