-- A capture from a text: what each line adds.
use Rattle.std.specs.Prelude.{ℕ, ◌-◌, ◌^◌, cond, List, [], ◌∷◌, ◌++◌, length, take, Some, None, Option, nat_le}
use Rattle.base.specs.Fields.{be_bytes}
use Rattle.base.specs.Limits.{max_number}
use Rattle.sending.specs.Packing.{with_trailer}
use Rattle.words.specs.Words.{word_of, after_word, is_blank, number_of, hex_of, fitting}

-- Fields: a number up to a limit; the last field of a line; the last two.
abbrev pub up_to : ℕ → Option ℕ → Option ℕ
up_to most None = None
up_to most (Some n) = cond (nat_le n most) (Some n) None

abbrev pub last_field : ℕ → List ℕ → Option ℕ
last_field most line = cond (is_blank (after_word line)) (up_to most (number_of (word_of line))) None

abbrev pub paired : Option ℕ → Option ℕ → Option (ℕ × ℕ)
paired None b = None
paired (Some a) None = None
paired (Some a) (Some b) = Some (a, b)

abbrev pub last_two : ℕ → ℕ → List ℕ → Option (ℕ × ℕ)
last_two most next line = paired (up_to most (number_of (word_of line))) (last_field next (after_word line))

abbrev pub mapped : {X Y : Type 0} → (X → Y) → Option X → Option Y
mapped f None = None
mapped f (Some x) = Some (f x)

-- Records: byte 1, a length and a datagram; byte 2 and a number.
abbrev pub datagram_record : List ℕ → List ℕ
datagram_record d = 1 ∷ (be_bytes 2 (length d) ++ d)

abbrev pub judge_record : ℕ → List ℕ
judge_record k = 2 ∷ be_bytes 8 k

-- A heartbeat or a stream end: a header of five words with no flag, and the trailer.
unfoldable pub control_head : ℕ → ℕ → ℕ → ℕ → List ℕ
control_head sender channel last count =
    (0xFF ∷ (1 ∷ (5 ∷ (sender ∷ [])))) ++ (be_bytes 2 1 ++ (be_bytes 2 channel ++ (be_bytes 8 last ++ (be_bytes 2 count ++ be_bytes 2 0))))

unfoldable pub control_for : ℕ → ℕ → ℕ → ℕ → List ℕ
control_for sender channel last count = with_trailer (control_head sender channel last count)

-- What the lines add, by what follows their first word.
unfoldable pub judge_of : List ℕ → Option (List ℕ)
judge_of rest = mapped judge_record (last_field (2 ^ 64 - 1) rest)

-- A datagram's length has two bytes.
unfoldable pub hex_record : List ℕ → Option (List ℕ)
hex_record word = mapped datagram_record (fitting 65535 (hex_of word))

unfoldable pub raw_of : List ℕ → Option (List ℕ)
raw_of rest = cond (is_blank (after_word rest)) (hex_record (word_of rest)) None

unfoldable pub heartbeat_of : List ℕ → Option (List ℕ)
heartbeat_of rest = mapped (λ sender. datagram_record (control_for sender 0 0 0)) (last_field 255 rest)

unfoldable pub stream_of : ℕ → ℕ → List ℕ → Option (List ℕ)
stream_of channel count rest = mapped (λ p. datagram_record (control_for p.0 channel p.1 count)) (last_two 255 max_number rest)

-- What an answer says of an area: how many bytes stand at its front, and which.
abbrev pub front_in : Option ℕ → List ℕ → Option (ℕ × List ℕ)
front_in None area = None
front_in (Some n) area = Some (n, take n area)

abbrev pub sized : Option (List ℕ) → Option (ℕ × List ℕ)
sized None = None
sized (Some bytes) = Some (length bytes, bytes)
