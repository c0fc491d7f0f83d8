-- What `inspect` prints: a line for each record of a capture. A line is given as its pieces, one after another.
use Rattle.std.specs.Prelude.{ℕ, ◌+◌, ◌-◌, Bool, cond, ◌||◌, List, [], ◌∷◌, ◌++◌, map, length, take, drop, is_some, Some, None, Ok, Err, codes, decimal, Option, Result}
use Rattle.std.specs.List.{concat}
use Rattle.base.specs.Refusals.{rule_of}
use Rattle.base.specs.declared.refusal.Refusal.{Refusal}
use Rattle.wire.specs.Bodies.{checked_of}
use Rattle.wire.specs.Flags.{is_sealed}
use Rattle.wire.specs.Reading.{reading_of, and_then}
use Rattle.wire.specs.Splitting.{split_of}
use Rattle.wire.specs.declared.datagram.Fragment.{Fragment}
use Rattle.wire.specs.declared.datagram.Packet.{Packet}
use Rattle.wire.specs.declared.datagram.Reading.{Reading}
use Rattle.wire.specs.declared.datagram.Reading.TheVariants.{Heartbeat, StreamHeartbeat, StreamEnd, Data}
use Rattle.capture.specs.Records.{Record, datagram, judge, malformed, Contents, contents_of, records_of}

abbrev pub Pieces : Type 0
Pieces = List (List ℕ)

-- a name and its number
abbrev pub named : List ℕ → ℕ → Pieces
named name n = name ∷ (decimal n ∷ [])

abbrev pub newline : Pieces
newline = codes "\n" ∷ []

-- R, the record, the number of the refusal, its value
unfoldable pub refusal_line : ℕ → Refusal → Pieces
refusal_line n e =
    named (codes "R ") n ++ (named (codes " ") (rule_of e.cause).number ++ (named (codes " ") e.value ++ newline))

-- R, the record, 81: nothing is read behind it
unfoldable pub malformed_line : ℕ → Pieces
malformed_line n = named (codes "R ") n ++ (named (codes " ") 81 ++ newline)

unfoldable pub judge_line : ℕ → ℕ → Pieces
judge_line n k = named (codes "judge ") n ++ (named (codes " number ") k ++ newline)

unfoldable pub heartbeat_line : ℕ → ℕ → Pieces
heartbeat_line n sender = named (codes "heartbeat ") n ++ (named (codes " sender ") sender ++ newline)

-- a stream heartbeat or end, by its name
unfoldable pub stream_line : List ℕ → ℕ → ℕ → ℕ → ℕ → Pieces
stream_line name n channel sender last =
    named name n ++ (named (codes " sender ") sender ++ (named (codes " channel ") channel ++ (named (codes " last ") last ++ newline)))

-- what every data datagram shows
abbrev pub header_pieces : ℕ → ℕ → Packet → Pieces
header_pieces n channel p =
    named (codes "data ") n
    ++ (named (codes " header ") p.header_size
    ++ (named (codes " sender ") p.sender
    ++ (named (codes " channel ") channel
    ++ (named (codes " first ") p.first
    ++ (named (codes " count ") p.count
    ++ named (codes " flag ") p.flag.0)))))

abbrev pub fragment_pieces : Option Fragment → Pieces
fragment_pieces None = []
fragment_pieces (Some f) = named (codes " fragment ") f.number ++ named (codes " of ") f.total

abbrev pub checksum_pieces : Option ℕ → Pieces
checksum_pieces None = []
checksum_pieces (Some sum) = named (codes " checksum ") sum

abbrev pub body_pieces : Packet → Pieces
body_pieces p = named (codes " body ") p.start ++ named (codes " to ") p.end

unfoldable pub packet_pieces : ℕ → ℕ → Packet → Pieces
packet_pieces n channel p =
    header_pieces n channel p ++ (fragment_pieces p.fragment ++ (checksum_pieces p.checksum ++ body_pieces p))

-- the lengths of the messages
abbrev pub length_pieces : List ℕ → Pieces
length_pieces [] = []
length_pieces (l ∷ ls) = named (codes " ") l ++ length_pieces ls

unfoldable pub messages_pieces : List ℕ → Pieces
messages_pieces ls = codes " lengths" ∷ length_pieces ls

-- A body that came in fragments or sealed is not looked into.
abbrev pub is_hidden : Packet → Bool
is_hidden p = is_some p.fragment || is_sealed p.flag.0

abbrev pub looked_into : Packet → List ℕ → Result (List (List ℕ)) Refusal
looked_into p plain = and_then (checked_of p plain) (λ _. split_of p.count plain)

abbrev pub plain_line : ℕ → ℕ → Packet → Result (List (List ℕ)) Refusal → Pieces
plain_line n channel p (Ok messages) = packet_pieces n channel p ++ (messages_pieces (map length messages) ++ newline)
plain_line n channel p (Err e) = refusal_line n e

abbrev pub data_line : ℕ → ℕ → List ℕ → Packet → Pieces
data_line n channel d p =
    cond (is_hidden p) (packet_pieces n channel p ++ newline)
    (plain_line n channel p (looked_into p (take (p.end - p.start) (drop p.start d))))

abbrev pub read_line : ℕ → ℕ → List ℕ → Result Reading Refusal → Pieces
read_line n channel d (Err e) = refusal_line n e
read_line n channel d (Ok (Heartbeat sender)) = heartbeat_line n sender
read_line n channel d (Ok (StreamHeartbeat sender last)) = stream_line (codes "stream-heartbeat ") n channel sender last
read_line n channel d (Ok (StreamEnd sender last)) = stream_line (codes "stream-end ") n channel sender last
read_line n channel d (Ok (Data p)) = data_line n channel d p

abbrev pub record_line : ℕ → ℕ → Record → Pieces
record_line channel n (datagram d) = read_line n channel d (reading_of channel d)
record_line channel n (judge k) = judge_line n k
record_line channel n malformed = malformed_line n

-- the lines of records, numbered from n on
abbrev pub lines_from : ℕ → ℕ → List Record → Pieces
lines_from channel n [] = []
lines_from channel n (r ∷ rs) = record_line channel n r ++ lines_from channel (n + 1) rs

-- A capture that is too long or whose header is malformed is record 0.
abbrev pub capture_pieces : Option Contents → Pieces
capture_pieces None = malformed_line 0
capture_pieces (Some c) = lines_from c.channel 1 (records_of c.records)

abbrev pub inspect_pieces : List ℕ → Pieces
inspect_pieces bytes = capture_pieces (contents_of bytes)

-- The whole text, and the bytes that it can have at most.
abbrev pub inspect_text : List ℕ → List ℕ
inspect_text bytes = concat (inspect_pieces bytes)

abbrev pub inspect_room : ℕ
inspect_room = 3145728
