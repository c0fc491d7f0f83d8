-- The limits of the protocol.
use Rattle.std.specs.Prelude.{ℕ}

-- the largest number a message can have
abbrev pub max_number : ℕ
max_number = 4611686018427387903

-- bytes of a datagram
abbrev pub min_datagram : ℕ
min_datagram = 24

abbrev pub max_datagram : ℕ
max_datagram = 1472

-- bytes of a trailer
abbrev pub trailer_size : ℕ
trailer_size = 4

-- messages of a packet, and bytes of a message
abbrev pub max_messages : ℕ
max_messages = 819

abbrev pub max_message : ℕ
max_message = 4092

-- fragments of a packet
abbrev pub max_fragments : ℕ
max_fragments = 16

-- bytes of a working buffer, and of a place for a body
abbrev pub body_room : ℕ
body_room = 4096

-- bytes of a token
abbrev pub max_token : ℕ
max_token = 64

-- bytes of a capture
abbrev pub max_capture : ℕ
max_capture = 65536

-- places of a shelf, and entries of an outlet
abbrev pub max_places : ℕ
max_places = 64

abbrev pub max_entries : ℕ
max_entries = 65535

-- rows of a gap list
abbrev pub max_gaps : ℕ
max_gaps = 32
