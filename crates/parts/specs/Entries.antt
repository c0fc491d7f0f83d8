-- Entries: what an outlet is told became of a number, or of all numbers from a first to a last.
use Rattle.std.specs.Prelude.{ℕ, ◌+◌, ◌^◌, Bool, ◌&&◌, List, [], ◌∷◌, ◌++◌, length, nat_lt}
use Rattle.base.specs.Fields.{be_bytes}

pub data Entry : Type 0 where
  delivered : ℕ → List ℕ → Entry
  missing : ℕ → ℕ → Entry
  made_up : ℕ → List ℕ → Entry
  written_off : ℕ → ℕ → Entry
  closed : ℕ → Entry

-- M, G, U, L, Z.
abbrev pub letter_of : Entry → ℕ
letter_of (delivered n message) = 77
letter_of (missing first last) = 71
letter_of (made_up n message) = 85
letter_of (written_off first last) = 76
letter_of (closed n) = 90

abbrev pub message_of : Entry → List ℕ
message_of (delivered n message) = message
message_of (missing first last) = []
message_of (made_up n message) = message
message_of (written_off first last) = []
message_of (closed n) = []

-- The message bytes that an entry costs.
abbrev pub cost_of : Entry → ℕ
cost_of e = length (message_of e)

abbrev pub costs_of : List Entry → ℕ
costs_of [] = 0
costs_of (e ∷ es) = cost_of e + costs_of es

-- The two numbers of a head: number and length, first and last, or number and 0.
abbrev pub numbers_of : Entry → ℕ × ℕ
numbers_of (delivered n message) = (n, length message)
numbers_of (missing first last) = (first, last)
numbers_of (made_up n message) = (n, length message)
numbers_of (written_off first last) = (first, last)
numbers_of (closed n) = (n, 0)

-- Both fit the eight bytes that they have in a head.
abbrev pub numbers_fit : Entry → Bool
numbers_fit e = nat_lt (numbers_of e).0 (2 ^ 64) && nat_lt (numbers_of e).1 (2 ^ 64)

-- The head: the letter, then the two numbers in eight bytes each.
abbrev pub head_of : Entry → List ℕ
head_of e = letter_of e ∷ (be_bytes 8 (numbers_of e).0 ++ be_bytes 8 (numbers_of e).1)
