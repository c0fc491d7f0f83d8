-- Lines, words, numbers and hexadecimal bytes in a text.
use Rattle.std.specs.List.{position_or_len}
use Rattle.std.specs.Prelude.{ℕ, zero, suc, ◌+◌, ◌-◌, ◌*◌, ◌^◌, Bool, cond, not, ◌&&◌, List, [], ◌∷◌, ◌++◌, length, take, drop, Some, None, Option, ◌==◌, nat_le, nat_lt}

-- the number of bytes before the first `stop`, or of all where there is none
abbrev pub place_of : ℕ → List ℕ → ℕ
place_of stop = position_or_len (λ b. b == stop)

abbrev pub spaces_of : List ℕ → ℕ
spaces_of = position_or_len (λ b. not (b == 32))

-- The first line without its newline, and what follows that.
abbrev pub line_of : List ℕ → List ℕ
line_of text = take (place_of 10 text) text

abbrev pub after_line : List ℕ → List ℕ
after_line text = drop (place_of 10 text + 1) text

-- The first word, which ends at a space or with the line, and what follows it.
abbrev pub trimmed : List ℕ → List ℕ
trimmed line = drop (spaces_of line) line

abbrev pub word_of : List ℕ → List ℕ
word_of line = take (place_of 32 (trimmed line)) (trimmed line)

abbrev pub after_word : List ℕ → List ℕ
after_word line = drop (place_of 32 (trimmed line)) (trimmed line)

-- no word is left on the line
abbrev pub is_blank : List ℕ → Bool
is_blank line = length (word_of line) == 0

-- The words of a line, at most so many; each takes a byte at least.
unfoldable pub words_from : ℕ → List ℕ → List (List ℕ)
words_from zero line = []
words_from (suc most) line = cond (is_blank line) [] (word_of line ∷ words_from most (after_word line))

abbrev pub words_of : List ℕ → List (List ℕ)
words_of line = words_from (length line) line

-- The lines, each without its newline; the last may lack one.
abbrev pub with_first : ℕ → List (List ℕ) → List (List ℕ)
with_first b [] = (b ∷ []) ∷ []
with_first b (line ∷ lines) = (b ∷ line) ∷ lines

abbrev pub lines_of : List ℕ → List (List ℕ)
lines_of [] = []
lines_of (b ∷ bs) = cond (b == 10) ([] ∷ lines_of bs) (with_first b (lines_of bs))

abbrev pub is_digit : ℕ → Bool
is_digit b = nat_le 48 b && nat_le b 57

-- the value of decimal digits that stand behind others of the value n
abbrev pub value_from : ℕ → List ℕ → Option ℕ
value_from n [] = Some n
value_from n (b ∷ bs) = cond (is_digit b) (value_from (n * 10 + (b - 48)) bs) None

abbrev pub under : ℕ → Option ℕ → Option ℕ
under limit None = None
under limit (Some n) = cond (nat_lt n limit) (Some n) None

-- The number that a word spells: one or more decimal digits, and a value below 2^64.
abbrev pub number_of : List ℕ → Option ℕ
number_of word = cond (length word == 0) None (under (2 ^ 64) (value_from 0 word))

-- a hexadecimal digit, in upper or lower case
abbrev pub hex_digit_of : ℕ → Option ℕ
hex_digit_of b =
    cond (is_digit b) (Some (b - 48)) (cond (nat_le 97 b && nat_le b 102) (Some (b - 97 + 10)) (cond (nat_le 65 b && nat_le b 70) (Some (b - 65 + 10)) None))

abbrev pub byte_from : Option ℕ → Option ℕ → Option ℕ
byte_from None low = None
byte_from (Some high) None = None
byte_from (Some high) (Some low) = Some (high * 16 + low)

abbrev pub hex_byte_of : ℕ → ℕ → Option ℕ
hex_byte_of high low = byte_from (hex_digit_of high) (hex_digit_of low)

-- bytes with one more in front
abbrev pub with_byte : Option ℕ → Option (List ℕ) → Option (List ℕ)
with_byte None bytes = None
with_byte (Some b) None = None
with_byte (Some b) (Some bytes) = Some (b ∷ bytes)

-- The bytes that a word spells: two hexadecimal digits each.
abbrev pub hex_of : List ℕ → Option (List ℕ)
hex_of [] = Some []
hex_of (a ∷ []) = None
hex_of (a ∷ (b ∷ rest)) = with_byte (hex_byte_of a b) (hex_of rest)

-- Bytes that fit an area, how many there are, and the area with them written over its front.
abbrev pub fitting : ℕ → Option (List ℕ) → Option (List ℕ)
fitting room None = None
fitting room (Some bytes) = cond (nat_le (length bytes) room) (Some bytes) None

abbrev pub size_of : Option (List ℕ) → Option ℕ
size_of None = None
size_of (Some bytes) = Some (length bytes)

abbrev pub over_front : List ℕ → Option (List ℕ) → List ℕ
over_front area None = area
over_front area (Some bytes) = bytes ++ drop (length bytes) area
