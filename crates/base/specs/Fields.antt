-- Big-endian fields: numbers in bytes, the highest byte first.
use Rattle.std.specs.Prelude.{ℕ, zero, suc, ◌+◌, ◌-◌, ◌*◌, ◌/◌, ◌%◌, ◌^◌, cond, List, [], ◌∷◌, ◌++◌, ℤ, pos, negsuc, nat_lt, slice_index}

-- the number in n bytes from the place `at` on
abbrev pub be : ℕ → List ℕ → ℕ → ℕ
be zero bytes at = 0
be (suc n) bytes at = be n bytes at * 256 + slice_index bytes (at + n)

-- the n bytes of a number
abbrev pub be_bytes : ℕ → ℕ → List ℕ
be_bytes zero v = []
be_bytes (suc n) v = be_bytes n (v / 256) ++ (v % 256 ∷ [])

-- a number of 64 bits, read as a signed one
abbrev pub signed64 : ℕ → ℤ
signed64 v = cond (nat_lt v (2 ^ 63)) (pos v) (negsuc (2 ^ 64 - 1 - v))

-- the number in `width` bits of a word, from the bit `low` on
abbrev pub bits : ℕ → ℕ → ℕ → ℕ
bits word low width = word / 2 ^ low % 2 ^ width
