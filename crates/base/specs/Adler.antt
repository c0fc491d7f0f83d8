-- Adler-32: two sums modulo 65,521.
use Rattle.std.specs.Prelude.{ℕ, ◌+◌, ◌*◌, ◌%◌, List, fold}

-- A adds the byte, then B adds A.
abbrev pub add_byte : (ℕ × ℕ) → ℕ → (ℕ × ℕ)
add_byte sums x = ((sums.0 + x) % 65521, (sums.1 + (sums.0 + x) % 65521) % 65521)

-- The checksum of bytes: A starts at 1, B at 0, and B × 65,536 + A is the result.
abbrev pub packed : (ℕ × ℕ) → ℕ
packed sums = sums.1 * 65536 + sums.0

abbrev pub adler_of : List ℕ → ℕ
adler_of bytes = packed (fold add_byte (1, 0) bytes)
