-- A body under a token.
use Rattle.std.specs.Prelude.{◌≡◌, ℕ, ◌%◌, true, List, map, length, bit_xor, slice_index}
use Rattle.std.proofs.lemmas.List.FromFn.{length-map-range_with_len}
use Rattle.std.specs.List.{range_with_len}
use Rattle.parts.specs.Coders.{Opening}

-- Byte i of the body, from 0, XOR the token's byte at i modulo the token's length.
abbrev pub xor_at : List ℕ → List ℕ → ℕ → ℕ
xor_at token body i = bit_xor (slice_index body i) (slice_index token (i % length token))

-- The whole body, each byte so.
unfoldable pub xored : List ℕ → List ℕ → List ℕ
xored token body = map (xor_at token body) (range_with_len 0 (length body))

-- coding keeps the length
pub length-xored : (token body : List ℕ) → length (xored token body) ≡ length body
unfolding xored
length-xored token body = length-map-range_with_len (xor_at token body) 0 (length body)

-- what the coder of a token promises of opening
pub xored-opening : (token : List ℕ) → Opening (λ _. true) (λ _ b. xored token b)
xored-opening token = record { lengths = λ _ b. length-xored token b; idle = λ _ _ e. cc }
