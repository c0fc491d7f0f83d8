-- Coding with a token, undone by coding again.
use Rattle.std.proofs.Common.{◌≡◌, ℕ, ◌%◌, ◌<◌, true, List, length, get_or, sym, ap, ◌∙◌, zero-add, arith}
use lib.Bits.{bit_xor, xor_assoc, xor_self, xor_zero_r}
use Rattle.std.proofs.lemmas.List.FromFn.{get_or-map-range_with_len, fill_by_all}
use Rattle.parts.specs.Coders.{Inverse}
use Rattle.stores.specs.Xor.{xor_at, xored, length-xored}

-- a list with these bytes is the coded body
pub xored_by : (token body coded : List ℕ) → length coded ≡ length body → ((k : ℕ) → k < length body → get_or coded k 0 ≡ xor_at token body k) → coded ≡ xored token body
unfolding xored
xored_by token body coded same bytes = fill_by_all (xor_at token body) coded (length body) 0 same bytes

slice_index-xored : (token body : List ℕ) (k : ℕ) → k < length body → get_or (xored token body) k 0 ≡ xor_at token body k
unfolding xored
slice_index-xored token body k h = get_or-map-range_with_len (xor_at token body) 0 (length body) k k 0 h (zero-add k)

xor_twice : (a b : ℕ) → bit_xor (bit_xor a b) b ≡ a
xor_twice a b = xor_assoc a b b ∙ ap (bit_xor a) (xor_self b) ∙ xor_zero_r a

xored-twice : (token body : List ℕ) → xored token (xored token body) ≡ body
xored-twice token body =
    sym (xored_by token (xored token body) body (sym (length-xored token body))
    (λ k h. let within : k < length body = omega (arith, length-xored token body) in
    sym (ap (λ x. bit_xor x (get_or token (k % length token) 0)) (slice_index-xored token body k within) ∙ xor_twice (get_or body k 0) (get_or token (k % length token) 0))))

pub xored-inverse : (token : List ℕ) → Inverse (λ _. true) (λ _ b. xored token b) (λ _ b. xored token b)
xored-inverse token =
    record { unseals = λ _ b _ _. xored-twice token b; reseals = λ _ b _ _. xored-twice token b; lengths = λ _ b. length-xored token b; idle = λ _ _ e. cc }
