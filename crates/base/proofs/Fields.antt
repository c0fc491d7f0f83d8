-- A number and its bytes, each from the other, at every width.
use Rattle.std.proofs.Common.{◌≡◌, ℕ, zero, suc, ◌+◌, ◌*◌, ◌/◌, ◌%◌, ◌^◌, ◌<◌, ◌≤◌, List, [], ◌∷◌, ◌++◌, length, get_or, take, drop, sym, refl, ap, ◌∙◌, append_assoc, pow-suc, arith, length-append}
use native.Mathlib.Nat.{div-div-eq-div-mul}
use Rattle.std.proofs.lemmas.List.{get_or_at, take_more, get_or-take, get_or-drop}
use Rattle.base.specs.Areas.{Bytes}
use Rattle.base.specs.Fields.{be, be_bytes}

pub length-be_bytes : (n v : ℕ) → length (be_bytes n v) ≡ n
length-be_bytes zero v = refl
length-be_bytes (suc n) v = omega (arith, length-append (be_bytes n (v / 256)) (v % 256 ∷ []), length-be_bytes n (v / 256))

-- what is written reads back
pub be-be_bytes : (n v : ℕ) (rest : List ℕ) → v < 256 ^ n → be n (be_bytes n v ++ rest) 0 ≡ v
be-be_bytes zero v rest h = omega arith
be-be_bytes (suc n) v rest h =
    let high = be_bytes n (v / 256) in
    let low = v % 256 in
    let small : v / 256 < 256 ^ n = omega (arith, pow-suc 256 n) in
    let whole : (high ++ (low ∷ [])) ++ rest ≡ high ++ (low ∷ rest) = append_assoc high (low ∷ []) rest in
    let front : be n ((high ++ (low ∷ [])) ++ rest) 0 ≡ v / 256 = ap (λ l. be n l 0) whole ∙ be-be_bytes n (v / 256) (low ∷ rest) small in
    let place : 0 + n ≡ n = omega arith in
    let last : get_or ((high ++ (low ∷ [])) ++ rest) (0 + n) 0 ≡ low =
    ap (λ l. get_or l (0 + n) 0) whole ∙ ap (λ k. get_or (high ++ (low ∷ rest)) k 0) place
    ∙ get_or_at high low rest 0 n (length-be_bytes n (v / 256)) in
    omega (arith, front, last)

-- what was read is written as it stood
pub be_bytes-be : (n : ℕ) (bytes : List ℕ) → n ≤ length bytes → Bytes bytes → be_bytes n (be n bytes 0) ≡ take n bytes
be_bytes-be zero bytes h b = refl
be_bytes-be (suc n) bytes h b =
    let place : 0 + n ≡ n = omega arith in
    let x = get_or bytes (0 + n) 0 in
    let small : x < 256 = b.below (0 + n) (omega arith) in
    let high : (be n bytes 0 * 256 + x) / 256 ≡ be n bytes 0 = omega arith in
    let low : (be n bytes 0 * 256 + x) % 256 ≡ get_or bytes n 0 = omega (arith, ap (λ k. get_or bytes k 0) place) in
    let one : suc n ≡ n + 1 = omega arith in
    ap (λ v. be_bytes n v ++ ((be n bytes 0 * 256 + x) % 256 ∷ [])) high
    ∙ ap (λ l. l ++ ((be n bytes 0 * 256 + x) % 256 ∷ [])) (be_bytes-be n bytes (omega arith) b)
    ∙ ap (λ v. take n bytes ++ (v ∷ [])) low
    ∙ sym (ap (λ k. take k bytes) one ∙ take_more bytes n 0 (omega arith))

-- a field within a front, and a field of what stands behind
pub be-take : (n size : ℕ) (bytes : List ℕ) → n ≤ size → be n (take size bytes) 0 ≡ be n bytes 0
be-take zero size bytes h = refl
be-take (suc n) size bytes h =
    let lt : 0 + n < size = omega arith in
    omega (arith, be-take n size bytes (omega arith), get_or-take size bytes (0 + n) 0 lt)

pub be-drop : (n at : ℕ) (bytes : List ℕ) → be n (drop at bytes) 0 ≡ be n bytes at
be-drop zero at bytes = refl
be-drop (suc n) at bytes =
    let place : at + (0 + n) ≡ at + n = omega arith in
    omega (arith, be-drop n at bytes, get_or-drop at bytes (0 + n) 0, ap (λ k. get_or bytes k 0) place)

-- the bytes of a field, as the code writes them
pub eight_bytes : (v : ℕ) → be_bytes 8 v
    ≡ (v / 72057594037927936 % 256) ∷ ((v / 281474976710656 % 256) ∷ ((v / 1099511627776 % 256) ∷ ((v / 4294967296 % 256)
    ∷ ((v / 16777216 % 256) ∷ ((v / 65536 % 256) ∷ ((v / 256 % 256) ∷ ((v % 256) ∷ [])))))))
eight_bytes v = simp div-div-eq-div-mul

pub four_bytes : (v : ℕ) → be_bytes 4 v ≡ (v / 16777216 % 256) ∷ ((v / 65536 % 256) ∷ ((v / 256 % 256) ∷ ((v % 256) ∷ [])))
four_bytes v = simp div-div-eq-div-mul
