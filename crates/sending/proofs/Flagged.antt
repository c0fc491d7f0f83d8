-- The bits of a packed flag.
use Rattle.std.proofs.Common.{◌≡◌, ℕ, zero, suc, ◌+◌, ◌*◌, ◌/◌, ◌%◌, ◌^◌, ◌<◌, ◌≤◌, Bool, true, false, cond, eqb, arith}
use Rattle.std.proofs.lemmas.Nat.{shr-shr}
use Rattle.std.proofs.lemmas.Bool.Decides.{nat_tests}
use Rattle.wire.specs.Flags.{message_type, is_by_number, compression, encryption, is_sealed, has_lengths, is_fragmented, has_checksum, reserved}
use Rattle.base.specs.Fields.{bits}

-- a flag by its four choices
abbrev pub flag_of : Bool → Bool → Bool → Bool → ℕ
flag_of duplicate sealed pieces checksum =
    0x3080 + cond duplicate 0x8000 0 + cond sealed 0x100 0 + cond pieces 0x40 0 + cond checksum 0x20 0

pub record FlagBits (flag : ℕ) (sealed pieces checksum : Bool) : Type 0 where
  pub small : flag < 65536
  pub free : reserved flag ≡ 0
  pub application : message_type flag ≡ 1
  pub plain : compression flag ≡ 0
  pub coded : encryption flag ≡ cond sealed 1 0
  pub numbered : is_by_number flag ≡ true
  pub lengths : has_lengths flag ≡ true
  pub cut : is_fragmented flag ≡ pieces
  pub summed : has_checksum flag ≡ checksum

ones : (b : Bool) (k : ℕ) → (cond b k 0 ≡ k * cond b 1 0) × (cond b 1 0 ≤ 1)
ones true k = (omega arith, omega arith)
ones false k = (omega arith, omega arith)

one-tells : (b : Bool) (n : ℕ) → n ≡ cond b 1 0 → eqb n 1 ≡ b
one-tells true n e = grind (arith, nat_tests)
one-tells false n e = grind (arith, nat_tests)

pub flag_bits : (a s x y : Bool) → FlagBits (flag_of a s x y) s x y
flag_bits a s x y =
    let i = ones a 0x8000 in
    let j = ones s 0x100 in
    let k = ones x 0x40 in
    let l = ones y 0x20 in
    let flag = flag_of a s x y in
    let kind : flag / 2 ^ 13 ≡ 4 * cond a 1 0 + 1 = omega arith in
    let packing : flag / 2 ^ 10 ≡ 32 * cond a 1 0 + 12 = omega arith in
    let table : flag / 2 ^ 7 ≡ 256 * cond a 1 0 + 2 * cond s 1 0 + 97 = omega arith in
    record {
      small = omega arith;
      free = omega arith;
      application = omega arith;
      plain = omega arith;
      coded = omega arith;
      numbered = one-tells true (bits flag 12 1) (omega arith);
      lengths = one-tells true (bits flag 7 1) (omega arith);
      cut = one-tells x (bits flag 6 1) (omega arith);
      summed = one-tells y (bits flag 5 1) (omega arith);
    }

asked_is : (n k : ℕ) → n ≤ 1 → cond (eqb n 1) k 0 ≡ k * n
asked_is zero k h = omega arith
asked_is (suc zero) k h = omega arith
asked_is (suc (suc n)) k h = absurd (omega arith)

told_one : (n : ℕ) → eqb n 1 ≡ true → n ≡ 1
told_one n e = grind (arith, nat_tests)

told_zero : (n : ℕ) → n ≤ 1 → eqb n 1 ≡ false → n ≡ 0
told_zero n h e = grind (arith, nat_tests)

-- a flag whose other bits are as a packer sets them
pub flag_is : (flag : ℕ) → flag < 65536 → reserved flag ≡ 0 → message_type flag ≡ 1 → compression flag ≡ 0 → encryption flag ≤ 1 → is_by_number flag ≡ true
    → has_lengths flag ≡ true → is_fragmented flag ≡ false → flag_of (eqb (bits flag 15 1) 1) (is_sealed flag) false (has_checksum flag) ≡ flag
flag_is flag small free kind plain coded numbered lengths cut =
    let b12 : flag / 2 ^ 12 % 2 ≡ 1 = told_one (bits flag 12 1) numbered in
    let b7 : flag / 2 ^ 7 % 2 ≡ 1 = told_one (bits flag 7 1) lengths in
    let b6 : flag / 2 ^ 6 % 2 ≡ 0 = told_zero (bits flag 6 1) (omega arith) cut in
    let e15 = asked_is (bits flag 15 1) 0x8000 (omega arith) in
    let e8 = asked_is (bits flag 8 2) 0x100 coded in
    let e5 = asked_is (bits flag 5 1) 0x20 (omega arith) in
    let q5 : flag ≡ 32 * (flag / 2 ^ 5) = omega arith in
    let q6 : flag / 2 ^ 5 ≡ 2 * (flag / 2 ^ 6) + bits flag 5 1 = omega (arith, shr-shr flag 5 1) in
    let q7 : flag / 2 ^ 6 ≡ 2 * (flag / 2 ^ 7) = omega (arith, shr-shr flag 6 1) in
    let q8 : flag / 2 ^ 7 ≡ 2 * (flag / 2 ^ 8) + 1 = omega (arith, shr-shr flag 7 1) in
    let q10 : flag / 2 ^ 8 ≡ 4 * (flag / 2 ^ 10) + bits flag 8 2 = omega (arith, shr-shr flag 8 2) in
    let q12 : flag / 2 ^ 10 ≡ 4 * (flag / 2 ^ 12) = omega (arith, shr-shr flag 10 2) in
    let q13 : flag / 2 ^ 12 ≡ 2 * (flag / 2 ^ 13) + 1 = omega (arith, shr-shr flag 12 1) in
    let q15 : flag / 2 ^ 13 ≡ 4 * (flag / 2 ^ 15) + 1 = omega (arith, shr-shr flag 13 2) in
    let top : flag / 2 ^ 15 ≡ bits flag 15 1 = omega arith in
    omega arith
