use Rattle.std.proofs.Common.{◌≡◌, ℕ, ◌+◌, ◌%◌, arith}
use Rattle.base.specs.Adler.{add_byte}

-- a step on sums that are not reduced yet
pub step_mod : (a b x : ℕ) → add_byte (a % 65521, b % 65521) x ≡ ((a + x) % 65521, (b + (a + x)) % 65521)
step_mod a b x =
    let p : (a % 65521 + x) % 65521 ≡ (a + x) % 65521 = omega arith in
    let q : (b % 65521 + (a % 65521 + x) % 65521) % 65521 ≡ (b + (a + x)) % 65521 = omega arith in cc
