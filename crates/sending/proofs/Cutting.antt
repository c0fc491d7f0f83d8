-- How many pieces a body is cut into.
use Rattle.std.proofs.Common.{◌≡◌, ℕ, ◌+◌, ◌-◌, ◌/◌, ◌%◌, ◌<◌, min, sym, add-mul, arith}
use native.Mathlib.Nat.{div-eq_of_lt-le}
use Rattle.std.proofs.lemmas.Grind.{div_ceil_times}

-- whole pieces and one for what remains, in one division
pub rounded_up : (b s : ℕ) → 0 < s → b / s + min 1 (b % s) ≡ (b + s - 1) / s
rounded_up b s p =
    let q = b / s + min 1 (b % s) in
    let t = div_ceil_times b s p in
    sym (div-eq_of_lt-le s (omega (arith, t.1)) (omega (arith, t.0, add-mul q 1 s)))
