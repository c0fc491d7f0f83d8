-- A search for the first byte that meets a test.
use Rattle.std.proofs.Common.{◌≡◌, ℕ, ◌≤◌, Bool, cond, nat_lt, List, length, Some, None, unwrap_or, arith}
use Rattle.std.proofs.lemmas.Bool.Decides.{nat_tests}
use Rattle.std.proofs.lemmas.List.Sums.{prefix_len-le-length}
use Rattle.std.specs.List.{position, position_or_len}

or_all : (n all : ℕ) → n ≤ all → unwrap_or (cond (nat_lt n all) (Some n) None) all ≡ n
or_all n all h = grind (arith, nat_tests)

pub place_from_position : (meets : ℕ → Bool) (xs : List ℕ) → unwrap_or (position meets xs) (length xs) ≡ position_or_len meets xs
place_from_position meets xs = or_all (position_or_len meets xs) (length xs) (prefix_len-le-length _ xs)
