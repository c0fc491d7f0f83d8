-- The range of a stream's end.
use Rattle.std.specs.Prelude.{ℕ, Bool, true, false, Some, None, Option, nat_le, nat_lt}
use Rattle.base.specs.Limits.{max_number}

abbrev pub end_in_range : Option ℕ → Bool
end_in_range None = true
end_in_range (Some n) = nat_le n max_number

-- a number is past a limit, where there is one
abbrev pub is_past : Option ℕ → ℕ → Bool
is_past None n = false
is_past (Some limit) n = nat_lt limit n
