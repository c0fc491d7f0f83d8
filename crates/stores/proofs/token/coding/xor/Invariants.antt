use Rattle.std.proofs.Common.{◌≡◌, ℕ, ◌<◌, ◌≤◌, get_or}
use Rattle.stores.specs.Xor.{xor_at}
use Rattle.stores.proofs.token.coding.xor.Given as goal

abbrev pub invariant-loop-i : goal.invariant-loop-i
invariant-loop-i l =
    ((k : ℕ) → k < l.i → get_or l.body k 0 ≡ xor_at l.token l.initial.body k)
    × ((k : ℕ) → l.i ≤ k → get_or l.body k 0 ≡ get_or l.initial.body k 0)
