-- What a user may rely on, of the packets in reassembly.
use Rattle.std.specs.Prelude.{◌≡◌, ℕ, ◌≤◌, Bool, true, false, not, ◌&&◌, ◌||◌, List, [], ◌∷◌, length, ◌==◌, nat_le}
use Rattle.base.specs.Limits.{body_room, max_fragments}
use Rattle.wire.specs.Joining.{joined_pieces}
use Rattle.partials.specs.Joining.{Partial, max_partials, is_head_of, complete}

-- One of a sender and a first number stands.
abbrev pub stands : ℕ → ℕ → List Partial → Bool
stands sender first [] = false
stands sender first (p ∷ ps) = is_head_of sender first p.head || stands sender first ps

-- No two have the same sender and first number.
abbrev pub distinct : List Partial → Bool
distinct [] = true
distinct (p ∷ ps) = not (stands p.head.sender p.head.first ps) && distinct ps

-- Each has sixteen pieces, of at most 4,096 bytes in all, and one of its packet is missing.
abbrev pub unfinished : Partial → Bool
unfinished p = length p.pieces == max_fragments && (nat_le (length (joined_pieces p.pieces)) body_room && not (complete p))

abbrev pub all_unfinished : List Partial → Bool
all_unfinished [] = true
all_unfinished (p ∷ ps) = unfinished p && all_unfinished ps

pub record Known (ps : List Partial) : Type 0 where
  pub few : length ps ≤ max_partials
  pub apart : distinct ps ≡ true
  pub each : all_unfinished ps ≡ true
