-- The entries read back out of a file image.
use Rattle.std.specs.Prelude.{◌≡◌, ℕ, zero, suc, ◌+◌, ◌-◌, ◌≤◌, Bool, true, cond, ◌&&◌, List, [], ◌∷◌, length, take, drop, ◌==◌, slice_index}
use Rattle.std.proofs.Common.{arith}
use Rattle.base.specs.Fields.{be}
use Rattle.base.specs.Limits.{max_entries}
use Rattle.parts.specs.Entries.{Entry, delivered, missing, made_up, written_off, closed, cost_of, costs_of, numbers_fit}
use Rattle.parts.specs.Listings.{Listing, Capacity}
use Rattle.outlets.specs.Images.{image_of, messages_at}

-- An entry by its letter, its two numbers and the bytes from its message on.
abbrev pub entry_by : ℕ → ℕ → ℕ → List ℕ → Entry
entry_by letter first second bytes =
    cond (letter == 77) (delivered first (take second bytes))
    (cond (letter == 71) (missing first second)
    (cond (letter == 85) (made_up first (take second bytes))
    (cond (letter == 76) (written_off first second) (closed first))))

unfoldable pub first_in : List ℕ → List ℕ → Entry
first_in heads messages = entry_by (slice_index heads 0) (be 8 heads 1) (be 8 heads 9) messages

unfoldable pub entries_from : ℕ → List ℕ → List ℕ → List Entry
entries_from zero heads messages = []
entries_from (suc n) heads messages = first_in heads messages ∷ entries_from n (drop 17 heads) (drop (cost_of (first_in heads messages)) messages)

-- The first `count` entries of a memory.
unfoldable pub entries_in : List ℕ → ℕ → ℕ → List Entry
entries_in memory capacity count = entries_from count (drop 7 memory) (drop (messages_at capacity) memory)

abbrev pub listing_of : List ℕ → ℕ → ℕ → ℕ → Listing
listing_of memory capacity count used =
    record { entries = entries_in memory capacity count; entries_left = capacity - count; bytes_left = length memory - (messages_at capacity + used) }

-- The numbers of every entry fit their bytes.
abbrev pub all_fit : List Entry → Bool
all_fit [] = true
all_fit (e ∷ es) = numbers_fit e && all_fit es

-- What holds of an image at all times: it is the image of the entries that it holds,
abbrev pub Holds : List ℕ → ℕ → ℕ → ℕ → Type 0
Holds memory capacity count used =
    (memory ≡ image_of capacity (length memory) (entries_in memory capacity count))
    × (all_fit (entries_in memory capacity count) ≡ true)
    × (length (entries_in memory capacity count) ≡ count)
    × (costs_of (entries_in memory capacity count) ≡ used)

-- and has room for them.
abbrev pub Within : List ℕ → ℕ → ℕ → ℕ → Type 0
Within memory capacity count used = (1 ≤ capacity) × (capacity ≤ max_entries) × (count ≤ capacity) × (messages_at capacity + used ≤ length memory)

-- so it has room for as many entries as its capacity
pub capacity_of : (memory : List ℕ) (capacity count used : ℕ) → Holds memory capacity count used → Within memory capacity count used
    → Capacity (listing_of memory capacity count used)
capacity_of memory capacity count used holds within = record { some = omega (arith, holds.2, within); few = omega (arith, holds.2, within) }
