-- The rows and bytes of a shelf: each row has a place of its own in the bytes, and stands for a pair.
use Rattle.std.specs.Prelude.{◌≡◌, ℕ, ◌+◌, ◌*◌, ◌≤◌, Bool, true, cond, ◌&&◌, List, [], ◌∷◌, ◌++◌, map, length, take, drop, Ok, Err, Result, ◌==◌, nat_le, nat_lt}
use Rattle.base.specs.Limits.{body_room, max_places}
use Rattle.base.specs.declared.refusal.Cause.TheVariants.{PartSize}
use Rattle.base.specs.declared.refusal.Refusal.{Refusal}
use Rattle.parts.specs.Holdings.{Packet, Holding, pair_of}
use Rattle.parts.specs.declared.shelf.Sizes.{Sizes}
use Rattle.rows.specs.Order.{rises}
use Rattle.rows.specs.declared.row.Row.{Row}
use Rattle.shelves.specs.declared.held.Held.{Held}

-- The look before a shelf is made: 1 to 64 rows, and exactly 4,096 bytes for each.
abbrev pub shelf_fits : ℕ → ℕ → Result (Unit {0}) Refusal
shelf_fits rows bytes = cond (nat_le 1 rows && (nat_le rows max_places && bytes == body_room * rows)) (Ok tt) (Err (record { cause = PartSize; value = 0 }))

-- The bytes of a place.
abbrev pub bytes_at : List ℕ → ℕ → List ℕ
bytes_at bytes place = take body_room (drop (body_room * place) bytes)

-- What rows stand for: a body is the front of its row's place.
abbrev pub pair_for : List ℕ → Row Held → Row Packet
pair_for bytes r = pair_of r.number r.part.count (take r.part.size (bytes_at bytes r.part.place))

-- The rows of a shelf: those in use by number, the spare ones, and how many there are.
pub record Contents : Type 0 where
  pub rows : List (Row Held)
  pub spares : List (Row Held)
  pub room : ℕ

-- What a shelf is made of: the rows in use by number, the spare ones, the bytes, and how many rows there are.
pub record Stock : Type 0 where
  pub rows : List (Row Held)
  pub spares : List (Row Held)
  pub bytes : List ℕ
  pub room : ℕ

abbrev pub stock_of : Contents → List ℕ → Stock
stock_of c bytes = record { rows = c.rows; spares = c.spares; bytes = bytes; room = c.room }

abbrev pub holding_of : Stock → Holding
holding_of s = record { pairs = map (pair_for s.bytes) s.rows; places = s.room }

abbrev pub sizes_for : Held → Sizes
sizes_for h = record { count = h.count; length = h.size }

-- The sum of a number of each row; how many rows have a place.
abbrev pub sum_by : (Row Held → ℕ) → List (Row Held) → ℕ
sum_by f [] = 0
sum_by f (r ∷ rs) = f r + sum_by f rs

abbrev pub has_place : ℕ → Row Held → ℕ
has_place place r = cond (r.part.place == place) 1 0

-- 0 for a row whose place is one of `room`, and whose size fits it.
abbrev pub misfit : ℕ → Row Held → ℕ
misfit room r = cond (nat_lt r.part.place room && nat_le r.part.size body_room) 0 1

-- Every row has a place of its own, one of `room`, that its body fits.
abbrev pub tidy : ℕ → List (Row Held) → Bool
tidy room [] = true
tidy room (r ∷ rs) = misfit room r == 0 && (sum_by (has_place r.part.place) rs == 0 && tidy room rs)

-- What holds of a shelf at all times.
pub record Racked (s : Stock) : Type 0 where
  pub whole : length s.rows + length s.spares ≡ s.room
  pub rising : rises s.rows ≡ true
  pub tidied : tidy s.room (s.rows ++ s.spares) ≡ true
  pub sized : length s.bytes ≡ body_room * s.room
  pub some : 1 ≤ s.room
  pub few : s.room ≤ max_places
