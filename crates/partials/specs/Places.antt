-- How partials lie in rows and memory, and what holds of these at all times.
use Rattle.std.specs.Prelude.{◌≡◌, ℕ, ◌+◌, ◌-◌, ◌*◌, Bool, cond, not, ◌||◌, List, [], ◌∷◌, ◌++◌, map, take, drop, sum, count_by, Some, None, Option, Result, ◌==◌, nat_lt}
use Rattle.std.specs.List.{list_all}
use Rattle.base.specs.Areas.{written_at}
use Rattle.base.specs.Limits.{body_room}
use Rattle.base.specs.declared.refusal.Refusal.{Refusal}
use Rattle.wire.specs.Splitting.{cut}
use Rattle.partials.specs.Joining.{Partial, Outcome, is_head_of, answer_of, after_of, bytes_of}
use Rattle.partials.specs.declared.head.Joined.{Joined}
use Rattle.partials.specs.declared.table.row.Row.{Row}

abbrev pub all_positive : List ℕ → Bool
all_positive ns = list_all (λ n. not (n == 0)) ns

-- The partial of a row: the lengths cut its place into the pieces.
abbrev pub partial_for : List ℕ → Row → Partial
partial_for memory r = record { head = r.head; pieces = cut r.lengths (drop (body_room * r.place) memory) }

-- the front of a row's place: its pieces one after another
abbrev pub front_of : List ℕ → Row → List ℕ
front_of memory r = take (sum r.lengths) (drop (body_room * r.place) memory)

-- bytes with a piece put in at a place
abbrev pub spliced : ℕ → List ℕ → List ℕ → List ℕ
spliced at front piece = take at front ++ (piece ++ drop at front)

-- the element at i behind the others of the first len
abbrev pub rotated : {X : Type 0} → List X → ℕ → ℕ → List X
rotated xs i len = take i xs ++ ((drop 1 (take (len - i) (drop i xs)) ++ take 1 (take (len - i) (drop i xs))) ++ drop (len - i) (drop i xs))

-- what an index past the rows reads
abbrev pub no_row : Row
no_row = record { head = record { sender = 0; first = 0; count = 0; flag = 0; total = 0; checksum = None }; lengths = []; place = 0 }

-- The first row of a sender and a first number.
abbrev pub next : Option ℕ → Option ℕ
next None = None
next (Some i) = Some (i + 1)

abbrev pub index_of : ℕ → ℕ → List Row → Option ℕ
index_of sender first [] = None
index_of sender first (r ∷ rs) = cond (is_head_of sender first r.head) (Some 0) (next (index_of sender first rs))

-- The partials of the rows in use, in their order.
abbrev pub partials_at : List ℕ → List Row → ℕ → List Partial
partials_at memory rows len = take len (map (partial_for memory) rows)

abbrev pub has_place : ℕ → Row → Bool
has_place place r = r.place == place

-- a row whose pieces do not fit a place, or whose place is none of the four
abbrev pub misfit : Row → Bool
misfit r = nat_lt body_room (sum r.lengths) || nat_lt 3 r.place

-- each of the four places is one row's
abbrev pub OwnPlaces : List Row → Type 0
OwnPlaces rows = (count_by (has_place 0) rows ≡ 1) × (count_by (has_place 1) rows ≡ 1) × (count_by (has_place 2) rows ≡ 1) × (count_by (has_place 3) rows ≡ 1)

-- A call met an outcome: what it answered, and the partials and the buffer after it.
pub record Meets (o : Outcome) (ps : List Partial) (was : List ℕ) (r : Result Joined Refusal) (qs : List Partial) (now : List ℕ) : Type 0 where
  pub answer : r ≡ answer_of o
  pub after : qs ≡ after_of o ps
  pub buffer : now ≡ written_at was 0 (bytes_of o)
