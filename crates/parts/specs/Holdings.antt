-- What a shelf means: packets by their first numbers, and how many it has places for.
use Rattle.std.specs.Prelude.{◌≡◌, ℕ, ◌-◌, ◌≤◌, Bool, true, cond, ◌&&◌, List, [], ◌∷◌, ◌++◌, length, replicate, is_some, is_ok, Some, None, Ok, Err, Option, Result, ◌==◌, nat_le, nat_lt}
use Rattle.std.specs.Option.{option_map}
use Rattle.std.specs.List.{slice_get}
use Rattle.base.specs.Limits.{body_room, max_places}
use Rattle.base.specs.Refusals.{first_of}
use Rattle.base.specs.declared.refusal.Cause.{Cause}
use Rattle.base.specs.declared.refusal.Cause.TheVariants.{BufferSize, HeldBodySize, AlreadyHeld, ShelfFull}
use Rattle.base.specs.declared.refusal.Refusal.{Refusal}
use Rattle.rows.specs.Order.{rises, row_of, insert_by, remove_by}
use Rattle.rows.specs.declared.row.Row.{Row}
use Rattle.parts.specs.declared.shelf.Sizes.{Sizes}

-- A held packet: how many messages it has, and its plain body.
pub record Packet : Type 0 where
  pub count : ℕ
  pub body : List ℕ

-- A pair is a first number and its packet.
abbrev pub pair_of : ℕ → ℕ → List ℕ → Row Packet
pair_of first count body = record { number = first; part = record { count = count; body = body } }

pub record Holding : Type 0 where
  pub pairs : List (Row Packet)
  pub places : ℕ

abbrev pub bodies_fit : List (Row Packet) → Bool
bodies_fit [] = true
bodies_fit (p ∷ ps) = nat_le (length p.part.body) body_room && bodies_fit ps

-- What a user of any shelf may rely on.
pub record Sound (h : Holding) : Type 0 where
  pub bodies : bodies_fit h.pairs ≡ true
  pub rising : rises h.pairs ≡ true
  pub within : length h.pairs ≤ h.places
  pub some : 1 ≤ h.places
  pub few : h.places ≤ max_places

abbrev refused : Cause → ℕ → Refusal
refused cause value = record { cause = cause; value = value }

abbrev pub lowest_of : Holding → Option ℕ
lowest_of h = option_map (λ p. p.number) (slice_get h.pairs 0)

-- Adding a pair.
abbrev pub hold_answer : Holding → Row Packet → Result (Unit {0}) Refusal
hold_answer h p =
    first_of
    ((nat_lt body_room (length p.part.body), refused HeldBodySize 0)
    ∷ (is_some (row_of p.number h.pairs), refused AlreadyHeld 0)
    ∷ (nat_le h.places (length h.pairs), refused ShelfFull p.number)
    ∷ [])
    (Ok tt)

abbrev pub holds : Holding → Row Packet → Holding
holds h p = cond (is_ok (hold_answer h p)) (record { pairs = insert_by p h.pairs; places = h.places }) h

-- Reading a pair's body into a buffer, with zeros behind it. Nothing is written where the buffer is refused or the number absent.
abbrev pub padded : List ℕ → List ℕ
padded body = body ++ replicate (body_room - length body) 0

abbrev pub sizes_of : Row Packet → Sizes
sizes_of p = record { count = p.part.count; length = length p.part.body }

abbrev pub read_answer : Holding → ℕ → List ℕ → Result (Option Sizes) Refusal
read_answer h first into = cond (length into == body_room) (Ok (option_map sizes_of (row_of first h.pairs))) (Err (refused BufferSize 0))

abbrev pub copied : Option (Row Packet) → List ℕ → List ℕ
copied None into = into
copied (Some p) into = padded p.part.body

abbrev pub read_leaves : Holding → ℕ → List ℕ → List ℕ
read_leaves h first into = cond (length into == body_room) (copied (row_of first h.pairs) into) into

-- Taking a pair away.
abbrev pub take_answer : Holding → ℕ → Option Sizes
take_answer h first = option_map sizes_of (row_of first h.pairs)

abbrev pub take_leaves : Holding → ℕ → Holding
take_leaves h first = record { pairs = remove_by first h.pairs; places = h.places }
