-- What a page holds, and what writing pieces makes of it.
use Rattle.std.specs.Prelude.{ℕ, ◌+◌, cond, List, [], ◌∷◌, ◌++◌, length, string_bytes, nat_le}
use Rattle.page.specs.declared.page.Page.{Page}

-- the most bytes that the text can have, and the bytes of the text so far
pub record Sheet : Type 0 where
  pub room : ℕ
  pub text : List ℕ

abbrev pub sheet : Page → Sheet
sheet p = record { room = p.room; text = string_bytes p.text }

abbrev pub blank : ℕ → Sheet
blank room = record { room = room; text = [] }

-- the sheet with a text more
abbrev pub extended : Sheet → List ℕ → Sheet
extended s more = record { room = s.room; text = s.text ++ more }

-- a piece is appended whole where it fits the room, and else not at all
unfoldable pub wrote : Sheet → List ℕ → Sheet
wrote s piece = cond (nat_le (length s.text + length piece) s.room) (extended s piece) s

-- pieces one after another
abbrev pub wrote_all : Sheet → List (List ℕ) → Sheet
wrote_all s [] = s
wrote_all s (piece ∷ pieces) = wrote_all (wrote s piece) pieces
