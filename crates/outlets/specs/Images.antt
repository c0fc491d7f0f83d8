-- The file image of an outlet's entries. Its numbers are big-endian.
use Rattle.std.specs.Prelude.{ℕ, ◌+◌, ◌-◌, ◌*◌, List, [], ◌∷◌, ◌++◌, length, replicate}
use Rattle.base.specs.Fields.{be_bytes}
use Rattle.parts.specs.Entries.{Entry, costs_of, head_of, message_of}
use Rattle.parts.specs.Listings.{Listing, totals_of}

-- MDO.
abbrev pub mark : List ℕ
mark = 77 ∷ 68 ∷ 79 ∷ []

abbrev pub version : ℕ
version = 1

abbrev pub zeros : ℕ → List ℕ
zeros n = replicate n 0

unfoldable pub heads_of : List Entry → List ℕ
heads_of [] = []
heads_of (e ∷ es) = head_of e ++ heads_of es

unfoldable pub messages_of : List Entry → List ℕ
messages_of [] = []
messages_of (e ∷ es) = message_of e ++ messages_of es

-- Where the messages start: mark, version and count have 7 bytes, and each entry of the capacity has a head of 17.
abbrev pub messages_at : ℕ → ℕ
messages_at capacity = 7 + 17 * capacity

-- An image of `size` bytes with heads for `capacity` entries. Unused heads are zeros, and so is what is left behind the messages.
unfoldable pub image_of : ℕ → ℕ → List Entry → List ℕ
image_of capacity size es =
    mark ++ (be_bytes 2 version ++ (be_bytes 2 (length es)
    ++ (heads_of es ++ (zeros (17 * (capacity - length es))
    ++ (messages_of es ++ zeros (size - (messages_at capacity + costs_of es)))))))

-- The image of what an outlet means: what was put and what is left make its capacity and its size.
abbrev pub image_by : Listing → List ℕ
image_by l = image_of (totals_of l).0 (messages_at (totals_of l).0 + (totals_of l).1) l.entries
