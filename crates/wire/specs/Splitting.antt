-- The plain body of a packet: a length of four bytes for each message, then the messages one after another.
use Rattle.std.specs.Prelude.{◌≡◌, ℕ, zero, suc, ◌+◌, ◌*◌, ◌<◌, ◌≤◌, cond, ◌||◌, List, [], ◌∷◌, ◌++◌, length, take, drop, Some, None, Ok, Err, Option, Result, ◌==◌, nat_lt, slice_index_or}
use Rattle.base.specs.Fields.{be, be_bytes}
use Rattle.base.specs.Limits.{max_message}
use Rattle.base.specs.declared.refusal.Cause.TheVariants.{MessageLengths}
use Rattle.base.specs.declared.refusal.Refusal.{Refusal}

-- the lengths that a body begins with
abbrev pub lengths_of : ℕ → List ℕ → List ℕ
lengths_of zero body = []
lengths_of (suc n) body = be 4 body 0 ∷ lengths_of n (drop 4 body)

-- bytes cut into messages of these lengths
abbrev pub cut : List ℕ → List ℕ → List (List ℕ)
cut [] bytes = []
cut (n ∷ ns) bytes = take n bytes ∷ cut ns (drop n bytes)

-- where a message of `n` bytes ends in `size` bytes, if it starts at `at` and has its place
abbrev pub end_at : ℕ → ℕ → ℕ → Option ℕ
end_at size at n = cond (n == 0 || (nat_lt max_message n || nat_lt size (at + n))) None (Some (at + n))

-- The first message without a place in `size` bytes, by its index from 1, where `i` messages went before and the next
-- starts at `at`: one that is empty, too long or goes past the end; the last, where bytes remain behind it.
abbrev pub misfit : ℕ → ℕ → ℕ → List ℕ → Option ℕ
misfit size i at [] = cond (at == size) None (Some i)
misfit size i at (n ∷ ns) =
    cond (n == 0 || (nat_lt max_message n || nat_lt size (at + n))) (Some (i + 1)) (misfit size (i + 1) (at + n) ns)

abbrev pub cut_unless : Option ℕ → List (List ℕ) → Result (List (List ℕ)) Refusal
cut_unless None messages = Ok messages
cut_unless (Some i) messages = Err (record { cause = MessageLengths; value = i })

-- The messages of a body of so many; or the index of the first that does not fit, 1 where not even the lengths do.
unfoldable pub split_of : ℕ → List ℕ → Result (List (List ℕ)) Refusal
split_of count body =
    cut_unless
    (cond (nat_lt (length body) (4 * count)) (Some 1) (misfit (length body) 0 (4 * count) (lengths_of count body)))
    (cut (lengths_of count body) (drop (4 * count) body))

-- A body made of messages.
abbrev pub table : List (List ℕ) → List ℕ
table [] = []
table (m ∷ ms) = be_bytes 4 (length m) ++ table ms

abbrev pub joined : List (List ℕ) → List ℕ
joined [] = []
joined (m ∷ ms) = m ++ joined ms

-- These messages, and no others, are what the body tells off.
pub record Tells (count : ℕ) (body : List ℕ) (messages : List (List ℕ)) : Type 0 where
  pub number : length messages ≡ count
  pub sizes : (k : ℕ) → k < count → (1 ≤ length (slice_index_or messages k [])) × (length (slice_index_or messages k []) ≤ max_message)
  pub whole : table messages ++ joined messages ≡ body

pub record Exact (count : ℕ) (body : List ℕ) : Type 0 where
  pub only : (messages : List (List ℕ)) → split_of count body ≡ Ok messages → Tells count body messages
  pub every : (messages : List (List ℕ)) → Tells count body messages → split_of count body ≡ Ok messages
