-- Rows in number order and rows in heap order, and what is left of the heap order while a row is on its way to its place.
use Rattle.std.specs.Prelude.{◌≡◌, ℕ, zero, suc, ◌-◌, ◌/◌, ◌<◌, ◌≤◌, Bool, true, ◌&&◌, ◌⊎◌, List, [], ◌∷◌, length, nat_le}
use Rattle.rows.specs.Order.{insert_by}
use Rattle.rows.specs.declared.row.Row.{Row}

-- The rows put in order, from the last to the first.
abbrev pub sort_by : {P : Type 0} → List (Row P) → List (Row P)
sort_by [] = []
sort_by (x ∷ xs) = insert_by x (sort_by xs)

-- The place above a place.
abbrev pub above : ℕ → ℕ
above i = (i - 1) / 2

-- The number of the row at a place, and 0 behind the last.
abbrev pub number_at : {P : Type 0} → List (Row P) → ℕ → ℕ
number_at [] i = 0
number_at (x ∷ xs) zero = x.number
number_at (x ∷ xs) (suc i) = number_at xs i

-- Of the first n, none lies below the one above it.
abbrev pub heap_to : (ℕ → ℕ) → ℕ → Bool
heap_to f zero = true
heap_to f (suc n) = nat_le (f (above n)) (f n) && heap_to f n

abbrev pub heaped : {P : Type 0} → List (Row P) → Bool
heaped xs = heap_to (number_at xs) (length xs)

-- A heap, but for what is left out; what is right below the place does not lie below the one above the place.
pub record HeapBut (out : ℕ → Type 0) (f : ℕ → ℕ) (n at : ℕ) : Type 0 where
  pub rest : (i : ℕ) → 0 < i → i < n → (out i → ⊥) → f (above i) ≤ f i
  pub over : (i : ℕ) → 0 < i → i < n → above i ≡ at → 0 < at → f (above at) ≤ f i

-- What is at the place may lie below the one above it; may lie over those below it; may be any.
abbrev pub Lower : (ℕ → ℕ) → ℕ → ℕ → Type 0
Lower f n at = HeapBut (λ i. i ≡ at) f n at

abbrev pub Higher : (ℕ → ℕ) → ℕ → ℕ → Type 0
Higher f n at = HeapBut (λ i. above i ≡ at) f n at

abbrev pub Near : (ℕ → ℕ) → ℕ → ℕ → Type 0
Near f n at = HeapBut (λ i. (i ≡ at) ⊎ (above i ≡ at)) f n at

-- The place r is right below the place, and nothing right below it is smaller.
pub record Least (f : ℕ → ℕ) (n at r : ℕ) : Type 0 where
  pub within : r < n
  pub after : 0 < r
  pub under : above r ≡ at
  pub least : (i : ℕ) → 0 < i → i < n → above i ≡ at → f r ≤ f i
