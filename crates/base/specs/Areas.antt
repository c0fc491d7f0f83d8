-- Bytes, and writes into areas of them.
use Rattle.std.specs.Prelude.{ℕ, ◌+◌, ◌<◌, List, ◌++◌, length, take, drop, slice_index}

-- a list of bytes
pub record Bytes (b : List ℕ) : Type 0 where
  pub below : (k : ℕ) → k < length b → slice_index b k < 256

-- an area with a part written over it from the place `at` on
abbrev pub written_at : List ℕ → ℕ → List ℕ → List ℕ
written_at area at part = take at area ++ (part ++ drop (at + length part) area)
