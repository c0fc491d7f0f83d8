-- Rows with distinct numbers are a map from number to row.
use Rattle.std.specs.Prelude.{◌≡◌, ℕ, Bool, true, cond, not, ◌&&◌, List, [], ◌∷◌, is_some, Some, None, ◌==◌}
use Rattle.std.specs.Option.{option_map}
use Rattle.rows.specs.Order.{row_of, insert_by, remove_by, change_by, with_part}
use Rattle.rows.specs.declared.row.Row.{Row}

abbrev pub distinct : {P : Type 0} → List (Row P) → Bool
distinct [] = true
distinct (x ∷ xs) = not (is_some (row_of x.number xs)) && distinct xs

-- What is found at k afterwards; and the numbers stay distinct.
pub record MeansMap (P : Type 0) : Type 0 where
  pub inserted : (r : Row P) (rows : List (Row P)) → distinct rows ≡ true → row_of r.number rows ≡ None
      → (distinct (insert_by r rows) ≡ true) × ((k : ℕ) → row_of k (insert_by r rows) ≡ cond (r.number == k) (Some r) (row_of k rows))
  pub removed : (n : ℕ) (rows : List (Row P)) → distinct rows ≡ true
      → (distinct (remove_by n rows) ≡ true) × ((k : ℕ) → row_of k (remove_by n rows) ≡ cond (n == k) None (row_of k rows))
  pub changed : (n : ℕ) (p : P) (rows : List (Row P)) → distinct rows ≡ true
      → (distinct (change_by n p rows) ≡ true) × ((k : ℕ) → row_of k (change_by n p rows) ≡ cond (n == k) (option_map (with_part p) (row_of k rows)) (row_of k rows))
