-- Rows in number order, as functions on lists of any rows.
use Rattle.std.specs.Prelude.{ℕ, suc, Bool, true, cond, ◌&&◌, List, [], ◌∷◌, Some, None, Option, ◌==◌, nat_le, nat_lt}
use Rattle.std.specs.Option.{option_map}
use Rattle.rows.specs.declared.row.Row.{Row}

-- No row has a number below k; no row has one below an earlier row's.
abbrev pub all_from : {P : Type 0} → ℕ → List (Row P) → Bool
all_from k [] = true
all_from k (x ∷ xs) = nat_le k x.number && all_from k xs

abbrev pub ascends : {P : Type 0} → List (Row P) → Bool
ascends [] = true
ascends (x ∷ xs) = all_from x.number xs && ascends xs

-- Every row has a number above k; every row has one above an earlier row's.
abbrev pub all_above : {P : Type 0} → ℕ → List (Row P) → Bool
all_above k [] = true
all_above k (x ∷ xs) = nat_lt k x.number && all_above k xs

abbrev pub rises : {P : Type 0} → List (Row P) → Bool
rises [] = true
rises (x ∷ xs) = all_above x.number xs && rises xs

-- The first row with a number: its place, itself, the rows without it, the rows with another part in it.
abbrev pub index_of : {P : Type 0} → ℕ → List (Row P) → Option ℕ
index_of k [] = None
index_of k (x ∷ xs) = cond (x.number == k) (Some 0) (option_map suc (index_of k xs))

abbrev pub row_of : {P : Type 0} → ℕ → List (Row P) → Option (Row P)
row_of k [] = None
row_of k (x ∷ xs) = cond (x.number == k) (Some x) (row_of k xs)

abbrev pub remove_by : {P : Type 0} → ℕ → List (Row P) → List (Row P)
remove_by k [] = []
remove_by k (x ∷ xs) = cond (x.number == k) xs (x ∷ remove_by k xs)

abbrev pub with_part : {P : Type 0} → P → Row P → Row P
with_part p x = record { number = x.number; part = p }

abbrev pub change_by : {P : Type 0} → ℕ → P → List (Row P) → List (Row P)
change_by k p [] = []
change_by k p (x ∷ xs) = cond (x.number == k) (with_part p x ∷ xs) (x ∷ change_by k p xs)

-- The rows with one more, behind those with its number or a smaller one.
abbrev pub insert_by : {P : Type 0} → Row P → List (Row P) → List (Row P)
insert_by r [] = r ∷ []
insert_by r (x ∷ xs) = cond (nat_le x.number r.number) (x ∷ insert_by r xs) (r ∷ x ∷ xs)
