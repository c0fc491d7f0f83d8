-- How many rows there are, and where one of them stands.
use Rattle.std.proofs.Common.{◌≡◌, ℕ, suc, ◌+◌, ◌≤◌, true, false, cond, eqb, leb, List, [], ◌∷◌, length, take, Some, None, Option, refl, ap, ◌∙◌, arith}
use Rattle.std.proofs.lemmas.List.{length-take-le}
use Rattle.std.specs.List.{position_from}
use Rattle.std.specs.Option.{option_map, option_to_list}
use Rattle.rows.specs.Order.{index_of, row_of, insert_by, remove_by}
use Rattle.rows.specs.declared.row.Row.{Row}
use Rattle.shelves.specs.Heaps.{heap_rows}
use Rattle.shelves.specs.Sifting.{sort_by}
use Rattle.shelves.specs.declared.heaping.Heap.{Heap}

shifted : (i : ℕ) (o : Option ℕ) → option_map (λ n. i + 1 + n) o ≡ option_map (λ n. i + n) (option_map suc o)
shifted i None = refl
shifted i (Some n) = ap Some (omega arith)

none_added : (o : Option ℕ) → option_map (λ n. 0 + n) o ≡ o
none_added None = refl
none_added (Some n) = ap Some (omega arith)

module _ {P : Type 0} where
  pub length-inserted : (r : Row P) (xs : List (Row P)) → length (insert_by r xs) ≡ suc (length xs)
  length-inserted r [] = refl
  length-inserted r (x ∷ xs) =
      elim (leb x.number r.number) as (λ b. length (cond b (x ∷ insert_by r xs) (r ∷ x ∷ xs)) ≡ suc (suc (length xs)))
      [ true ↦ ap suc (length-inserted r xs) | false ↦ refl ]

  pub length-sorted : (xs : List (Row P)) → length (sort_by xs) ≡ length xs
  length-sorted [] = refl
  length-sorted (x ∷ xs) = length-inserted x (sort_by xs) ∙ ap suc (length-sorted xs)

  pub length-removed : (k : ℕ) (xs : List (Row P)) → length (remove_by k xs) + length (option_to_list (row_of k xs)) ≡ length xs
  length-removed k [] = omega arith
  length-removed k (x ∷ xs) =
      elim (eqb x.number k) as (λ b. length (cond b xs (x ∷ remove_by k xs)) + length (option_to_list (cond b (Some x) (row_of k xs))) ≡ suc (length xs))
      [ true ↦ omega arith | false ↦ omega (arith, length-removed k xs) ]

  from_index : (k i : ℕ) (xs : List (Row P)) → position_from (λ (x : Row P). eqb x.number k) i xs ≡ option_map (λ n. i + n) (index_of k xs)
  from_index k i [] = refl
  from_index k i (x ∷ xs) =
      elim (eqb x.number k) as (λ b. cond b (Some i) (position_from (λ (y : Row P). eqb y.number k) (i + 1) xs)
      ≡ option_map (λ n. i + n) (cond b (Some 0) (option_map suc (index_of k xs))))
      [ true ↦ ap Some (omega arith) | false ↦ from_index k (i + 1) xs ∙ shifted i (index_of k xs) ]

  pub position-index : (k : ℕ) (xs : List (Row P)) → position_from (λ (x : Row P). eqb x.number k) 0 xs ≡ index_of k xs
  position-index k xs = from_index k 0 xs ∙ none_added (index_of k xs)

pub length-heap : (h : Heap) → h.len ≤ length h.rows.now → length (heap_rows h) ≡ h.len
length-heap h fits = length-sorted (take h.len h.rows.now) ∙ length-take-le h.len h.rows.now fits
