-- Places in rows, and that the order is kept.
use Rattle.std.proofs.Common.{◌≡◌, ℕ, zero, suc, ◌<◌, ◌≤◌, Bool, true, false, cond, ◌&&◌, eqb, ltb, leb, List, [], ◌∷◌, length, get_or, set, is_some, Some, None, Option, sym, refl, ap, ◌∙◌, ⊎_elim, arith}
use Rattle.std.specs.Bool.{then_some}
use Rattle.std.specs.List.{insert, remove, slice_get}
use Rattle.std.specs.List.Sorted.{IsNonDecreasingBy, IsPartitionPoint}
use Rattle.std.proofs.lemmas.Option.{slice_get-get_or, slice_get_within, get_or_from_slice_get}
use Rattle.rows.proofs.Rises.{index_is, index_none}
use Rattle.std.specs.Option.{option_map}
use Rattle.std.proofs.lemmas.Bool.{cases_Bool, cases_lt, eqb-true, eqb-false, ltb-true, ltb-false, leb-true, leb-false, le-leb, and_parts, and_from, cond-true, cond-false}
use Rattle.rows.specs.Order.{all_from, ascends, index_of, row_of, insert_by, remove_by, with_part, change_by}
use Rattle.rows.specs.declared.row.Row.{Row}

some-none : {X : Type 0} (x : X) → Some x ≡ None → ⊥
some-none x e = let z : ◌≡◌ {A = ℕ} 0 1 = cc in omega arith

module _ {P : Type 0} where
  -- Rows in order, as the library says it.
  from_at : (k : ℕ) (xs : List (Row P)) (j : ℕ) (d : Row P) → all_from k xs ≡ true → j < length xs → k ≤ (get_or xs j d).number
  from_at k [] j d e lt = absurd (omega arith)
  from_at k (x ∷ xs) zero d e lt = leb-true k x.number (and_parts _ _ e).0
  from_at k (x ∷ xs) (suc j) d e lt = from_at k xs j d (and_parts _ _ e).1 (omega arith)

  pub ascends_non_decreasing : (xs : List (Row P)) → ascends xs ≡ true → IsNonDecreasingBy (λ (r : Row P). r.number) xs
  ascends_non_decreasing [] s i j d le lt = absurd (omega arith)
  ascends_non_decreasing (x ∷ xs) s zero zero d le lt = omega arith
  ascends_non_decreasing (x ∷ xs) s zero (suc j) d le lt = from_at x.number xs j d (and_parts _ _ s).0 (omega arith)
  ascends_non_decreasing (x ∷ xs) s (suc i) zero d le lt = absurd (omega arith)
  ascends_non_decreasing (x ∷ xs) s (suc i) (suc j) d le lt = ascends_non_decreasing xs (and_parts _ _ s).1 i j d (omega arith) (omega arith)

  -- What is put behind the rows that are not larger is put in by number.
  pub insert_is : (r : Row P) (xs : List (Row P)) (i : ℕ) → i ≤ length xs
      → IsPartitionPoint (λ (x : Row P). leb x.number r.number ≡ true) (λ (x : Row P). leb x.number r.number ≡ false) xs i → insert_by r xs ≡ insert xs i r
  insert_is r [] zero le p = refl
  insert_is r [] (suc i) le p = absurd (omega arith)
  insert_is r (x ∷ xs) zero le p = cond-false _ _ _ (p.1 0 x (omega arith) (omega arith))
  insert_is r (x ∷ xs) (suc i) le p =
      cond-true _ _ _ (p.0 0 x (omega arith) (omega arith))
      ∙ ap (λ l. x ∷ l) (insert_is r xs i (omega arith) (λ k d a b. p.0 (suc k) d (omega arith) (omega arith), λ k d a b. p.1 (suc k) d (omega arith) (omega arith)))

  -- The row behind the smaller ones has the number, or no row has it.
  module _ (k : ℕ) (xs : List (Row P)) (i : ℕ)
      (point : IsPartitionPoint (λ (x : Row P). ltb x.number k ≡ true) (λ (x : Row P). ltb x.number k ≡ false) xs i) where
    before : (j : ℕ) (d : Row P) → j < i → (get_or xs j d).number ≡ k → ⊥
    before j d lt e = let l = ltb-true (get_or xs j d).number k (point.0 j d (omega arith) lt) in omega arith

    pub missed : slice_get xs i ≡ None → index_of k xs ≡ None
    missed e = index_none k xs (λ j d lt. before j d (⊎_elim (λ (h : i < length xs). absurd (some-none _ (sym (slice_get-get_or xs i d h) ∙ e))) (λ h. omega arith) (cases_lt i (length xs))))

    pub told : ascends xs ≡ true → (x : Row P) → slice_get xs i ≡ Some x → index_of k xs ≡ then_some (eqb x.number k) i
    told s x e =
        let lt : i < length xs = slice_get_within xs i x e in
        let here : (d : Row P) → (get_or xs i d).number ≡ x.number = λ d. ap (λ (r : Row P). r.number) (get_or_from_slice_get xs i x d e) in
        ⊎_elim
        (λ t. index_is k xs i lt before (λ d. here d ∙ eqb-true x.number k t) ∙ ap (λ b. then_some b i) (sym t))
        (λ f. index_none k xs
        (λ j d within. ⊎_elim (λ (h : j < i). before j d h)
        (λ (h : i ≤ j) q.
        let l = ltb-false (get_or xs i d).number k (point.1 i d (omega arith) lt) in
        let m = ascends_non_decreasing xs s i j d h within in
        eqb-false x.number k f (sym (here d) ∙ omega arith)) (cases_lt j i))
        ∙ ap (λ b. then_some b i) (sym f))
        (cases_Bool (eqb x.number k))

  -- The row that is found at a place i, and what its removal and its change leave.
  pub record At (k : ℕ) (xs : List (Row P)) (i : ℕ) : Type 0 where
    pub within : i < length xs
    pub row : row_of k xs ≡ slice_get xs i
    pub there : is_some (row_of k xs) ≡ true
    pub without : remove_by k xs ≡ remove xs i
    pub with : (p : P) (d : Row P) → change_by k p xs ≡ set xs i (with_part p (get_or xs i d))

  at_step : (k : ℕ) (x : Row P) (xs : List (Row P)) (o : Option ℕ) → ((j : ℕ) → o ≡ Some j → At k xs j) → (b : Bool) → eqb x.number k ≡ b → (i : ℕ)
      → cond b (Some 0) (option_map suc o) ≡ Some i → At k (x ∷ xs) i
  at_step k x xs o ih true t i e =
      let z : 0 ≡ i = cc in
      rw (sym z) record {
        within = omega arith;
        row = cond-true (eqb x.number k) _ _ t;
        there = ap is_some (cond-true (eqb x.number k) (Some x) _ t);
        without = cond-true (eqb x.number k) _ _ t;
        with = λ p d. cond-true (eqb x.number k) _ _ t;
      }
  at_step k x xs None ih false t i e = absurd (let z : ◌≡◌ {A = ℕ} 0 1 = cc in omega arith)
  at_step k x xs (Some j) ih false t i e =
      let z : suc j ≡ i = cc in
      let h = ih j refl in
      rw (sym z) record {
        within = omega (arith, h.within);
        row = cond-false (eqb x.number k) _ _ t ∙ h.row;
        there = ap is_some (cond-false (eqb x.number k) (Some x) _ t) ∙ h.there;
        without = cond-false (eqb x.number k) _ _ t ∙ ap (λ l. x ∷ l) h.without;
        with = λ p d. cond-false (eqb x.number k) _ _ t ∙ ap (λ l. x ∷ l) (h.with p d);
      }

  pub at : (k : ℕ) (xs : List (Row P)) (i : ℕ) → index_of k xs ≡ Some i → At k xs i
  at k [] i e = absurd (let z : ◌≡◌ {A = ℕ} 0 1 = cc in omega arith)
  at k (x ∷ xs) i e = at_step k x xs (index_of k xs) (at k xs) (eqb x.number k) refl i e

  -- No row has the number.
  pub record Absent (k : ℕ) (xs : List (Row P)) : Type 0 where
    pub row : row_of k xs ≡ None
    pub without : remove_by k xs ≡ xs
    pub with : (p : P) → change_by k p xs ≡ xs

  absent-step : (k : ℕ) (x : Row P) (xs : List (Row P)) (o : Option ℕ) → (o ≡ None → Absent k xs) → (b : Bool) → eqb x.number k ≡ b
      → cond b (Some 0) (option_map suc o) ≡ None → Absent k (x ∷ xs)
  absent-step k x xs o ih true t e = absurd (some-none 0 e)
  absent-step k x xs (Some j) ih false t e = absurd (some-none (suc j) e)
  absent-step k x xs None ih false t e =
      let h = ih refl in
      record {
        row = cond-false (eqb x.number k) _ _ t ∙ h.row;
        without = cond-false (eqb x.number k) _ _ t ∙ ap (λ l. x ∷ l) h.without;
        with = λ p. cond-false (eqb x.number k) _ _ t ∙ ap (λ l. x ∷ l) (h.with p);
      }

  pub absent : (k : ℕ) (xs : List (Row P)) → index_of k xs ≡ None → Absent k xs
  absent k [] e = record { row = refl; without = refl; with = λ p. refl }
  absent k (x ∷ xs) e = absent-step k x xs (index_of k xs) (absent k xs) (eqb x.number k) refl e

  -- The order is kept.
  from_less : (a b : ℕ) (xs : List (Row P)) → b ≤ a → all_from a xs ≡ true → all_from b xs ≡ true
  from_less a b [] le e = refl
  from_less a b (x ∷ xs) le e =
      let h = and_parts (leb a x.number) (all_from a xs) e in
      and_from _ _ (le-leb b x.number (omega (arith, leb-true a x.number h.0))) (from_less a b xs le h.1)

  from_insert : (a : ℕ) (r : Row P) (xs : List (Row P)) → a ≤ r.number → all_from a xs ≡ true → all_from a (insert_by r xs) ≡ true
  from_insert a r [] le e = and_from _ _ (le-leb a r.number le) refl
  from_insert a r (x ∷ xs) le e =
      let h = and_parts (leb a x.number) (all_from a xs) e in
      elim (leb x.number r.number) as (λ b. all_from a (cond b (x ∷ insert_by r xs) (r ∷ x ∷ xs)) ≡ true)
      [ true ↦ and_from _ _ h.0 (from_insert a r xs le h.1) | false ↦ and_from _ _ (le-leb a r.number le) e ]

  pub ascends-insert : (r : Row P) (xs : List (Row P)) → ascends xs ≡ true → ascends (insert_by r xs) ≡ true
  ascends-insert r [] s = refl
  ascends-insert r (x ∷ xs) s =
      let h = and_parts (all_from x.number xs) (ascends xs) s in
      ⊎_elim
      (λ t. let l = leb-true x.number r.number t in
      ap ascends (cond-true (leb x.number r.number) _ _ t) ∙ and_from _ _ (from_insert x.number r xs l h.0) (ascends-insert r xs h.1))
      (λ f. let l = leb-false x.number r.number f in
      ap ascends (cond-false (leb x.number r.number) _ _ f)
      ∙ and_from _ _ (and_from _ _ (le-leb r.number x.number (omega arith)) (from_less x.number r.number xs (omega arith) h.0)) s)
      (cases_Bool (leb x.number r.number))

  from_remove : (a k : ℕ) (xs : List (Row P)) → all_from a xs ≡ true → all_from a (remove_by k xs) ≡ true
  from_remove a k [] e = refl
  from_remove a k (x ∷ xs) e =
      let h = and_parts (leb a x.number) (all_from a xs) e in
      elim (eqb x.number k) as (λ b. all_from a (cond b xs (x ∷ remove_by k xs)) ≡ true) [ true ↦ h.1 | false ↦ and_from _ _ h.0 (from_remove a k xs h.1) ]

  pub ascends-remove : (k : ℕ) (xs : List (Row P)) → ascends xs ≡ true → ascends (remove_by k xs) ≡ true
  ascends-remove k [] s = refl
  ascends-remove k (x ∷ xs) s =
      let h = and_parts (all_from x.number xs) (ascends xs) s in
      elim (eqb x.number k) as (λ b. ascends (cond b xs (x ∷ remove_by k xs)) ≡ true)
      [ true ↦ h.1 | false ↦ and_from _ _ (from_remove x.number k xs h.0) (ascends-remove k xs h.1) ]

  from_change : (a k : ℕ) (p : P) (xs : List (Row P)) → all_from a (change_by k p xs) ≡ all_from a xs
  from_change a k p [] = refl
  from_change a k p (x ∷ xs) =
      elim (eqb x.number k) as (λ b. all_from a (cond b (with_part p x ∷ xs) (x ∷ change_by k p xs)) ≡ all_from a (x ∷ xs))
      [ true ↦ refl | false ↦ ap (λ b. leb a x.number && b) (from_change a k p xs) ]

  pub ascends-change : (k : ℕ) (p : P) (xs : List (Row P)) → ascends (change_by k p xs) ≡ ascends xs
  ascends-change k p [] = refl
  ascends-change k p (x ∷ xs) =
      elim (eqb x.number k) as (λ b. ascends (cond b (with_part p x ∷ xs) (x ∷ change_by k p xs)) ≡ ascends (x ∷ xs))
      [ true ↦ refl | false ↦ ap (λ b. b && ascends (change_by k p xs)) (from_change x.number k p xs) ∙ ap (λ b. all_from x.number xs && b) (ascends-change k p xs) ]
