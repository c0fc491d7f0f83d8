-- Sorted rows: the same for rows in whatever order, where their numbers are distinct.
use Rattle.std.proofs.Common.{◌≡◌, ℕ, zero, suc, ◌+◌, ◌<◌, ◌≤◌, Bool, true, false, cond, eqb, ltb, leb, ◌⊎◌, List, [], ◌∷◌, length, get_or, take, is_some, Some, None, sum_by, Option, sym, refl, ap, ◌∙◌, inl, inr, ⊎_elim, arith}
use Rattle.std.specs.List.Sorted.{IsPermutation}
use Rattle.std.specs.List.{ContainsAt as Has, slice_get}
use Rattle.std.proofs.lemmas.List.{length-take-le, get_or-take}
use Rattle.std.proofs.lemmas.Option.{slice_get-get_or}
use Rattle.std.proofs.lemmas.List.Sorted.{IsPermutation-refl, IsPermutation-sym, IsPermutation-trans, IsPermutation-cons, IsPermutation-swap, sum_by-IsPermutation}
use Rattle.std.proofs.ByRecursion.{has_shuffled}
use Rattle.std.proofs.lemmas.List.Sums.{sum_by-cons}
use Rattle.std.proofs.lemmas.Bool.{cases_eq, ltb-true, lt-ltb, leb-true, eqb-true, eqb-false, eq-eqb, ne_eqb, and_parts, and_from, cond-true, cond-false}
use Rattle.rows.specs.Order.{all_from, ascends, all_above, rises, index_of, row_of, remove_by, insert_by}
use Rattle.shelves.specs.Sifting.{sort_by}
use Rattle.rows.specs.declared.row.Row.{Row}
use Rattle.rows.proofs.Orders.{ascends-insert, at, absent}
use Rattle.rows.proofs.Rises.{none_parts, none_of}
use Rattle.rows.proofs.Mappings.{found_inserted}

-- What stands in a list stands at its head or in its rest.
has_cases : {X : Type 0} (x : X) (xs : List X) (z : X) → Has (x ∷ xs) z → (x ≡ z) ⊎ Has xs z
has_cases x xs z (zero, lt, at) = inl (at x)
has_cases x xs z (suc k, lt, at) = inr (k, omega arith, at)

has_head : {X : Type 0} (x : X) (xs : List X) → Has (x ∷ xs) x
has_head x xs = (0, omega arith, λ d. refl)

has_rest : {X : Type 0} (x : X) (xs : List X) (z : X) → Has xs z → Has (x ∷ xs) z
has_rest x xs z (k, lt, at) = (suc k, omega arith, at)

module _ {P : Type 0} where
  -- Sorting moves rows about, no more.
  insert_shuffles : (r : Row P) (xs : List (Row P)) → IsPermutation (r ∷ xs) (insert_by r xs)
  insert_shuffles r [] = IsPermutation-refl (r ∷ [])
  insert_shuffles r (x ∷ xs) =
      elim (leb x.number r.number) as (λ b. IsPermutation (r ∷ x ∷ xs) (cond b (x ∷ insert_by r xs) (r ∷ x ∷ xs))) [
        | true ↦
            IsPermutation-trans _ _ _ (IsPermutation-swap (r ∷ x ∷ xs) (x ∷ r ∷ xs) 0 1 (omega arith) (omega arith) refl)
            (IsPermutation-cons x (r ∷ xs) (insert_by r xs) (insert_shuffles r xs))
        | false ↦ IsPermutation-refl (r ∷ x ∷ xs)
      ]

  sort_shuffles : (xs : List (Row P)) → IsPermutation xs (sort_by xs)
  sort_shuffles [] = IsPermutation-refl []
  sort_shuffles (x ∷ xs) = IsPermutation-trans _ _ _ (IsPermutation-cons x xs (sort_by xs) (sort_shuffles xs)) (insert_shuffles x (sort_by xs))

  sort_ascends : (xs : List (Row P)) → ascends (sort_by xs) ≡ true
  sort_ascends [] = refl
  sort_ascends (x ∷ xs) = ascends-insert x (sort_by xs) (sort_ascends xs)

  -- How many rows have a number.
  abbrev one : ℕ → Row P → ℕ
  one k x = cond (eqb x.number k) 1 0

  abbrev count : ℕ → List (Row P) → ℕ
  count k xs = sum_by (one k) xs

  one_same : (k : ℕ) (x : Row P) → x.number ≡ k → one k x ≡ 1
  one_same k x e = cond-true (eqb x.number k) _ _ (eq-eqb x.number k e)

  one-other : (k : ℕ) (x : Row P) → (x.number ≡ k → ⊥) → one k x ≡ 0
  one-other k x e = cond-false (eqb x.number k) _ _ (ne_eqb x.number k e)

  sort_count : (k : ℕ) (xs : List (Row P)) → count k (sort_by xs) ≡ count k xs
  sort_count k xs = sum_by-IsPermutation (one k) xs (sort_by xs) (sort_shuffles xs)

  none_counted : (k : ℕ) (xs : List (Row P)) → count k xs ≡ 0 → row_of k xs ≡ None
  none_counted k [] e = refl
  none_counted k (x ∷ xs) e =
      let n = sum_by-cons (one k) x xs in
      ⊎_elim (λ q. absurd (omega (arith, one_same k x q)))
      (λ q. cond-false (eqb x.number k) _ _ (ne_eqb x.number k q) ∙ none_counted k xs (omega arith))
      (cases_eq x.number k)

  count_none : (k : ℕ) (xs : List (Row P)) → row_of k xs ≡ None → count k xs ≡ 0
  count_none k [] e = refl
  count_none k (x ∷ xs) e =
      let h = none_parts (eqb x.number k) x (row_of k xs) e in
      sum_by-cons (one k) x xs ∙ omega (arith, one-other k x (eqb-false x.number k h.0), count_none k xs h.1)

  -- Numbers rise where none is there twice.
  above-count : (a k : ℕ) (xs : List (Row P)) → k ≤ a → all_above a xs ≡ true → count k xs ≡ 0
  above-count a k [] le e = refl
  above-count a k (x ∷ xs) le e =
      let h = and_parts (ltb a x.number) (all_above a xs) e in
      let l = ltb-true a x.number h.0 in
      sum_by-cons (one k) x xs ∙ omega (arith, one-other k x (λ q. omega arith), above-count a k xs le h.1)

  rises_count : (xs : List (Row P)) → rises xs ≡ true → (k : ℕ) → count k xs ≤ 1
  rises_count [] s k = omega arith
  rises_count (x ∷ xs) s k =
      let h = and_parts (all_above x.number xs) (rises xs) s in
      let n = sum_by-cons (one k) x xs in
      ⊎_elim (λ q. omega (arith, one_same k x q, above-count x.number k xs (omega arith) h.0))
      (λ q. omega (arith, one-other k x q, rises_count xs h.1 k))
      (cases_eq x.number k)

  above_from : (a : ℕ) (xs : List (Row P)) → all_from a xs ≡ true → count a xs ≡ 0 → all_above a xs ≡ true
  above_from a [] e n = refl
  above_from a (x ∷ xs) e n =
      let h = and_parts (leb a x.number) (all_from a xs) e in
      let l = leb-true a x.number h.0 in
      let m = sum_by-cons (one a) x xs in
      ⊎_elim (λ q. absurd (omega (arith, one_same a x q)))
      (λ q. and_from _ _ (lt-ltb a x.number (omega arith)) (above_from a xs h.1 (omega arith)))
      (cases_eq x.number a)

  rises_from : (xs : List (Row P)) → ascends xs ≡ true → ((k : ℕ) → count k xs ≤ 1) → rises xs ≡ true
  rises_from [] s h = refl
  rises_from (x ∷ xs) s h =
      let p = and_parts (all_from x.number xs) (ascends xs) s in
      let n : (k : ℕ) → count k (x ∷ xs) ≡ one k x + count k xs = λ k. sum_by-cons (one k) x xs in
      and_from _ _ (above_from x.number xs p.0 (omega (arith, n x.number, h x.number, one_same x.number x refl)))
      (rises_from xs p.1 (λ k. omega (arith, n k, h k)))

  sort_rises : (xs : List (Row P)) → ((k : ℕ) → count k xs ≤ 1) → rises (sort_by xs) ≡ true
  sort_rises xs h = rises_from (sort_by xs) (sort_ascends xs) (λ k. omega (arith, sort_count k xs, h k))

  sort_once : (xs : List (Row P)) → rises (sort_by xs) ≡ true → (k : ℕ) → count k xs ≤ 1
  sort_once xs s k = omega (arith, sort_count k xs, rises_count (sort_by xs) s k)

  -- Two lists that rise and have the same rows are the same.
  above-has : (a : ℕ) (xs : List (Row P)) (z : Row P) → all_above a xs ≡ true → Has xs z → a < z.number
  above-has a [] z e h = absurd (omega (arith, h.1))
  above-has a (x ∷ xs) z e h =
      let p = and_parts (ltb a x.number) (all_above a xs) e in
      ⊎_elim (λ q. omega (arith, ltb-true a x.number p.0, ap (λ (r : Row P). r.number) q)) (λ m. above-has a xs z p.1 m) (has_cases x xs z h)

  same_head : (x y : Row P) (xs ys : List (Row P)) → all_above x.number xs ≡ true → all_above y.number ys ≡ true → Has (y ∷ ys) x → Has (x ∷ xs) y → x ≡ y
  same_head x y xs ys a b p q =
      ⊎_elim (λ e. sym e)
      (λ m. ⊎_elim (λ e. e) (λ n. absurd (omega (arith, above-has y.number ys x b m, above-has x.number xs y a n))) (has_cases x xs y q))
      (has_cases y ys x p)

  same_rest : (x y : Row P) (xs ys : List (Row P)) (z : Row P) → x ≡ y → all_above x.number xs ≡ true → Has xs z → Has (y ∷ ys) z → Has ys z
  same_rest x y xs ys z e a m h =
      ⊎_elim (λ q. absurd (omega (arith, above-has x.number xs z a m, ap (λ (r : Row P). r.number) (e ∙ q)))) (λ n. n) (has_cases y ys z h)

  same_rows : (xs ys : List (Row P)) → rises xs ≡ true → rises ys ≡ true → ((z : Row P) → Has xs z → Has ys z) → ((z : Row P) → Has ys z → Has xs z) → xs ≡ ys
  same_rows [] [] s t f g = refl
  same_rows [] (y ∷ ys) s t f g = absurd (omega (arith, (g y (has_head y ys)).1))
  same_rows (x ∷ xs) [] s t f g = absurd (omega (arith, (f x (has_head x xs)).1))
  same_rows (x ∷ xs) (y ∷ ys) s t f g =
      let h = and_parts (all_above x.number xs) (rises xs) s in
      let k = and_parts (all_above y.number ys) (rises ys) t in
      let e = same_head x y xs ys h.0 k.0 (f x (has_head x xs)) (g y (has_head y ys)) in
      ap (λ w. w ∷ xs) e
      ∙ ap (λ l. y ∷ l) (same_rows xs ys h.1 k.1
      (λ z m. same_rest x y xs ys z e h.0 m (f z (has_rest x xs z m)))
      (λ z m. same_rest y x ys xs z (sym e) k.0 m (g z (has_rest y ys z m))))

  pub sort_same : (xs ys : List (Row P)) → IsPermutation xs ys → rises (sort_by xs) ≡ true → (rises (sort_by ys) ≡ true) × (sort_by ys ≡ sort_by xs)
  sort_same xs ys moved s =
      let t = sort_rises ys (λ k. omega (arith, sort_once xs s k, sum_by-IsPermutation (one k) xs ys moved)) in
      let across = IsPermutation-trans _ _ _ (IsPermutation-trans _ _ _ (IsPermutation-sym _ _ (sort_shuffles xs)) moved) (sort_shuffles ys) in
      (t, same_rows (sort_by ys) (sort_by xs) t s (λ z. has_shuffled (sort_by ys) (sort_by xs) z (IsPermutation-sym _ _ across)) (λ z. has_shuffled (sort_by xs) (sort_by ys) z across))

  -- A row looked up, put in and taken out, of rows in whatever order.
  alone : (x : Row P) (xs : List (Row P)) → rises (sort_by (x ∷ xs)) ≡ true → row_of x.number (sort_by xs) ≡ None
  alone x xs s =
      none_counted x.number (sort_by xs)
      (omega (arith, sort_count x.number xs, sum_by-cons (one x.number) x xs, sort_once (x ∷ xs) s x.number, one_same x.number x refl))

  rest-rises : (x : Row P) (xs : List (Row P)) → rises (sort_by (x ∷ xs)) ≡ true → rises (sort_by xs) ≡ true
  rest-rises x xs s = sort_rises xs (λ k. omega (arith, sum_by-cons (one k) x xs, sort_once (x ∷ xs) s k))

  pub sort_row : (k : ℕ) (xs : List (Row P)) → rises (sort_by xs) ≡ true → row_of k (sort_by xs) ≡ row_of k xs
  sort_row k [] s = refl
  sort_row k (x ∷ xs) s = found_inserted k x (sort_by xs) (alone x xs s) ∙ ap (cond (eqb x.number k) (Some x)) (sort_row k xs (rest-rises x xs s))

  pub sort_put : (r : Row P) (xs ys : List (Row P)) → rises (sort_by xs) ≡ true → is_some (row_of r.number (sort_by xs)) ≡ false → IsPermutation (r ∷ xs) ys
      → (rises (sort_by ys) ≡ true) × (sort_by ys ≡ insert_by r (sort_by xs))
  sort_put r xs ys s lack moved =
      let none = count_none r.number (sort_by xs) (none_of (row_of r.number (sort_by xs)) lack) in
      sort_same (r ∷ xs) ys moved (sort_rises (r ∷ xs) (λ k.
      let n = sum_by-cons (one k) r xs in
      ⊎_elim (λ q. omega (arith, one_same k r q, rw q at none, sort_count k xs))
      (λ q. omega (arith, one-other k r q, sort_once xs s k)) (cases_eq r.number k)))

  remove_insert : (r : Row P) (xs : List (Row P)) → row_of r.number xs ≡ None → remove_by r.number (insert_by r xs) ≡ xs
  remove_insert r [] e = cond-true (eqb r.number r.number) _ _ (eq-eqb r.number r.number refl)
  remove_insert r (x ∷ xs) e =
      let h = none_parts (eqb x.number r.number) x (row_of r.number xs) e in
      elim (leb x.number r.number) as (λ b. remove_by r.number (cond b (x ∷ insert_by r xs) (r ∷ x ∷ xs)) ≡ x ∷ xs) [
        | true ↦ cond-false (eqb x.number r.number) _ _ h.0 ∙ ap (λ l. x ∷ l) (remove_insert r xs h.1)
        | false ↦ cond-true (eqb r.number r.number) _ _ (eq-eqb r.number r.number refl)
      ]

  pub sort_take : (r : Row P) (xs ys : List (Row P)) → rises (sort_by xs) ≡ true → IsPermutation xs (r ∷ ys)
      → (rises (sort_by ys) ≡ true) × (sort_by ys ≡ remove_by r.number (sort_by xs))
  sort_take r xs ys s moved =
      let w = sort_same xs (r ∷ ys) moved s in
      (rest-rises r ys w.0, sym (remove_insert r (sort_by ys) (alone r ys w.0)) ∙ ap (remove_by r.number) w.1)

  -- The row with the smallest number comes first.
  head-least : (x : Row P) (xs : List (Row P)) → rises xs ≡ true → Has xs x → ((z : Row P) → Has xs z → x.number ≤ z.number) → slice_get xs 0 ≡ Some x
  head-least x [] s h least = absurd (omega (arith, h.1))
  head-least x (y ∷ ys) s h least =
      let p = and_parts (all_above y.number ys) (rises ys) s in
      ⊎_elim (λ e. ap Some e) (λ m. absurd (omega (arith, above-has y.number ys x p.0 m, least y (has_head y ys)))) (has_cases y ys x h)

  pub sort_first : (x : Row P) (xs : List (Row P)) → rises (sort_by xs) ≡ true → Has xs x → ((z : Row P) → Has xs z → x.number ≤ z.number) → slice_get (sort_by xs) 0 ≡ Some x
  sort_first x xs s h least =
      head-least x (sort_by xs) s (has_shuffled xs (sort_by xs) x (sort_shuffles xs) h)
      (λ z m. least z (has_shuffled (sort_by xs) xs z (IsPermutation-sym _ _ (sort_shuffles xs)) m))

  -- A look-up among the first rows, in whatever order.
  pub missed_sorted : (k : ℕ) (xs : List (Row P)) → rises (sort_by xs) ≡ true → index_of k xs ≡ None → row_of k (sort_by xs) ≡ None
  missed_sorted k xs s e = sort_row k xs s ∙ (absent k xs e).row

  pub found_upto : (k : ℕ) (xs : List (Row P)) (len i : ℕ) (r : Row P) → len ≤ length xs → rises (sort_by (take len xs)) ≡ true → index_of k (take len xs) ≡ Some i → r ≡ get_or xs i r
      → row_of k (sort_by (take len xs)) ≡ Some r
  found_upto k xs len i r fits s e is =
      let has = at k (take len xs) i e in
      let n = length-take-le len xs fits in
      sort_row k (take len xs) s ∙ has.row ∙ slice_get-get_or (take len xs) i r has.within ∙ ap Some (get_or-take len xs i r (omega (arith, has.within)) ∙ sym is)

  row_number_step : (k : ℕ) (x r : Row P) (o : Option (Row P)) → (o ≡ Some r → r.number ≡ k) → (b : Bool) → eqb x.number k ≡ b → cond b (Some x) o ≡ Some r → r.number ≡ k
  row_number_step k x r o ih true t e = let z : x ≡ r = cc in rw (sym z) (eqb-true x.number k t)
  row_number_step k x r o ih false t e = ih e

  pub row_number : (k : ℕ) (xs : List (Row P)) (r : Row P) → row_of k xs ≡ Some r → r.number ≡ k
  row_number k [] r e = absurd (let z : ◌≡◌ {A = ℕ} 0 1 = cc in omega arith)
  row_number k (x ∷ xs) r e = row_number_step k x r (row_of k xs) (row_number k xs r) (eqb x.number k) refl e
