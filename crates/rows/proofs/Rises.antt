-- Rows with distinct numbers: how they rise, and where one of them is.
use Rattle.std.proofs.Common.{◌≡◌, ℕ, zero, suc, ◌<◌, ◌≤◌, Bool, true, false, cond, eqb, ltb, leb, List, [], ◌∷◌, length, get_or, is_some, Some, None, Option, refl, ap, ◌∙◌, ⊎_elim, arith}
use Rattle.std.specs.Option.{option_map}
use Rattle.std.proofs.lemmas.Bool.{cases_Bool, cases_eq, ltb-true, lt-ltb, eqb-false, leb-true, leb-false, eq-eqb, ne_eqb, and_parts, and_from, cond-true, cond-false}
use Rattle.rows.specs.Order.{all_above, rises, index_of, row_of, insert_by, remove_by}
use Rattle.rows.specs.declared.row.Row.{Row}

pub none_parts : {X : Type 0} (b : Bool) (x : X) (o : Option X) → cond b (Some x) o ≡ None → (b ≡ false) × (o ≡ None)
none_parts true x o e = absurd (let z : ◌≡◌ {A = ℕ} 0 1 = cc in omega arith)
none_parts false x o e = (refl, e)

pub none_of : {X : Type 0} (o : Option X) → is_some o ≡ false → o ≡ None
none_of None e = refl
none_of (Some x) e = absurd (let z : ◌≡◌ {A = ℕ} 0 1 = cc in omega arith)

module _ {P : Type 0} where
  -- The first row with a number is told by the rows before it and itself.
  pub index_is : (k : ℕ) (xs : List (Row P)) (i : ℕ) → i < length xs → ((j : ℕ) (d : Row P) → j < i → (get_or xs j d).number ≡ k → ⊥)
      → ((d : Row P) → (get_or xs i d).number ≡ k) → index_of k xs ≡ Some i
  index_is k [] i lt before here = absurd (omega arith)
  index_is k (x ∷ xs) zero lt before here = cond-true (eqb x.number k) _ _ (eq-eqb x.number k (here x))
  index_is k (x ∷ xs) (suc i) lt before here =
      cond-false (eqb x.number k) _ _ (ne_eqb x.number k (before 0 x (omega arith)))
      ∙ ap (option_map suc) (index_is k xs i (omega arith) (λ j d h. before (suc j) d (omega arith)) here)

  pub index_none : (k : ℕ) (xs : List (Row P)) → ((j : ℕ) (d : Row P) → j < length xs → (get_or xs j d).number ≡ k → ⊥) → index_of k xs ≡ None
  index_none k [] lack = refl
  index_none k (x ∷ xs) lack =
      cond-false (eqb x.number k) _ _ (ne_eqb x.number k (lack 0 x (omega arith))) ∙ ap (option_map suc) (index_none k xs (λ j d h. lack (suc j) d (omega arith)))

  -- The order of distinct numbers is kept.
  above_less : (a b : ℕ) (xs : List (Row P)) → b ≤ a → all_above a xs ≡ true → all_above b xs ≡ true
  above_less a b [] le e = refl
  above_less a b (x ∷ xs) le e =
      let h = and_parts (ltb a x.number) (all_above a xs) e in
      and_from _ _ (lt-ltb b x.number (omega (arith, ltb-true a x.number h.0))) (above_less a b xs le h.1)

  above_insert : (a : ℕ) (r : Row P) (xs : List (Row P)) → a < r.number → all_above a xs ≡ true → all_above a (insert_by r xs) ≡ true
  above_insert a r [] lt e = and_from _ _ (lt-ltb a r.number lt) refl
  above_insert a r (x ∷ xs) lt e =
      let h = and_parts (ltb a x.number) (all_above a xs) e in
      elim (leb x.number r.number) as (λ b. all_above a (cond b (x ∷ insert_by r xs) (r ∷ x ∷ xs)) ≡ true)
      [ true ↦ and_from _ _ h.0 (above_insert a r xs lt h.1) | false ↦ and_from _ _ (lt-ltb a r.number lt) e ]

  pub rises-insert : (r : Row P) (xs : List (Row P)) → rises xs ≡ true → row_of r.number xs ≡ None → rises (insert_by r xs) ≡ true
  rises-insert r [] s e = refl
  rises-insert r (x ∷ xs) s e =
      let h = and_parts (all_above x.number xs) (rises xs) s in
      let k = none_parts (eqb x.number r.number) x (row_of r.number xs) e in
      ⊎_elim
      (λ t. let l = leb-true x.number r.number t in
      ap rises (cond-true (leb x.number r.number) _ _ t)
      ∙ and_from _ _ (above_insert x.number r xs (⊎_elim (λ q. absurd (eqb-false x.number r.number k.0 q)) (λ q. omega arith) (cases_eq x.number r.number)) h.0) (rises-insert r xs h.1 k.1))
      (λ f. let l = leb-false x.number r.number f in
      ap rises (cond-false (leb x.number r.number) _ _ f)
      ∙ and_from _ _ (and_from _ _ (lt-ltb r.number x.number (omega arith)) (above_less x.number r.number xs (omega arith) h.0)) s)
      (cases_Bool (leb x.number r.number))

  above_remove : (a k : ℕ) (xs : List (Row P)) → all_above a xs ≡ true → all_above a (remove_by k xs) ≡ true
  above_remove a k [] e = refl
  above_remove a k (x ∷ xs) e =
      let h = and_parts (ltb a x.number) (all_above a xs) e in
      elim (eqb x.number k) as (λ b. all_above a (cond b xs (x ∷ remove_by k xs)) ≡ true) [ true ↦ h.1 | false ↦ and_from _ _ h.0 (above_remove a k xs h.1) ]

  pub rises-remove : (k : ℕ) (xs : List (Row P)) → rises xs ≡ true → rises (remove_by k xs) ≡ true
  rises-remove k [] s = refl
  rises-remove k (x ∷ xs) s =
      let h = and_parts (all_above x.number xs) (rises xs) s in
      elim (eqb x.number k) as (λ b. rises (cond b xs (x ∷ remove_by k xs)) ≡ true)
      [ true ↦ h.1 | false ↦ and_from _ _ (above_remove x.number k xs h.0) (rises-remove k xs h.1) ]

  pub remove_absent : (k : ℕ) (xs : List (Row P)) → row_of k xs ≡ None → remove_by k xs ≡ xs
  remove_absent k [] e = refl
  remove_absent k (x ∷ xs) e =
      let h = none_parts (eqb x.number k) x (row_of k xs) e in
      cond-false (eqb x.number k) _ _ h.0 ∙ ap (λ l. x ∷ l) (remove_absent k xs h.1)
