-- Rows with distinct numbers are a map.
use Rattle.std.proofs.Common.{◌≡◌, ℕ, Bool, true, false, cond, not, eqb, leb, List, [], ◌∷◌, is_some, Some, None, Option, sym, refl, ap, ◌∙◌, arith}
use Rattle.std.specs.Option.{option_map}
use Rattle.std.proofs.lemmas.Bool.{eqb-true, eqb-false, ne_eqb, and_parts, and_from, cond-false}
use Rattle.rows.specs.Order.{row_of, insert_by, remove_by, change_by, with_part}
use Rattle.rows.proofs.Rises.{none_parts}
use Rattle.rows.specs.Mapping.{distinct, MeansMap}
use Rattle.rows.specs.declared.row.Row.{Row}

not_some : {X : Type 0} (o : Option X) → not (is_some o) ≡ true → o ≡ None
not_some None e = refl
not_some (Some x) e = absurd (let z : ◌≡◌ {A = ℕ} 0 1 = cc in omega arith)

-- Two tests that do not both hold can be made in either order.
swap : {X : Type 0} (a b : Bool) (u v w : X) → (a ≡ true → b ≡ true → ⊥) → cond a u (cond b v w) ≡ cond b v (cond a u w)
swap true true u v w h = absurd (h refl refl)
swap true false u v w h = refl
swap false b u v w h = refl

same-both : {X : Type 0} (b : Bool) (x : X) → x ≡ cond b x x
same-both true x = refl
same-both false x = refl

other : (m n : ℕ) → eqb m n ≡ false → eqb n m ≡ false
other m n e = ne_eqb n m (λ q. eqb-false m n e (sym q))

-- Two numbers that differ are not both k.
apart : (m n k : ℕ) → eqb m n ≡ false → eqb m k ≡ true → eqb n k ≡ true → ⊥
apart m n k e a b = eqb-false m n e (eqb-true m k a ∙ sym (eqb-true n k b))

module _ {P : Type 0} where
  pub found_inserted : (k : ℕ) (r : Row P) (xs : List (Row P)) → row_of r.number xs ≡ None → row_of k (insert_by r xs) ≡ cond (eqb r.number k) (Some r) (row_of k xs)
  found_inserted k r [] e = refl
  found_inserted k r (x ∷ xs) e =
      let h = none_parts (eqb x.number r.number) x (row_of r.number xs) e in
      elim (leb x.number r.number) as (λ b. row_of k (cond b (x ∷ insert_by r xs) (r ∷ x ∷ xs)) ≡ cond (eqb r.number k) (Some r) (row_of k (x ∷ xs))) [
        | true ↦
            ap (cond (eqb x.number k) (Some x)) (found_inserted k r xs h.1)
            ∙ swap (eqb x.number k) (eqb r.number k) (Some x) (Some r) (row_of k xs) (apart x.number r.number k h.0)
        | false ↦ refl
      ]

  distinct-inserted : (r : Row P) (xs : List (Row P)) → distinct xs ≡ true → row_of r.number xs ≡ None → distinct (insert_by r xs) ≡ true
  distinct-inserted r [] d e = refl
  distinct-inserted r (x ∷ xs) d e =
      let h = none_parts (eqb x.number r.number) x (row_of r.number xs) e in
      let p = and_parts (not (is_some (row_of x.number xs))) (distinct xs) d in
      elim (leb x.number r.number) as (λ b. distinct (cond b (x ∷ insert_by r xs) (r ∷ x ∷ xs)) ≡ true) [
        | true ↦
            and_from _ _
            (ap (λ o. not (is_some o)) (found_inserted x.number r xs h.1 ∙ cond-false (eqb r.number x.number) _ _ (other x.number r.number h.0)) ∙ p.0)
            (distinct-inserted r xs p.1 h.1)
        | false ↦ and_from _ _ (ap (λ o. not (is_some o)) e) d
      ]

  found_removed_here : (n k : ℕ) (x : Row P) (xs : List (Row P)) → x.number ≡ n → row_of x.number xs ≡ None → (b : Bool) → eqb n k ≡ b
      → row_of k xs ≡ cond b None (cond (eqb x.number k) (Some x) (row_of k xs))
  found_removed_here n k x xs q e true t = ap (λ m. row_of m xs) (sym (q ∙ eqb-true n k t)) ∙ e
  found_removed_here n k x xs q e false t = sym (cond-false (eqb x.number k) _ _ (ap (λ m. eqb m k) q ∙ t))

  found_removed_at : (n k : ℕ) (x : Row P) (xs : List (Row P)) → row_of x.number xs ≡ None → row_of k (remove_by n xs) ≡ cond (eqb n k) None (row_of k xs)
      → (b : Bool) → eqb x.number n ≡ b → row_of k (cond b xs (x ∷ remove_by n xs)) ≡ cond (eqb n k) None (row_of k (x ∷ xs))
  found_removed_at n k x xs e ih true t = found_removed_here n k x xs (eqb-true x.number n t) e (eqb n k) refl
  found_removed_at n k x xs e ih false t =
      ap (cond (eqb x.number k) (Some x)) ih ∙ swap (eqb x.number k) (eqb n k) (Some x) None (row_of k xs) (apart x.number n k t)

  found_removed : (n k : ℕ) (xs : List (Row P)) → distinct xs ≡ true → row_of k (remove_by n xs) ≡ cond (eqb n k) None (row_of k xs)
  found_removed n k [] d = same-both (eqb n k) None
  found_removed n k (x ∷ xs) d =
      let p = and_parts (not (is_some (row_of x.number xs))) (distinct xs) d in
      found_removed_at n k x xs (not_some (row_of x.number xs) p.0) (found_removed n k xs p.1) (eqb x.number n) refl

  distinct-removed_at : (n : ℕ) (x : Row P) (xs : List (Row P)) → not (is_some (row_of x.number xs)) ≡ true → distinct xs ≡ true → distinct (remove_by n xs) ≡ true
      → (b : Bool) → eqb x.number n ≡ b → distinct (cond b xs (x ∷ remove_by n xs)) ≡ true
  distinct-removed_at n x xs e d ih true t = d
  distinct-removed_at n x xs e d ih false t =
      and_from _ _ (ap (λ o. not (is_some o)) (found_removed n x.number xs d ∙ cond-false (eqb n x.number) _ _ (other x.number n t)) ∙ e) ih

  distinct-removed : (n : ℕ) (xs : List (Row P)) → distinct xs ≡ true → distinct (remove_by n xs) ≡ true
  distinct-removed n [] d = refl
  distinct-removed n (x ∷ xs) d =
      let p = and_parts (not (is_some (row_of x.number xs))) (distinct xs) d in
      distinct-removed_at n x xs p.0 p.1 (distinct-removed n xs p.1) (eqb x.number n) refl

  changed-here : (p : P) (x : Row P) (o : Option (Row P)) (b : Bool)
      → cond b (Some (with_part p x)) o ≡ cond b (option_map (with_part p) (cond b (Some x) o)) (cond b (Some x) o)
  changed-here p x o true = refl
  changed-here p x o false = refl

  changed-there : (n k : ℕ) (p : P) (x : Row P) (o : Option (Row P)) (a b : Bool) → (a ≡ true → b ≡ true → ⊥)
      → cond a (Some x) (cond b (option_map (with_part p) o) o) ≡ cond b (option_map (with_part p) (cond a (Some x) o)) (cond a (Some x) o)
  changed-there n k p x o true true h = absurd (h refl refl)
  changed-there n k p x o true false h = refl
  changed-there n k p x o false b h = refl

  found_changed_at : (n k : ℕ) (p : P) (x : Row P) (xs : List (Row P)) → row_of k (change_by n p xs) ≡ cond (eqb n k) (option_map (with_part p) (row_of k xs)) (row_of k xs)
      → (b : Bool) → eqb x.number n ≡ b
      → row_of k (cond b (with_part p x ∷ xs) (x ∷ change_by n p xs)) ≡ cond (eqb n k) (option_map (with_part p) (row_of k (x ∷ xs))) (row_of k (x ∷ xs))
  found_changed_at n k p x xs ih true t =
      changed-here p x (row_of k xs) (eqb x.number k)
      ∙ ap (λ m. cond (eqb m k) (option_map (with_part p) (row_of k (x ∷ xs))) (row_of k (x ∷ xs))) (eqb-true x.number n t)
  found_changed_at n k p x xs ih false t =
      ap (cond (eqb x.number k) (Some x)) ih ∙ changed-there n k p x (row_of k xs) (eqb x.number k) (eqb n k) (apart x.number n k t)

  found_changed : (n k : ℕ) (p : P) (xs : List (Row P)) → row_of k (change_by n p xs) ≡ cond (eqb n k) (option_map (with_part p) (row_of k xs)) (row_of k xs)
  found_changed n k p [] = same-both (eqb n k) None
  found_changed n k p (x ∷ xs) = found_changed_at n k p x xs (found_changed n k p xs) (eqb x.number n) refl

  distinct-changed_at : (n : ℕ) (p : P) (x : Row P) (xs : List (Row P)) → distinct (x ∷ xs) ≡ true → distinct (change_by n p xs) ≡ true → (b : Bool) → eqb x.number n ≡ b
      → distinct (cond b (with_part p x ∷ xs) (x ∷ change_by n p xs)) ≡ true
  distinct-changed_at n p x xs d ih true t = d
  distinct-changed_at n p x xs d ih false t =
      and_from _ _
      (ap (λ o. not (is_some o)) (found_changed n x.number p xs ∙ cond-false (eqb n x.number) _ _ (other x.number n t))
      ∙ (and_parts (not (is_some (row_of x.number xs))) (distinct xs) d).0) ih

  distinct-changed : (n : ℕ) (p : P) (xs : List (Row P)) → distinct xs ≡ true → distinct (change_by n p xs) ≡ true
  distinct-changed n p [] d = refl
  distinct-changed n p (x ∷ xs) d =
      distinct-changed_at n p x xs d (distinct-changed n p xs (and_parts (not (is_some (row_of x.number xs))) (distinct xs) d).1) (eqb x.number n) refl

pub means_map : (P : Type 0) → MeansMap P
means_map P = record {
  inserted = λ r rows d e. (distinct-inserted r rows d e, λ k. found_inserted k r rows e);
  removed = λ n rows d. (distinct-removed n rows d, λ k. found_removed n k rows d);
  changed = λ n p rows d. (distinct-changed n p rows d, λ k. found_changed n k p rows);
}
