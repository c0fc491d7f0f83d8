-- Rows with places of their own, told by sums that do not depend on the order of the rows.
use Rattle.std.proofs.Common.{◌≡◌, ℕ, suc, ◌+◌, ◌<◌, ◌≤◌, Bool, true, false, cond, ◌&&◌, eqb, ltb, leb, List, [], ◌∷◌, ◌++◌, length, get_or, drop, Some, None, Option, sym, refl, ap, ◌∙◌, ⊎_elim, arith}
use Rattle.std.specs.Option.{option_to_list}
use Rattle.std.specs.List.{slice_get}
use Rattle.std.proofs.lemmas.Bool.{cases_Bool, cases_eq, eqb-true, eq-eqb, ne_eqb, ltb-true, leb-true, lt-ltb, le-leb, and_parts, and_from, cond-true, cond-false}
use Rattle.base.specs.Limits.{body_room}
use Rattle.rows.specs.Order.{row_of, insert_by, remove_by}
use Rattle.rows.specs.declared.row.Row.{Row}
use Rattle.rows.proofs.Rises.{remove_absent}
use Rattle.shelves.specs.Racks.{sum_by, has_place, misfit, tidy}
use Rattle.shelves.specs.declared.held.Held.{Held}

-- the place that a spare row has
abbrev pub free_place : Option (Row Held) → ℕ
free_place None = 0
free_place (Some r) = r.part.place

-- sums over rows that are joined, put in and taken out
pub sum-append : (f : Row Held → ℕ) (xs ys : List (Row Held)) → sum_by f (xs ++ ys) ≡ sum_by f xs + sum_by f ys
sum-append f [] ys = omega arith
sum-append f (x ∷ xs) ys = omega (arith, sum-append f xs ys)

pub sum-insert : (f : Row Held → ℕ) (r : Row Held) (xs : List (Row Held)) → sum_by f (insert_by r xs) ≡ f r + sum_by f xs
sum-insert f r [] = omega arith
sum-insert f r (x ∷ xs) =
    elim (leb x.number r.number) as (λ b. sum_by f (cond b (x ∷ insert_by r xs) (r ∷ x ∷ xs)) ≡ f r + (f x + sum_by f xs))
    [ true ↦ omega (arith, sum-insert f r xs) | false ↦ refl ]

sum-remove_step : (f : Row Held → ℕ) (x r : Row Held) (xs l : List (Row Held)) (o : Option (Row Held)) → (o ≡ Some r → f r + sum_by f l ≡ sum_by f xs) → (b : Bool)
    → cond b (Some x) o ≡ Some r → f r + sum_by f (cond b xs (x ∷ l)) ≡ f x + sum_by f xs
sum-remove_step f x r xs l o ih true e = let z : x ≡ r = cc in ap (λ y. f y + sum_by f xs) (sym z)
sum-remove_step f x r xs l o ih false e = omega (arith, ih e)

pub sum-remove : (f : Row Held → ℕ) (k : ℕ) (r : Row Held) (xs : List (Row Held)) → row_of k xs ≡ Some r → f r + sum_by f (remove_by k xs) ≡ sum_by f xs
sum-remove f k r [] e = absurd (let z : ◌≡◌ {A = ℕ} 0 1 = cc in omega arith)
sum-remove f k r (x ∷ xs) e = sum-remove_step f x r xs (remove_by k xs) (row_of k xs) (sum-remove f k r xs) (eqb x.number k) e

pub same_place : (p : ℕ) (r : Row Held) → r.part.place ≡ p → has_place p r ≡ 1
same_place p r e = cond-true (eqb r.part.place p) _ _ (eq-eqb _ _ e)

pub other_place : (p : ℕ) (r : Row Held) → (r.part.place ≡ p → ⊥) → has_place p r ≡ 0
other_place p r e = cond-false (eqb r.part.place p) _ _ (ne_eqb _ _ e)

-- a row that is no misfit
fit_from : (n : ℕ) (r : Row Held) → r.part.place < n → r.part.size ≤ body_room → misfit n r ≡ 0
fit_from n r p s = cond-true (ltb r.part.place n && leb r.part.size body_room) 0 1 (and_from _ _ (lt-ltb _ _ p) (le-leb _ _ s))

fit_parts : (n : ℕ) (r : Row Held) → misfit n r ≡ 0 → (r.part.place < n) × (r.part.size ≤ body_room)
fit_parts n r e =
    ⊎_elim (λ t. let h = and_parts (ltb r.part.place n) (leb r.part.size body_room) t in (ltb-true _ _ h.0, leb-true _ _ h.1))
    (λ f. absurd (let z : misfit n r ≡ 1 = cond-false (ltb r.part.place n && leb r.part.size body_room) 0 1 f in omega arith))
    (cases_Bool (ltb r.part.place n && leb r.part.size body_room))

-- tidy rows, by sums: none is a misfit, and no place is had twice
record Sums (n : ℕ) (rs : List (Row Held)) : Type 0 where
  pub fit : sum_by (misfit n) rs ≡ 0
  pub own : (p : ℕ) → sum_by (has_place p) rs ≤ 1

sums_of : (n : ℕ) (rs : List (Row Held)) → tidy n rs ≡ true → Sums n rs
sums_of n [] e = record { fit = refl; own = λ p. omega arith }
sums_of n (r ∷ rs) e =
    let h = and_parts (eqb (misfit n r) 0) (eqb (sum_by (has_place r.part.place) rs) 0 && tidy n rs) e in
    let k = and_parts (eqb (sum_by (has_place r.part.place) rs) 0) (tidy n rs) h.1 in
    let c = eqb-true (sum_by (has_place r.part.place) rs) 0 k.0 in
    let rest = sums_of n rs k.1 in
    record {
      fit = omega (arith, eqb-true (misfit n r) 0 h.0, rest.fit);
      own = λ p. ⊎_elim (λ q. omega (arith, same_place p r q, rw q at c)) (λ q. omega (arith, other_place p r q, rest.own p)) (cases_eq r.part.place p);
    }

tidy-from : (n : ℕ) (rs : List (Row Held)) → Sums n rs → tidy n rs ≡ true
tidy-from n [] s = refl
tidy-from n (r ∷ rs) s =
    and_from _ _ (eq-eqb (misfit n r) 0 (omega (arith, s.fit)))
    (and_from _ _ (eq-eqb (sum_by (has_place r.part.place) rs) 0 (omega (arith, s.own r.part.place, same_place r.part.place r refl)))
    (tidy-from n rs (record { fit = omega (arith, s.fit); own = λ p. omega (arith, s.own p) })))

-- a row put in use in the place of the first spare one: its place is one of n, and no other row's
pub record Put (n : ℕ) (rows spares : List (Row Held)) (r : Row Held) : Type 0 where
  pub tidied : tidy n (insert_by r rows ++ drop 1 spares) ≡ true
  pub inside : r.part.place < n
  pub alone : sum_by (has_place r.part.place) rows ≡ 0

pub tidy-put : (n : ℕ) (rows spares : List (Row Held)) (r : Row Held) → 0 < length spares → r.part.place ≡ free_place (slice_get spares 0) → r.part.size ≤ body_room
    → tidy n (rows ++ spares) ≡ true → Put n rows spares r
tidy-put n rows [] r some e short t = absurd (omega arith)
tidy-put n rows (s ∷ tl) r some e short t =
    let was = sums_of n (rows ++ s ∷ tl) t in
    let a : (f : Row Held → ℕ) → sum_by f (rows ++ s ∷ tl) ≡ sum_by f rows + (f s + sum_by f tl) = λ f. sum-append f rows (s ∷ tl) in
    let b : (f : Row Held → ℕ) → sum_by f (insert_by r rows ++ tl) ≡ f r + sum_by f rows + sum_by f tl =
    λ f. sum-append f (insert_by r rows) tl ∙ ap (λ m. m + sum_by f tl) (sum-insert f r rows) in
    let fits = fit_parts n s (omega (arith, a (misfit n), was.fit)) in
    record {
      tidied = tidy-from n (insert_by r rows ++ tl) (record {
        fit = omega (arith, a (misfit n), b (misfit n), was.fit, fit_from n r (omega (arith, fits.0)) short);
        own = λ p. omega (arith, a (has_place p), b (has_place p), was.own p, ap (λ (m : ℕ). cond {A = ℕ} (eqb m p) 1 0) e);
      });
      inside = omega (arith, fits.0);
      alone = ap (λ p. sum_by (has_place p) rows) e ∙ omega (arith, a (has_place s.part.place), was.own s.part.place, same_place s.part.place s refl);
    }

-- a row taken out of use becomes the first spare one
pub tidy-out : (n k : ℕ) (rows spares : List (Row Held)) (o : Option (Row Held)) → o ≡ row_of k rows → tidy n (rows ++ spares) ≡ true
    → tidy n (remove_by k rows ++ (option_to_list o ++ spares)) ≡ true
tidy-out n k rows spares None e t = ap (λ l. tidy n (l ++ spares)) (remove_absent k rows (sym e)) ∙ t
tidy-out n k rows spares (Some r) e t =
    let was = sums_of n (rows ++ spares) t in
    let a : (f : Row Held → ℕ) → sum_by f (remove_by k rows ++ r ∷ spares) ≡ sum_by f (rows ++ spares) =
    λ f. sum-append f (remove_by k rows) (r ∷ spares) ∙ omega (arith, sum-remove f k r rows (sym e), sum-append f rows spares) in
    tidy-from n _ (record { fit = a (misfit n) ∙ was.fit; own = λ p. omega (arith, a (has_place p), was.own p) })

pub row_fits : (n k : ℕ) (rows spares : List (Row Held)) (r : Row Held) → row_of k rows ≡ Some r → tidy n (rows ++ spares) ≡ true
    → (r.part.place < n) × (r.part.size ≤ body_room)
row_fits n k rows spares r e t =
    fit_parts n r (omega (arith, sum-remove (misfit n) k r rows e, sum-append (misfit n) rows spares, (sums_of n (rows ++ spares) t).fit))

-- rows with places in order, from b on
abbrev pub blank : ℕ → Row Held
blank p = record { number = 0; part = record { count = 0; size = 0; place = p } }

none_before : (b p : ℕ) (rs : List (Row Held)) → p < b → ((k : ℕ) → k < length rs → get_or rs k (blank 0) ≡ blank (b + k)) → sum_by (has_place p) rs ≡ 0
none_before b p [] l h = refl
none_before b p (r ∷ rs) l h =
    omega (
      arith,
      other_place p r (λ q. omega (arith, ap (λ (x : Row Held). x.part.place) (h 0 (omega arith)))),
      none_before (b + 1) p rs (omega arith) (λ k m. h (suc k) (omega arith) ∙ ap blank (omega arith)),
    )

pub numbered : (n b : ℕ) (rs : List (Row Held)) → b + length rs ≤ n → ((k : ℕ) → k < length rs → get_or rs k (blank 0) ≡ blank (b + k)) → tidy n rs ≡ true
numbered n b [] l h = refl
numbered n b (r ∷ rs) l h =
    let next : (k : ℕ) → k < length rs → get_or rs k (blank 0) ≡ blank (b + 1 + k) = λ k m. h (suc k) (omega arith) ∙ ap blank (omega arith) in
    let here = h 0 (omega arith) in
    let p : r.part.place ≡ b = ap (λ (x : Row Held). x.part.place) here ∙ omega arith in
    let s : r.part.size ≡ 0 = ap (λ (x : Row Held). x.part.size) here in
    and_from _ _ (eq-eqb (misfit n r) 0 (fit_from n r (omega arith) (omega arith)))
    (and_from _ _ (eq-eqb (sum_by (has_place r.part.place) rs) 0 (none_before (b + 1) r.part.place rs (omega arith) next)) (numbered n (b + 1) rs (omega arith) next))
