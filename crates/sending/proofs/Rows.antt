-- Tables of refusals that let something pass.
use Rattle.std.proofs.Common.{◌≡◌, ℕ, ◌≤◌, Bool, true, false, cond, not, eqb, ltb, List, [], ◌∷◌, Ok, Err, Result, refl, ◌∙◌, arith}
use Rattle.std.proofs.lemmas.Bool.{cond-false}
use Rattle.std.proofs.lemmas.Bool.Decides.{nat_tests}
use Rattle.base.specs.Refusals.{Row, first_of}
use Rattle.base.specs.declared.refusal.Refusal.{Refusal}

-- no row refuses
abbrev pub Pass : List Row → Type 0
Pass [] = Unit {0}
Pass (row ∷ rows) = (row.0 ≡ false) × Pass rows

pub pass_answers : {X : Type 0} (rows : List Row) (answer : Result X Refusal) → Pass rows → first_of rows answer ≡ answer
pass_answers [] answer t = refl
pass_answers (row ∷ rows) answer t = cond-false row.0 (Err row.1) (first_of rows answer) t.0 ∙ pass_answers rows answer t.1

cond-passed : {X : Type 0} (b : Bool) (e : Refusal) (answer : Result X Refusal) (x : X) → cond b (Err e) answer ≡ Ok x
    → (b ≡ false) × (answer ≡ Ok x)
cond-passed true e answer x h = absurd (cc)
cond-passed false e answer x h = (refl, h)

-- where something is answered, no row refused
pub answered_passed : {X : Type 0} (rows : List Row) (answer : Result X Refusal) (x : X) → first_of rows answer ≡ Ok x
    → Pass rows × (answer ≡ Ok x)
answered_passed [] answer x h = (tt, h)
answered_passed (row ∷ rows) answer x h =
    let p = cond-passed row.0 row.1 (first_of rows answer) x h in
    let q = answered_passed rows answer x p.1 in
    ((p.0, q.0), q.1)

-- what a test says that refuses nothing
pub same-passed : (a b : ℕ) → not (eqb a b) ≡ false → a ≡ b
same-passed a b e = grind (arith, nat_tests)

pub most_passed : (a b : ℕ) → ltb b a ≡ false → a ≤ b
most_passed a b e = grind (arith, nat_tests)
