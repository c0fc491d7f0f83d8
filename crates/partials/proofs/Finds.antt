-- The first row of a sender and a first number, and its partial among the others.
use Rattle.std.proofs.Common.{◌≡◌, ℕ, suc, ◌+◌, ◌<◌, ◌≤◌, true, Bool, eqb, List, [], ◌∷◌, map, length, get_or, take, set, Some, None, Option, sym, refl, ap, ◌∙◌, inl, inr, arith}
use Rattle.std.specs.List.{position, position_from}
use Rattle.std.proofs.lemmas.Iterator.Adapters.{position_from-zero}
use Rattle.std.proofs.lemmas.List.{take-map, length-take-le, get_or-take}
use Rattle.std.proofs.lemmas.Bool.{cases_Bool, and_parts, eqb-true}
use Rattle.std.specs.List.{remove}
use Rattle.partials.specs.Joining.{Partial, is_head_of, partial_with, without, replaced_by}
use Rattle.partials.specs.Places.{next, index_of, partial_for, partials_at, no_row}
use Rattle.partials.specs.declared.table.row.Row.{Row}

-- an index from i on
abbrev from : ℕ → Option ℕ → Option ℕ
from i None = None
from i (Some k) = Some (i + k)

from_zero : (o : Option ℕ) → from 0 o ≡ o
from_zero None = refl
from_zero (Some k) = let e : 0 + k ≡ k = omega arith in ap Some e

from_next : (i : ℕ) (o : Option ℕ) → from i (next o) ≡ from (i + 1) o
from_next i None = refl
from_next i (Some k) = let e : i + (k + 1) ≡ i + 1 + k = omega arith in ap Some e

-- as the library has it
module _ (sender first : ℕ) where
  abbrev is_of : Row → Bool
  is_of r = is_head_of sender first r.head

  index-from : (i : ℕ) (rows : List Row) → position_from is_of i rows ≡ from i (index_of sender first rows)
  index-from i [] = refl
  index-from i (r ∷ rs) = elim (cases_Bool (is_of r)) [
    | inl t ↦ let z : i ≡ i + 0 = omega arith in rw t (ap Some z)
    | inr n ↦ rw n (index-from (i + 1) rs ∙ sym (from_next i (index_of sender first rs)))
  ]

  pub index-is : (rows : List Row) → position is_of rows ≡ index_of sender first rows
  index-is rows = position_from-zero is_of rows ∙ index-from 0 rows ∙ from_zero (index_of sender first rows)

-- an index found behind the first row
next-some : (o : Option ℕ) (i : ℕ) → next o ≡ Some i → (j : ℕ) × (o ≡ Some j) × (i ≡ suc j)
next-some None i e = absurd (let z : ◌≡◌ {A = ℕ} 0 1 = cc in omega arith)
next-some (Some j) i e = (j, refl, let f : j + 1 ≡ i = cc in omega arith)

next-none : (o : Option ℕ) → next o ≡ None → o ≡ None
next-none None e = refl
next-none (Some j) e = absurd (let z : ◌≡◌ {A = ℕ} 0 1 = cc in omega arith)

module _ (sender first : ℕ) where
  pub index_within : (rows : List Row) (i : ℕ) → index_of sender first rows ≡ Some i → i < length rows
  index_within [] i e = absurd (let z : ◌≡◌ {A = ℕ} 0 1 = cc in omega arith)
  index_within (r ∷ rs) i e = elim (cases_Bool (is_head_of sender first r.head)) [
    | inl t ↦ let f : ◌≡◌ {A = Option ℕ} (Some 0) (Some i) = rw t at e in let g : 0 ≡ i = cc in omega arith
    | inr n ↦
        let f : next (index_of sender first rs) ≡ Some i = rw n at e in
        let g = next-some (index_of sender first rs) i f in
        let h = index_within rs g.0 g.1 in
        omega (arith, g.2)
  ]

  module _ (memory : List ℕ) where
    -- the partial that stands there, the partials without it, and with another in its place
    pub record Found (rows : List Row) (i : ℕ) : Type 0 where
      pub is : partial_with sender first (map (partial_for memory) rows) ≡ Some (partial_for memory (get_or rows i no_row))
      pub out : without sender first (map (partial_for memory) rows) ≡ remove (map (partial_for memory) rows) i
      pub like : is_head_of sender first (get_or rows i no_row).head ≡ true

    pub found_rows : (rows : List Row) (i : ℕ) → index_of sender first rows ≡ Some i → Found rows i
    found_rows [] i e = absurd (let z : ◌≡◌ {A = ℕ} 0 1 = cc in omega arith)
    found_rows (r ∷ rs) i e = elim (cases_Bool (is_head_of sender first r.head)) [
      | inl t ↦
          let f : ◌≡◌ {A = Option ℕ} (Some 0) (Some i) = rw t at e in
          let g : i ≡ 0 = cc in
          rw g (record { is = rw t; out = rw t; like = t })
      | inr n ↦
          let f : next (index_of sender first rs) ≡ Some i = rw n at e in
          let g = next-some (index_of sender first rs) i f in
          let h = found_rows rs g.0 g.1 in
          let k = g.2 in
          rw k (record { is = rw n h.is; out = rw n (ap (λ ps. partial_for memory r ∷ ps) h.out); like = h.like })
    ]

    pub missed_rows : (rows : List Row) → index_of sender first rows ≡ None
        → (partial_with sender first (map (partial_for memory) rows) ≡ None) × (without sender first (map (partial_for memory) rows) ≡ map (partial_for memory) rows)
    missed_rows [] e = (refl, refl)
    missed_rows (r ∷ rs) e = elim (cases_Bool (is_head_of sender first r.head)) [
      | inl t ↦ absurd (let f : ◌≡◌ {A = Option ℕ} (Some 0) None = rw t at e in let z : ◌≡◌ {A = ℕ} 0 1 = cc in omega arith)
      | inr n ↦
          let f : next (index_of sender first rs) ≡ None = rw n at e in
          let h = missed_rows rs (next-none (index_of sender first rs) f) in
          (rw n h.0, rw n (ap (λ ps. partial_for memory r ∷ ps) h.1))
    ]

module _ (memory : List ℕ) (new : Partial) where
  replaced_rows : (rows : List Row) (i : ℕ) → index_of new.head.sender new.head.first rows ≡ Some i
      → replaced_by new (map (partial_for memory) rows) ≡ set (map (partial_for memory) rows) i new
  replaced_rows [] i e = absurd (let z : ◌≡◌ {A = ℕ} 0 1 = cc in omega arith)
  replaced_rows (r ∷ rs) i e = elim (cases_Bool (is_head_of new.head.sender new.head.first r.head)) [
    | inl t ↦
        let g : ◌≡◌ {A = Option ℕ} (Some 0) (Some i) = rw t at e in
        let h : i ≡ 0 = cc in
        rw (h, t)
    | inr n ↦
        let g : next (index_of new.head.sender new.head.first rs) ≡ Some i = rw n at e in
        let h = next-some (index_of new.head.sender new.head.first rs) i g in
        let j = replaced_rows rs h.0 h.1 in
        let k = h.2 in
        rw (k, n) (ap (λ ps. partial_for memory r ∷ ps) j)
  ]

-- the same of the partials of the rows in use
module _ (memory : List ℕ) (rows : List Row) (len : ℕ) (sender first : ℕ) where
  pub record FoundAt (i : ℕ) : Type 0 where
    pub within : i < len
    pub is : partial_with sender first (partials_at memory rows len) ≡ Some (partial_for memory (get_or rows i no_row))
    pub out : without sender first (partials_at memory rows len) ≡ remove (partials_at memory rows len) i
    pub replaced : (new : Partial) → new.head ≡ (get_or rows i no_row).head → replaced_by new (partials_at memory rows len) ≡ set (partials_at memory rows len) i new

  pub found_at : (i : ℕ) → len ≤ length rows → index_of sender first (take len rows) ≡ Some i → FoundAt i
  found_at i le e =
      let used = take len rows in
      let moved = take-map (partial_for memory) len rows in
      let h = found_rows sender first memory used i e in
      let within : i < len = omega (arith, index_within sender first used i e, length-take-le len rows le) in
      let there : get_or used i no_row ≡ get_or rows i no_row = get_or-take len rows i no_row within in
      let keys = and_parts (eqb (get_or used i no_row).head.sender sender) (eqb (get_or used i no_row).head.first first) h.like in
      record {
        within = within;
        is = ap (partial_with sender first) moved ∙ h.is ∙ ap (λ r. Some (partial_for memory r)) there;
        out = ap (without sender first) moved ∙ h.out ∙ ap (λ ps. remove ps i) (sym moved);
        replaced = λ new same.
            let is-head : (get_or used i no_row).head ≡ new.head = ap (λ r. r.head) there ∙ sym same in
            let s : new.head.sender ≡ sender = ap (λ x. x.sender) (sym is-head) ∙ eqb-true _ _ keys.0 in
            let f : new.head.first ≡ first = ap (λ x. x.first) (sym is-head) ∙ eqb-true _ _ keys.1 in
            let found : index_of new.head.sender new.head.first used ≡ Some i = ap (λ x. index_of x new.head.first used) s ∙ ap (λ x. index_of sender x used) f ∙ e in
            ap (replaced_by new) moved ∙ replaced_rows memory new used i found ∙ ap (λ ps. set ps i new) (sym moved);
      }

  pub missed_at : index_of sender first (take len rows) ≡ None
      → (partial_with sender first (partials_at memory rows len) ≡ None) × (without sender first (partials_at memory rows len) ≡ partials_at memory rows len)
  missed_at e =
      let moved = take-map (partial_for memory) len rows in
      let h = missed_rows sender first memory (take len rows) e in
      (ap (partial_with sender first) moved ∙ h.0, ap (without sender first) moved ∙ h.1 ∙ sym moved)
