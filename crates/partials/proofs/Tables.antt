-- Rows over their places.
use Rattle.std.specs.Prelude.{sum, count_by}
use Rattle.std.proofs.Common.{◌≡◌, ℕ, zero, suc, ◌+◌, ◌*◌, ◌<◌, ◌≤◌, Bool, true, false, cond, ltb, List, [], ◌∷◌, map, length, get_or, drop, set, sym, refl, ap, ◌∙◌, inl, inr, arith, length-drop}
use Rattle.std.proofs.lemmas.Bool.{cases_Bool, cases_lt, cases_eq, eqb-false, ltb-false, or_parts}
use Rattle.std.proofs.lemmas.List.Sums.{sum_by-cons, sum_by-set, get_or-le-sum_by}
use Rattle.base.specs.Areas.{written_at}
use Rattle.base.specs.Limits.{body_room}
use Rattle.wire.specs.Splitting.{cut}
use Rattle.partials.specs.Joining.{Partial, max_partials}
use Rattle.partials.specs.Places.{partial_for, has_place, misfit, OwnPlaces}
use Rattle.partials.specs.declared.table.row.Row.{Row}
use Rattle.partials.proofs.Cuts.{cut-take}
use Rattle.base.proofs.Areas.{length-written, part-below, drop-above}

-- counts
module _ (f : Row → Bool) where
  abbrev one : Row → ℕ
  one r = cond (f r) 1 0

  count-cons : (r : Row) (rs : List Row) → count_by f (r ∷ rs) ≡ one r + count_by f rs
  count-cons r rs = sum_by-cons one r rs

  pub count_none : (r : Row) (rs : List Row) → count_by f (r ∷ rs) ≡ 0 → (f r ≡ false) × (count_by f rs ≡ 0)
  count_none r rs e =
      let s = count-cons r rs in
      elim (cases_Bool (f r)) [
        | inl t ↦ absurd (let g : one r ≡ 1 = rw t in omega arith)
        | inr n ↦ (n, omega arith)
      ]

  pub count-some : (rs : List Row) (i : ℕ) (d : Row) → i < length rs → f (get_or rs i d) ≡ true → 1 ≤ count_by f rs
  count-some rs i d h t = let e : one (get_or rs i d) ≡ 1 = rw t in omega (arith, get_or-le-sum_by one rs i d h)

  pub count_set : (rs : List Row) (i : ℕ) (d r : Row) → i < length rs → f r ≡ f (get_or rs i d) → count_by f (set rs i r) ≡ count_by f rs
  count_set rs i d r h e = let g : one r ≡ one (get_or rs i d) = ap (λ b. cond b 1 0) e in omega (arith, sum_by-set one rs i r d h)

pub none_at : (f : Row → Bool) (rs : List Row) (i : ℕ) (d : Row) → i < length rs → count_by f rs ≡ 0 → f (get_or rs i d) ≡ false
none_at f rs i d h z = elim (cases_Bool (f (get_or rs i d))) [
  | inl t ↦ absurd (let g = count-some f rs i d h t in omega arith)
  | inr n ↦ n
]

pub own_at : (rs : List Row) (p : ℕ) → OwnPlaces rs → p < max_partials → count_by (has_place p) rs ≡ 1
own_at rs p a h = elim (cases_eq p 0) [
  | inl e ↦ rw e a.0
  | inr n0 ↦ elim (cases_eq p 1) [
    | inl e ↦ rw e a.1
    | inr n1 ↦ elim (cases_eq p 2) [
      | inl e ↦ rw e a.2
      | inr n2 ↦ let e : p ≡ 3 = omega arith in rw e a.3
    ]
  ]
]

pub fits-at : (r : Row) → misfit r ≡ false → (sum r.lengths ≤ body_room) × (r.place < max_partials)
fits-at r e =
    let p = or_parts (ltb body_room (sum r.lengths)) (ltb 3 r.place) e in
    (ltb-false body_room (sum r.lengths) p.0, let q = ltb-false 3 r.place p.1 in omega arith)

-- a write into one place
module _ (memory b : List ℕ) (p : ℕ) (size : length memory ≡ max_partials * body_room) (lt : p < max_partials) (fits : length b ≤ body_room) where
  pub other_place : (r : Row) → has_place p r ≡ false → misfit r ≡ false → partial_for (written_at memory (body_room * p) b) r ≡ partial_for memory r
  other_place r away good =
      let q = r.place in
      let g = fits-at r good in
      let ne = eqb-false q p away in
      let after = written_at memory (body_room * p) b in
      let n : length after ≡ max_partials * body_room = length-written memory (body_room * p) b (omega arith) ∙ size in
      let e : cut r.lengths (drop (body_room * q) after) ≡ cut r.lengths (drop (body_room * q) memory) = elim (cases_lt q p) [
        | inl l ↦
            let k : body_room ≤ length (drop (body_room * q) after) = simp length-drop (omega arith) in
            let m : body_room ≤ length (drop (body_room * q) memory) = simp length-drop (omega arith) in
            cut-take r.lengths (drop (body_room * q) after) body_room g.0 k
            ∙ ap (cut r.lengths) (part-below memory b (body_room * p) (body_room * q) body_room (omega arith) (omega arith))
            ∙ sym (cut-take r.lengths (drop (body_room * q) memory) body_room g.0 m)
        | inr l ↦
            let f : p < q = let x : q ≡ p → ⊥ = ne in elim (cases_eq q p) [ inl y ↦ absurd (x y) | inr y ↦ omega arith ] in
            ap (cut r.lengths) (drop-above memory b (body_room * p) (body_room * q) (omega arith) (omega arith))
      ] in
      ap (λ ps. record { head = r.head; pieces = ps }) e

  pub others : (rows : List Row) → count_by (has_place p) rows ≡ 0 → count_by misfit rows ≡ 0 → map (partial_for (written_at memory (body_room * p) b)) rows ≡ map (partial_for memory) rows
  others [] a g = refl
  others (r ∷ rs) a g =
      let x = count_none (has_place p) r rs a in
      let y = count_none misfit r rs g in
      let e = other_place r x.0 y.0 in
      let f = others rs x.1 y.1 in
      cc

  -- the row of the place changes, and no other
  pub changed : (rows : List Row) (i : ℕ) (d row : Row) (new : Partial) → i < length rows → has_place p (get_or rows i d) ≡ true
      → count_by (has_place p) rows ≡ 1 → count_by misfit rows ≡ 0 → partial_for (written_at memory (body_room * p) b) row ≡ new
      → map (partial_for (written_at memory (body_room * p) b)) (set rows i row) ≡ set (map (partial_for memory) rows) i new
  changed [] i d row new h t a g e = absurd (omega arith)
  changed (r ∷ rs) zero d row new h t a g e =
      let x : count_by (has_place p) rs ≡ 0 = let c = count-cons (has_place p) r rs in let y : one (has_place p) r ≡ 1 = rw t in omega arith in
      let f = others rs x (count_none misfit r rs g).1 in
      cc
  changed (r ∷ rs) (suc i) d row new h t a g e =
      let s = count-some (has_place p) rs i d (omega arith) t in
      let c = count-cons (has_place p) r rs in
      elim (cases_Bool (has_place p r)) [
        | inl y ↦ absurd (let z : one (has_place p) r ≡ 1 = rw y in omega arith)
        | inr n ↦
            let z : count_by (has_place p) rs ≡ 1 = let y : one (has_place p) r ≡ 0 = rw n in omega arith in
            let w = count_none misfit r rs g in
            let f = changed rs i d row new (omega arith) t z w.1 e in
            let o = other_place r n w.0 in
            cc
      ]
