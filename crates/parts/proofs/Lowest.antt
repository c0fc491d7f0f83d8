-- The held packet with the smallest number.
use Rattle.std.proofs.Common.{◌≡◌, ℕ, ◌-◌, ◌≤◌, true, eqb, leb, List, [], ◌∷◌, length, take, replicate, Some, Ok, Option, sym, refl, ap, ◌∙◌, ⊎_elim, arith, length-append}
use Rattle.std.specs.Option.{option_map}
use Rattle.std.specs.List.{slice_get}
use Rattle.std.proofs.lemmas.List.{take_at}
use Rattle.std.proofs.lemmas.Bool.{cases_Bool, eq-eqb, leb-true, and_parts, cond-true, cond-false}
use Rattle.base.specs.Limits.{body_room}
use Rattle.rows.specs.Order.{row_of}
use Rattle.rows.specs.declared.row.Row.{Row}
use Rattle.parts.specs.Holdings.{Packet, Holding, Sound, bodies_fit, pair_of, lowest_of, sizes_of, read_answer, read_leaves, copied, padded}
use Rattle.parts.specs.declared.shelf.Sizes.{Sizes}

pub record Lowest (h : Holding) (first : ℕ) : Type 0 where
  pub pair : Row Packet
  pub head : slice_get h.pairs 0 ≡ Some pair
  pub number : pair.number ≡ first
  pub found : row_of first h.pairs ≡ Some pair
  pub fits : length pair.part.body ≤ body_room

pub lowest_is : (h : Holding) (first : ℕ) → Sound h → Some first ≡ lowest_of h → Lowest h first
lowest_is h first sound e = of h.pairs sound.bodies e where
  of : (ps : List (Row Packet)) → bodies_fit ps ≡ true → Some first ≡ lowest_of (record { pairs = ps; places = h.places }) → Lowest (record { pairs = ps; places = h.places }) first
  of [] b e = absurd (let z : ◌≡◌ {A = ℕ} 0 1 = cc in omega arith)
  of (p ∷ ps) b e =
      let same : p.number ≡ first = cc in
      record {
        pair = p;
        head = refl;
        number = same;
        found = cond-true (eqb p.number first) _ _ (eq-eqb _ _ same);
        fits = leb-true _ _ (and_parts (leb (length p.part.body) body_room) (bodies_fit ps) b).0;
      }

-- reading it
module _ (h : Holding) (first : ℕ) (low : Lowest h first) (buffer : List ℕ) where
  pub read_whole : eqb (length buffer) body_room ≡ true → read_answer h first buffer ≡ Ok (Some (sizes_of low.pair))
  read_whole whole = cond-true _ _ _ whole ∙ ap (λ o. Ok (option_map sizes_of o)) low.found

  pub read_buffer : eqb (length buffer) body_room ≡ true → read_leaves h first buffer ≡ padded low.pair.part.body
  read_buffer whole = cond-true _ _ _ whole ∙ ap (λ o. copied o buffer) low.found

  -- a read that is not refused
  pub read_ok : (o : Option Sizes) → Ok o ≡ read_answer h first buffer → (eqb (length buffer) body_room ≡ true) × (o ≡ Some (sizes_of low.pair))
  read_ok o e =
      ⊎_elim
      (λ t. let same : Ok o ≡ Ok (Some (sizes_of low.pair)) = e ∙ read_whole t in (t, let is : o ≡ Some (sizes_of low.pair) = cc in is))
      (λ f. absurd (let other = e ∙ cond-false _ _ _ f in let z : ◌≡◌ {A = ℕ} 0 1 = cc in omega arith))
      (cases_Bool (eqb (length buffer) body_room))

  -- the buffer then begins with its body
  pub read_front : (sizes : Sizes) → Ok (Some sizes) ≡ read_answer h first buffer
      → (low.pair ≡ pair_of first sizes.count (take sizes.length (read_leaves h first buffer))) × (sizes.length ≤ length (read_leaves h first buffer))
  read_front sizes e =
      let ok = read_ok (Some sizes) e in
      let body = low.pair.part.body in
      let same : sizes ≡ sizes_of low.pair = let some = ok.1 in cc in
      let leaves = read_buffer ok.0 in
      let front : take sizes.length (read_leaves h first buffer) ≡ body =
      ap (take sizes.length) leaves ∙ ap (λ (z : Sizes). take z.length (padded body)) same ∙ take_at body (replicate (body_room - length body) 0) (length body) refl in (
        λ i. pair_of (low.number i) (sym same i).count (sym front i),
        omega (arith, ap length leaves, ap (λ (z : Sizes). z.length) same, length-append body (replicate (body_room - length body) 0)),
      )
