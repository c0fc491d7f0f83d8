-- The first rows of the lent ones.
use Rattle.std.proofs.Common.{◌≡◌, ℕ, ◌<◌, true, List, ◌∷◌, ◌++◌, length, get_or, take, drop, set, is_some, Some, None, Option, sym, ap, ◌∙◌, arith}
use Rattle.std.specs.Option.{option_to_list}
use Rattle.std.specs.List.{slice_get}
use Rattle.std.proofs.lemmas.Option.{slice_get-get_or}
use Rattle.std.proofs.lemmas.List.{length-take, get_or-take, drop-set-lt}
use Rattle.std.proofs.Math.Seq.{take-set-lt}
use Rattle.rows.specs.Order.{index_of, with_part, change_by}
use Rattle.rows.specs.declared.row.Row.{Row}
use Rattle.rows.proofs.Orders.{at}

-- The row that is taken out, as the first of the spare ones.
pub spare_out : {X : Type 0} (xs : List X) (len : ℕ) (zs rest : List X) (i : ℕ) (o : Option X) → i < length (take len xs) → o ≡ slice_get (take len xs) i → is_some o ≡ true
    → ((d : X) → zs ≡ get_or xs i d ∷ rest) → zs ≡ option_to_list o ++ rest
spare_out xs len zs rest i (Some x) lt is there at =
    let used : get_or (take len xs) i x ≡ get_or xs i x = get_or-take len xs i x (omega (arith, length-take len xs)) in
    let here : Some x ≡ Some (get_or xs i x) = is ∙ slice_get-get_or (take len xs) i x lt ∙ ap Some used in
    let same : x ≡ get_or xs i x = cc in
    at x ∙ ap (λ y. y ∷ rest) (sym same)
spare_out xs len zs rest i None lt is there at = absurd (let e : ◌≡◌ {A = ℕ} 0 1 = cc in omega arith)

-- A part that is written at the place of its number.
module _ {P : Type 0} (xs : List (Row P)) (len k i : ℕ) (p : P) (is : index_of k (take len xs) ≡ Some i) (d : Row P) where
  pub changed_upto : take len (set xs i (with_part p (get_or xs i d))) ≡ change_by k p (take len xs)
  changed_upto =
      let has = at k (take len xs) i is in
      let lt : i < len = omega (arith, has.within, length-take len xs) in
      take-set-lt len xs i (with_part p (get_or xs i d)) lt
      ∙ ap (λ y. set (take len xs) i (with_part p y)) (sym (get_or-take len xs i d lt)) ∙ sym (has.with p d)

  pub changed_behind : drop len (set xs i (with_part p (get_or xs i d))) ≡ drop len xs
  changed_behind =
      drop-set-lt len xs i (with_part p (get_or xs i d)) (omega (arith, (at k (take len xs) i is).within, length-take len xs))
