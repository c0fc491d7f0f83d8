-- What a user may rely on, of the pairs that rows stand for. The proof stands here, since the law of an impl can name no other place.
use Rattle.std.specs.Prelude.{◌≡◌, ℕ, suc, ◌*◌, true, ◌&&◌, List, [], ◌∷◌, map, length, take, drop, nat_lt, refl}
use Rattle.std.proofs.Common.{ap, ◌∙◌, arith}
use Rattle.std.proofs.lemmas.List.{length-take}
use Rattle.std.proofs.lemmas.Bool.{le-leb, and_from}
use Rattle.base.specs.Limits.{body_room}
use Rattle.parts.specs.Holdings.{Sound, bodies_fit}
use Rattle.rows.specs.Order.{all_above, rises}
use Rattle.rows.specs.declared.row.Row.{Row}
use Rattle.shelves.specs.Racks.{bytes_at, pair_for, holding_of, Stock, Racked}
use Rattle.shelves.specs.declared.held.Held.{Held}

module _ (bytes : List ℕ) where
  pairs-fit : (rows : List (Row Held)) → bodies_fit (map (pair_for bytes) rows) ≡ true
  pairs-fit [] = refl
  pairs-fit (r ∷ rows) =
      and_from _ _ (le-leb (length (take r.part.size (bytes_at bytes r.part.place))) body_room
      (omega (arith, length-take r.part.size (bytes_at bytes r.part.place), length-take body_room (drop (body_room * r.part.place) bytes)))) (pairs-fit rows)

  pairs-above : (k : ℕ) (rows : List (Row Held)) → all_above k (map (pair_for bytes) rows) ≡ all_above k rows
  pairs-above k [] = refl
  pairs-above k (r ∷ rows) = ap (λ b. nat_lt k r.number && b) (pairs-above k rows)

  pairs-rise : (rows : List (Row Held)) → rises (map (pair_for bytes) rows) ≡ rises rows
  pairs-rise [] = refl
  pairs-rise (r ∷ rows) =
      ap (λ b. b && rises (map (pair_for bytes) rows)) (pairs-above r.number rows) ∙ ap (λ b. all_above r.number rows && b) (pairs-rise rows)

  pub length_pairs : (rows : List (Row Held)) → length (map (pair_for bytes) rows) ≡ length rows
  length_pairs [] = refl
  length_pairs (r ∷ rows) = ap suc (length_pairs rows)

pub racked_sound : (s : Stock) → Racked s → Sound (holding_of s)
racked_sound s h =
    record {
      bodies = pairs-fit s.bytes s.rows;
      rising = pairs-rise s.bytes s.rows ∙ h.rising;
      within = omega (arith, length_pairs s.bytes s.rows, h.whole);
      some = h.some;
      few = h.few;
    }
