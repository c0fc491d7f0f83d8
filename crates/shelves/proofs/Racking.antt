-- What holds of a shelf at all times goes on holding.
use Rattle.std.proofs.Common.{◌≡◌, ℕ, ◌<◌, ◌≤◌, ◌++◌, length, drop, None, Option, ap, ◌∙◌, arith, length-append, length-drop}
use Rattle.std.specs.Option.{option_to_list}
use Rattle.std.specs.List.{slice_get}
use Rattle.base.specs.Limits.{body_room}
use Rattle.rows.specs.Order.{rises, row_of, insert_by, remove_by}
use Rattle.rows.specs.declared.row.Row.{Row}
use Rattle.rows.proofs.Rises.{rises-insert, rises-remove}
use Rattle.shelves.specs.Racks.{Stock, Racked, tidy}
use Rattle.shelves.specs.declared.held.Held.{Held}
use Rattle.shelves.proofs.Counting.{length-inserted, length-removed}
use Rattle.shelves.proofs.Tidying.{free_place, tidy-put, tidy-out}

module _ (s t : Stock) (h : Racked s) (room : t.room ≡ s.room) (same : length t.bytes ≡ length s.bytes) where
  -- a row put in use
  pub racked-put : (row : Row Held) → row_of row.number s.rows ≡ None → 0 < length s.spares → row.part.place ≡ free_place (slice_get s.spares 0) → row.part.size ≤ body_room
      → t.rows ≡ insert_by row s.rows → t.spares ≡ drop 1 s.spares → Racked t
  racked-put row absent free place short rows spares =
      record {
        whole = omega (arith, ap length rows, ap length spares, length-inserted row s.rows, length-drop 1 s.spares, h.whole);
        rising = ap rises rows ∙ rises-insert row s.rows h.rising absent;
        tidied = (λ i. tidy (room i) (rows i ++ spares i)) ∙ (tidy-put s.room s.rows s.spares row free place short h.tidied).tidied;
        sized = omega (arith, h.sized);
        some = omega (arith, h.some);
        few = omega (arith, h.few);
      }

  -- a row taken out of use
  pub racked-out : (k : ℕ) (o : Option (Row Held)) → o ≡ row_of k s.rows → t.rows ≡ remove_by k s.rows → t.spares ≡ option_to_list o ++ s.spares → Racked t
  racked-out k o found rows spares =
      record {
        whole = omega (arith, ap length rows, ap length spares, length-removed k s.rows, ap (λ o. length (option_to_list o)) found, length-append (option_to_list o) s.spares, h.whole);
        rising = ap rises rows ∙ rises-remove k s.rows h.rising;
        tidied = (λ i. tidy (room i) (rows i ++ spares i)) ∙ tidy-out s.room k s.rows s.spares o found h.tidied;
        sized = omega (arith, h.sized);
        some = omega (arith, h.some);
        few = omega (arith, h.few);
      }
