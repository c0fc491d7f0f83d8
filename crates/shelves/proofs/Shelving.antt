-- The pairs that rows stand for: found, put and taken.
use Rattle.std.proofs.Common.{◌≡◌, ℕ, ◌+◌, ◌*◌, ◌<◌, ◌≤◌, true, false, cond, eqb, ltb, leb, List, [], ◌∷◌, map, length, take, is_some, is_ok, Some, None, Ok, Err, Option, sym, refl, ap, ◌∙◌, arith}
use Rattle.std.specs.Option.{option_map}
use Rattle.std.specs.List.{slice_get}
use Rattle.std.proofs.lemmas.Bool.{lt-leb, le-leb, le-ltb, cond-true, cond-false}
use Rattle.base.specs.Areas.{written_at}
use Rattle.base.specs.Limits.{body_room}
use Rattle.base.specs.declared.refusal.Cause.TheVariants.{AlreadyHeld, ShelfFull}
use Rattle.base.specs.declared.refusal.Refusal.{Refusal}
use Rattle.parts.specs.Holdings.{Holding, Packet, pair_of, sizes_of, hold_answer, holds, take_leaves}
use Rattle.rows.specs.Order.{row_of, insert_by, remove_by}
use Rattle.rows.specs.declared.row.Row.{Row}
use Rattle.shelves.specs.Racks.{bytes_at, pair_for, sizes_for, sum_by, has_place, Stock, Racked, holding_of}
use Rattle.shelves.specs.Sounds.{length_pairs}
use Rattle.shelves.specs.declared.held.Held.{Held}
use Rattle.shelves.proofs.Places.{body-written, length_front}
use Rattle.shelves.proofs.Places.{other_place as bytes-elsewhere}
use Rattle.shelves.proofs.Tidying.{free_place, same_place, row_fits, Put, tidy-put}

module _ (bytes : List ℕ) where
  pub pairs-insert : (r : Row Held) (rows : List (Row Held)) → map (pair_for bytes) (insert_by r rows) ≡ insert_by (pair_for bytes r) (map (pair_for bytes) rows)
  pairs-insert r [] = refl
  pairs-insert r (x ∷ rows) =
      elim (leb x.number r.number) as (λ b. map (pair_for bytes) (cond b (x ∷ insert_by r rows) (r ∷ x ∷ rows))
      ≡ cond b (pair_for bytes x ∷ insert_by (pair_for bytes r) (map (pair_for bytes) rows)) (pair_for bytes r ∷ pair_for bytes x ∷ map (pair_for bytes) rows))
      [ true ↦ ap (λ l. pair_for bytes x ∷ l) (pairs-insert r rows) | false ↦ refl ]

  pub pairs-remove : (k : ℕ) (rows : List (Row Held)) → map (pair_for bytes) (remove_by k rows) ≡ remove_by k (map (pair_for bytes) rows)
  pairs-remove k [] = refl
  pairs-remove k (x ∷ rows) =
      elim (eqb x.number k) as (λ b. map (pair_for bytes) (cond b rows (x ∷ remove_by k rows)) ≡ cond b (map (pair_for bytes) rows) (pair_for bytes x ∷ remove_by k (map (pair_for bytes) rows)))
      [ true ↦ refl | false ↦ ap (λ l. pair_for bytes x ∷ l) (pairs-remove k rows) ]

  pub pairs-row : (k : ℕ) (rows : List (Row Held)) → row_of k (map (pair_for bytes) rows) ≡ option_map (pair_for bytes) (row_of k rows)
  pairs-row k [] = refl
  pairs-row k (x ∷ rows) =
      elim (eqb x.number k) as (λ b. cond b (Some (pair_for bytes x)) (row_of k (map (pair_for bytes) rows)) ≡ option_map (pair_for bytes) (cond b (Some x) (row_of k rows)))
      [ true ↦ refl | false ↦ pairs-row k rows ]

  pub pairs_first : (rows : List (Row Held)) → slice_get (map (pair_for bytes) rows) 0 ≡ option_map (pair_for bytes) (slice_get rows 0)
  pairs_first [] = refl
  pairs_first (x ∷ rows) = refl

  pub pair_sizes : (r : Row Held) → body_room * (r.part.place + 1) ≤ length bytes → r.part.size ≤ body_room → sizes_of (pair_for bytes r) ≡ sizes_for r.part
  pair_sizes r inside short = ap (λ n. record { count = r.part.count; length = n }) (length_front bytes r.part.place r.part.size inside short)

-- a body that is written into a place of no row, and into its own row's place
pairs-written : (bytes body : List ℕ) (p : ℕ) (rows : List (Row Held)) → length body ≤ body_room → body_room * (p + 1) ≤ length bytes → sum_by (has_place p) rows ≡ 0
    → map (pair_for (written_at bytes (body_room * p) body)) rows ≡ map (pair_for bytes) rows
pairs-written bytes body p [] short inside alone = refl
pairs-written bytes body p (r ∷ rows) short inside alone =
    let ne : r.part.place ≡ p → ⊥ = λ q. omega (arith, same_place p r q) in
    ap (λ w. pair_of r.number r.part.count (take r.part.size w) ∷ map (pair_for (written_at bytes (body_room * p) body)) rows)
    (bytes-elsewhere bytes body p r.part.place short inside ne)
    ∙ ap (λ l. pair_for bytes r ∷ l) (pairs-written bytes body p rows short inside (omega arith))

pub put_means : (bytes body : List ℕ) (r : Row Held) (rows : List (Row Held)) → length body ≤ body_room → r.part.size ≡ length body
    → body_room * (r.part.place + 1) ≤ length bytes → sum_by (has_place r.part.place) rows ≡ 0
    → map (pair_for (written_at bytes (body_room * r.part.place) body)) (insert_by r rows) ≡ insert_by (pair_of r.number r.part.count body) (map (pair_for bytes) rows)
put_means bytes body r rows short size inside alone =
    let new = written_at bytes (body_room * r.part.place) body in
    let own : pair_for new r ≡ pair_of r.number r.part.count body =
    ap (pair_of r.number r.part.count) (ap (λ n. take n (bytes_at new r.part.place)) size ∙ body-written bytes body r.part.place short inside) in
    pairs-insert new r rows ∙ ap (λ p. insert_by p (map (pair_for new) rows)) own
    ∙ ap (insert_by (pair_of r.number r.part.count body)) (pairs-written bytes body r.part.place rows short inside alone)

-- the meaning, from that of the parts
pub holding-is : (s : Stock) (rows : List (Row Held)) (bytes : List ℕ) (room : ℕ) → s.rows ≡ rows → s.bytes ≡ bytes → s.room ≡ room
    → holding_of s ≡ record { pairs = map (pair_for bytes) rows; places = room }
holding-is s rows bytes room er eb em = λ i. record { pairs = map (pair_for (eb i)) (er i); places = em i }

-- the first of some rows is there exactly if there are any
pub none_first : {X : Type 0} (xs : List X) → None ≡ slice_get xs 0 → length xs ≡ 0
none_first [] e = refl
none_first (x ∷ xs) e = absurd (let z : ◌≡◌ {A = ℕ} 0 1 = cc in omega arith)

pub some_first : {X : Type 0} (xs : List X) (x : X) → Some x ≡ slice_get xs 0 → 0 < length xs
some_first [] x e = absurd (let z : ◌≡◌ {A = ℕ} 0 1 = cc in omega arith)
some_first (y ∷ xs) x e = omega arith

is_some-mapped : {A B : Type 0} (f : A → B) (o : Option A) → is_some (option_map f o) ≡ is_some o
is_some-mapped f None = refl
is_some-mapped f (Some x) = refl

-- the answer of a put, where the body fits a place
module _ (s : Stock) (first count : ℕ) (body : List ℕ) (short : length body ≤ body_room) where
  there : is_some (row_of first (holding_of s).pairs) ≡ is_some (row_of first s.rows)
  there = ap is_some (pairs-row s.bytes first s.rows) ∙ is_some-mapped (pair_for s.bytes) (row_of first s.rows)

  pub hold_present : is_some (row_of first s.rows) ≡ true → hold_answer (holding_of s) (pair_of first count body) ≡ Err (record { cause = AlreadyHeld; value = 0 })
  hold_present e = cond-false (ltb body_room (length body)) _ _ (le-ltb body_room (length body) short) ∙ cond-true _ _ _ (there ∙ e)

  pub hold_full : is_some (row_of first s.rows) ≡ false → length s.rows ≡ s.room
      → hold_answer (holding_of s) (pair_of first count body) ≡ Err (record { cause = ShelfFull; value = first })
  hold_full e full =
      cond-false (ltb body_room (length body)) _ _ (le-ltb body_room (length body) short) ∙ cond-false _ _ _ (there ∙ e)
      ∙ cond-true _ _ _ (le-leb s.room (length (holding_of s).pairs) (omega (arith, length_pairs s.bytes s.rows)))

  pub hold_free : is_some (row_of first s.rows) ≡ false → length s.rows < s.room → hold_answer (holding_of s) (pair_of first count body) ≡ Ok tt
  hold_free e free =
      cond-false (ltb body_room (length body)) _ _ (le-ltb body_room (length body) short) ∙ cond-false _ _ _ (there ∙ e)
      ∙ cond-false _ _ _ (lt-leb s.room (length (holding_of s).pairs) (omega (arith, length_pairs s.bytes s.rows)))

pub hold_refused : (h : Holding) (p : Row Packet) (e : Refusal) → hold_answer h p ≡ Err e → h ≡ holds h p
hold_refused h p e is = sym (cond-false _ _ _ (ap is_ok is))

pub hold_done : (h : Holding) (p : Row Packet) → hold_answer h p ≡ Ok tt → holds h p ≡ record { pairs = insert_by p h.pairs; places = h.places }
hold_done h p is = cond-true _ _ _ (ap is_ok is)

-- a row that is found, and its pair
pub row_found : (s : Stock) (k : ℕ) (r : Row Held) → Some r ≡ row_of k s.rows → row_of k (holding_of s).pairs ≡ Some (pair_for s.bytes r)
row_found s k r e = pairs-row s.bytes k s.rows ∙ ap (option_map (pair_for s.bytes)) (sym e)

pub row_absent : (s : Stock) (k : ℕ) → None ≡ row_of k s.rows → row_of k (holding_of s).pairs ≡ None
row_absent s k e = pairs-row s.bytes k s.rows ∙ ap (option_map (pair_for s.bytes)) (sym e)

pub found_fits : (s : Stock) → Racked s → (k : ℕ) (r : Row Held) → Some r ≡ row_of k s.rows → (body_room * (r.part.place + 1) ≤ length s.bytes) × (r.part.size ≤ body_room)
found_fits s h k r e = let f = row_fits s.room k s.rows s.spares r (sym e) h.tidied in (omega (arith, f.0, h.sized), f.1)

pub found_sizes : (s : Stock) → Racked s → (k : ℕ) (r : Row Held) → Some r ≡ row_of k s.rows → Some (sizes_for r.part) ≡ option_map sizes_of (row_of k (holding_of s).pairs)
found_sizes s h k r e =
    let f = found_fits s h k r e in
    ap Some (sym (pair_sizes s.bytes r f.0 f.1)) ∙ sym (ap (option_map sizes_of) (row_found s k r e))

-- what a row that was taken out leaves
pub taken : (s t : Stock) (k : ℕ) → t.rows ≡ remove_by k s.rows → t.bytes ≡ s.bytes → t.room ≡ s.room → holding_of t ≡ take_leaves (holding_of s) k
taken s t k er eb em = holding-is t (remove_by k s.rows) s.bytes s.room er eb em ∙ ap (λ l. record { pairs = l; places = s.room }) (pairs-remove s.bytes k s.rows)

-- What is known where a packet can be put: its body fits a place, its number is new, and a row is spare.
pub record Putting (s : Stock) (first : ℕ) (body : List ℕ) (spare : Row Held) : Type 0 where
  pub short : length body ≤ body_room
  pub absent : is_some (row_of first s.rows) ≡ false
  pub next : Some spare ≡ slice_get s.spares 0

module _ (s : Stock) (first count : ℕ) (body : List ℕ) (spare : Row Held) (racked : Racked s) (h : Putting s first body spare) where
  -- the row that the packet gets
  abbrev row : Row Held
  row = record { number = first; part = record { count = count; size = length body; place = spare.part.place } }

  placed : Put s.room s.rows s.spares row
  placed = tidy-put s.room s.rows s.spares row (some_first s.spares spare h.next) (ap free_place h.next) h.short racked.tidied

  pub put_inside : body_room * (spare.part.place + 1) ≤ length s.bytes
  put_inside = omega (arith, placed.inside, racked.sized)

  pub put_answer : hold_answer (holding_of s) (pair_of first count body) ≡ Ok tt
  put_answer = hold_free s first count body h.short h.absent (omega (arith, some_first s.spares spare h.next, racked.whole))

  pub put_after : (t : Stock) → t.rows ≡ insert_by row s.rows → t.bytes ≡ written_at s.bytes (body_room * spare.part.place) body → t.room ≡ s.room
      → holding_of t ≡ holds (holding_of s) (pair_of first count body)
  put_after t er eb em =
      holding-is t (insert_by row s.rows) (written_at s.bytes (body_room * spare.part.place) body) s.room er eb em
      ∙ ap (λ l. record { pairs = l; places = s.room }) (put_means s.bytes body row s.rows h.short refl put_inside placed.alone)
      ∙ sym (hold_done (holding_of s) (pair_of first count body) put_answer)
