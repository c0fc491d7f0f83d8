-- Packets that go, and packets that begin.
use Rattle.std.specs.Prelude.{sum, count_by}
use Rattle.std.proofs.Common.{◌≡◌, ℕ, zero, suc, ◌+◌, ◌-◌, ◌*◌, ◌<◌, ◌≤◌, Bool, true, false, not, cond, eqb, List, [], ◌∷◌, ◌++◌, map, length, get_or, take, drop, set, replicate, None, sym, refl, ap, ◌∙◌, inl, inr, append_assoc, add-one, arith, length-append, length-drop}
use Rattle.std.proofs.lemmas.List.{length-take-le, length-map, take_at, take-take, drop-drop, drop-take, take-map, drop-map, map-append, take_more_set, append-nil, get_or-replicate}
use Rattle.std.proofs.lemmas.Bool.{lt-ltb, le-ltb, ne_eqb, and_from, and_right, not_from_false, cases_eq}
use Rattle.std.specs.List.{remove}
use Rattle.std.proofs.lemmas.List.Sums.{sum_by-append, sum_by-take-drop}
use Rattle.base.specs.Areas.{written_at}
use Rattle.base.specs.Limits.{body_room, max_fragments}
use Rattle.base.specs.declared.refusal.Cause.TheVariants.{FragmentsTooLong}
use Rattle.wire.specs.Joining.{joined_pieces}
use Rattle.partials.specs.Joining.{kept, whole, max_partials, with_room, begun, with_piece, complete, all_there, refused_for, settled, join_found, join_at}
use Rattle.partials.specs.Places.{rotated, no_row, index_of, partial_for, partials_at, has_place, misfit, OwnPlaces}
use Rattle.partials.specs.Tables.{partials_in}
use Rattle.partials.specs.declared.head.PartialHead.{PartialHead}
use Rattle.partials.specs.declared.table.row.Row.{Row}
use Rattle.partials.specs.declared.table.Table.{Table}
use Rattle.partials.proofs.Cuts.{sum-set}
use Rattle.partials.proofs.Finds.{missed_at}
use Rattle.partials.proofs.Keeps.{settled-long, settled-whole, settled-kept, fitting-row, piece-written, stored}

module _ {X : Type 0} (xs : List X) (i len : ℕ) (lt : i < len) (le : len ≤ length xs) where
  long_part : length (take (len - i) (drop i xs)) ≡ len - i
  long_part = length-take-le (len - i) (drop i xs) (simp length-drop (omega arith))

  pub front_rotated : take (len - 1) (rotated xs i len) ≡ remove (take len xs) i
  front_rotated =
      let p = long_part in
      let u = take (len - i) (drop i xs) in
      let d = length-take-le i xs (omega arith) in
      let e = length-drop 1 u in
      let n : length (take i xs ++ drop 1 u) ≡ len - 1 = length-append (take i xs) (drop 1 u) ∙ omega arith in
      let a : rotated xs i len ≡ (take i xs ++ drop 1 u) ++ (take 1 u ++ drop (len - i) (drop i xs)) =
      ap (λ l. take i xs ++ l) (append_assoc (drop 1 u) (take 1 u) (drop (len - i) (drop i xs))) ∙ sym (append_assoc (take i xs) (drop 1 u) (take 1 u ++ drop (len - i) (drop i xs))) in
      let b = take_at (take i xs ++ drop 1 u) (take 1 u ++ drop (len - i) (drop i xs)) (len - 1) n in
      let m : i + (len - i) ≡ len = omega arith in
      let q : u ≡ drop i (take len xs) = sym (drop-take i (len - i) xs) ∙ ap (λ (j : ℕ). drop i (take j xs)) m in
      let r : drop 1 u ≡ drop (suc i) (take len xs) = ap (drop 1) q ∙ drop-drop 1 i (take len xs) ∙ ap (λ (j : ℕ). drop j (take len xs)) (add-one i) in
      let t : take i xs ≡ take i (take len xs) = sym (take-take i len xs (omega arith)) in
      ap (take (len - 1)) a ∙ b ∙ ap (λ l. l ++ drop 1 u) t ∙ ap (λ l. take i (take len xs) ++ l) r

pub count-rotated : (f : Row → Bool) (rows : List Row) (i len : ℕ) → count_by f (rotated rows i len) ≡ count_by f rows
count-rotated f rows i len =
    let one : Row → ℕ = λ r. cond (f r) 1 0 in
    let u = take (len - i) (drop i rows) in
    let v = drop (len - i) (drop i rows) in
    let a = sum_by-append one (take i rows) ((drop 1 u ++ take 1 u) ++ v) in
    let b = sum_by-append one (drop 1 u ++ take 1 u) v in
    let c = sum_by-append one (drop 1 u) (take 1 u) in
    let d = sum_by-take-drop one u 1 in
    let e = sum_by-take-drop one (drop i rows) (len - i) in
    let g = sum_by-take-drop one rows i in
    omega arith

map-removed : {X Y : Type 0} (f : X → Y) (xs : List X) (i : ℕ) → map f (remove xs i) ≡ remove (map f xs) i
map-removed f xs i = map-append f (take i xs) (drop (suc i) xs) ∙ ap (λ l. l ++ map f (drop (suc i) xs)) (sym (take-map f i xs)) ∙ ap (λ l. take i (map f xs) ++ l) (sym (drop-map f (suc i) xs))

-- the row at i taken out of use
module _ (t : Table) (i : ℕ) (lt : i < t.len) where
  pub fitting-removed : count_by misfit (rotated t.rows i t.len) ≡ 0
  fitting-removed = count-rotated misfit t.rows i t.len ∙ t.fitting

  pub own-removed : OwnPlaces (rotated t.rows i t.len)
  own-removed = let q = λ (p : ℕ). count-rotated (has_place p) t.rows i t.len in (q 0 ∙ t.own.0, q 1 ∙ t.own.1, q 2 ∙ t.own.2, q 3 ∙ t.own.3)

  pub removes : partials_at t.memory.now (rotated t.rows i t.len) (t.len - 1) ≡ remove (partials_in t) i
  removes =
      let f = partial_for t.memory.now in
      let g = front_rotated t.rows i t.len lt (omega arith) in
      take-map f (t.len - 1) (rotated t.rows i t.len) ∙ ap (map f) g ∙ map-removed f (take t.len t.rows) i ∙ ap (λ l. remove l i) (sym (take-map f t.len t.rows))

module _ (t : Table) where
  pub length_in : length (partials_in t) ≡ t.len
  length_in = let l = length-map t.rows (partial_for t.memory.now) in length-take-le t.len (map (partial_for t.memory.now) t.rows) (omega arith)

  pub room_none : t.len < max_partials → partials_in t ≡ with_room (partials_in t)
  room_none lt = let l = length_in in let w = lt-ltb (length (partials_in t)) max_partials (omega arith) in rw w

  pub room_one : max_partials ≤ t.len → remove (partials_in t) 0 ≡ with_room (partials_in t)
  room_one le = let l = length_in in let w = le-ltb (length (partials_in t)) max_partials (omega arith) in rw w

-- a packet with its first piece
joined-none : (n : ℕ) → joined_pieces (replicate n []) ≡ []
joined-none zero = refl
joined-none (suc n) = joined-none n

joined-one : (n k : ℕ) (piece : List ℕ) → k < n → joined_pieces (set (replicate n []) k piece) ≡ piece
joined-one zero k piece h = absurd (omega arith)
joined-one (suc n) zero piece h = ap (λ l. piece ++ l) (joined-none n) ∙ append-nil piece
joined-one (suc n) (suc k) piece h = joined-one n k piece (omega arith)

one-missing : (m k : ℕ) (piece : List ℕ) → all_there (take (suc (suc m)) (set (replicate max_fragments []) k piece)) ≡ false
one-missing m zero piece = and_right (not (eqb (length piece) 0)) false refl
one-missing m (suc k) piece = refl

first-joined : (head : PartialHead) (k : ℕ) (piece : List ℕ) → k < max_fragments → joined_pieces (with_piece (begun head) k piece).pieces ≡ piece
first-joined head k piece h = joined-one max_fragments k piece h

module _ (t : Table) (head : PartialHead) (k : ℕ) (piece : List ℕ) (e : index_of head.sender head.first (take t.len t.rows) ≡ None)
    (h : k < head.total) (few : head.total ≤ max_fragments) where
  settles : join_at (partials_in t) head k piece ≡ settled (with_piece (begun head) k piece) (with_room (partials_in t) ++ with_piece (begun head) k piece ∷ [])
  settles = ap (λ o. join_found o (partials_in t) head k piece) (missed_at t.memory.now t.rows t.len head.sender head.first e).0

  is : joined_pieces (with_piece (begun head) k piece).pieces ≡ piece
  is = first-joined head k piece (omega arith)

  pub begin_long : body_room < length piece → join_at (partials_in t) head k piece ≡ refused_for FragmentsTooLong
  begin_long l = settles ∙ settled-long (with_piece (begun head) k piece) _ (let n = ap length is in omega arith)

  module _ (short : length piece ≤ body_room) where
    pub begin_whole : head.total ≡ 1 → 0 < length piece → join_at (partials_in t) head k piece ≡ whole piece
    begin_whole one some =
        let z : k ≡ 0 = omega arith in
        let n = ne_eqb (length piece) 0 (λ x. omega arith) in
        let all : complete (with_piece (begun head) k piece) ≡ true =
        ap (λ m. all_there (take m (set (replicate max_fragments []) k piece))) one
        ∙ ap (λ j. all_there (take 1 (set (replicate max_fragments []) j piece))) z
        ∙ and_from (not (eqb (length piece) 0)) true (not_from_false (eqb (length piece) 0) n) refl in
        settles ∙ settled-whole (with_piece (begun head) k piece) _ (let n = ap length is in omega arith) all ∙ ap whole is

    pub begin_kept : (head.total ≡ 1 → ⊥) → join_at (partials_in t) head k piece ≡ kept (with_room (partials_in t) ++ with_piece (begun head) k piece ∷ []) piece
    begin_kept more =
        let two : head.total ≡ suc (suc (head.total - 2)) = elim (cases_eq head.total 1) [ inl x ↦ absurd (more x) | inr n ↦ omega arith ] in
        let missing : complete (with_piece (begun head) k piece) ≡ false =
        ap (λ m. all_there (take m (set (replicate max_fragments []) k piece))) two ∙ one-missing (head.total - 2) k piece in
        settles ∙ settled-kept (with_piece (begun head) k piece) _ (let n = ap length is in omega arith) missing
        ∙ ap (kept (with_room (partials_in t) ++ with_piece (begun head) k piece ∷ [])) is

-- a packet that begins in the first spare row
module _ (t : Table) (head : PartialHead) (lengths : List ℕ) (k place : ℕ) (piece : List ℕ) (lt : t.len < max_partials) (within : k < max_fragments)
    (short : length piece ≤ body_room) (el : lengths ≡ set (replicate max_fragments 0) k (length piece))
    (ep : place ≡ (get_or t.rows t.len no_row).place) (inside : place < max_partials) where
  abbrev row : Row
  row = record { head = head; lengths = lengths; place = place }

  none : ◌≡◌ {A = ℕ} (get_or (replicate max_fragments 0) k 0) 0
  none = get_or-replicate max_fragments k 0 0 within

  pub begun-fits : misfit row ≡ false
  begun-fits =
      let sums : sum lengths ≡ length piece = ap sum el ∙ sum-set (replicate max_fragments 0) k (length piece) within none ∙ omega arith in
      fitting-row row (omega arith) inside

  pub begins : (memory : List ℕ) (rows : List Row) → memory ≡ written_at t.memory.now (body_room * place) piece → rows ≡ set t.rows t.len row
      → partials_at memory rows (t.len + 1) ≡ partials_in t ++ with_piece (begun head) k piece ∷ []
  begins memory rows em er =
      let spare : Row = record { head = head; lengths = replicate max_fragments 0; place = place } in
      let new = with_piece (begun head) k piece in
      let e : partial_for (written_at t.memory.now (body_room * place) piece) row ≡ new =
      piece-written t.memory.now spare k piece t.sized (fitting-row spare (omega arith) inside) within none piece lengths (sym (first-joined head k piece within)) el in
      let f = stored t t.len row lt ep begun-fits piece new short e in
      let l = length-map t.rows (partial_for t.memory.now) in
      rw (em, er) (ap (take (t.len + 1)) f ∙ take_more_set (map (partial_for t.memory.now) t.rows) t.len new (omega arith))
