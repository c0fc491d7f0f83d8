-- What a piece comes to in the rows.
use Rattle.std.specs.Prelude.{sum, count_by}
use Rattle.std.proofs.Common.{length-set, ◌≡◌, ℕ, zero, suc, ◌+◌, ◌-◌, ◌*◌, ◌<◌, ◌≤◌, Bool, true, false, ◌&&◌, eqb, ltb, List, [], ◌∷◌, ◌++◌, map, length, get_or, take, drop, set, Some, Ok, Err, sym, refl, ap, ◌∙◌, arith, length-drop}
use Rattle.std.proofs.lemmas.List.{length-take-le, drop_at, take_at}
use Rattle.std.proofs.lemmas.Bool.{lt-ltb, le-ltb, ltb-false, eq-eqb, eqb-true, or_from, and_parts, cond-true, cond-false}
use Rattle.base.specs.Areas.{written_at}
use Rattle.base.specs.Limits.{body_room}
use Rattle.base.specs.declared.refusal.Cause.TheVariants.{Fragment, FragmentMismatch, FragmentsTooLong}
use Rattle.base.specs.declared.refusal.Refusal.{Refusal}
use Rattle.wire.specs.Joining.{joined_pieces}
use Rattle.wire.specs.Splitting.{cut}
use Rattle.partials.specs.Joining.{Partial, Outcome, refused, again, kept, whole, max_partials, agree, same_checksum, complete, all_there, with_piece, refused_for, settled, join_found, join_at, join_of, join_in, misplaced}
use Rattle.partials.specs.Places.{Meets, all_positive, spliced, front_of, no_row, index_of, partial_for, has_place, misfit, OwnPlaces}
use Rattle.partials.specs.Tables.{partials_in}
use Rattle.partials.specs.declared.head.Joined.TheVariants.{Again, Kept, Whole}
use Rattle.partials.specs.declared.head.PartialHead.{PartialHead}
use Rattle.partials.specs.declared.table.row.Row.{Row}
use Rattle.partials.specs.declared.table.Table.{Table}
use Rattle.partials.proofs.Cuts.{cut-take, length-piece, splice_joined, splice_there, splice_cut, length-spliced, sum-set}
use Rattle.partials.proofs.Finds.{FoundAt, found_at}
use Rattle.partials.proofs.Tables.{none_at, fits-at, own_at, changed, count_set}

-- calls whose outcome is known
module _ {o : Outcome} (ps : List Partial) (was : List ℕ) where
  pub meets_refused : (e r : Refusal) → o ≡ refused e → r ≡ e → Meets o ps was (Err r) ps was
  meets_refused e r is same = rw is (record { answer = ap Err same; after = refl; buffer = refl })

  pub meets_again : o ≡ again → Meets o ps was (Ok Again) ps was
  meets_again is = rw is (record { answer = refl; after = refl; buffer = refl })

  pub meets_whole : (bytes now : List ℕ) (n : ℕ) → o ≡ whole bytes → n ≡ length bytes → now ≡ written_at was 0 bytes → Meets o ps was (Ok (Whole n)) ps now
  meets_whole bytes now n is long e = rw is (record { answer = ap (λ m. Ok (Whole m)) long; after = refl; buffer = e })

  pub meets_kept : (qs rs : List Partial) (bytes now : List ℕ) → o ≡ kept qs bytes → rs ≡ qs → now ≡ written_at was 0 bytes → Meets o ps was (Ok Kept) rs now
  meets_kept qs rs bytes now is a e = rw is (record { answer = refl; after = a; buffer = e })

-- a fragment with a buffer of the right size
module _ (buffer : List ℕ) (ps : List Partial) (head : PartialHead) (number : ℕ) (piece : List ℕ) (size : length buffer ≡ body_room) where
  roomy : join_in buffer ps head number piece ≡ join_of ps head number piece
  roomy = cond-true _ _ _ (eq-eqb (length buffer) body_room size)

  pub join_misplaced : misplaced head number piece ≡ true → join_in buffer ps head number piece ≡ refused_for Fragment
  unfolding join_of
  join_misplaced e = roomy ∙ cond-true _ _ _ e

  pub join_placed : misplaced head number piece ≡ false → join_in buffer ps head number piece ≡ join_at ps head (number - 1) piece
  unfolding join_of
  join_placed e = roomy ∙ cond-false _ _ _ e

-- a partial with its new piece
module _ (p : Partial) (ps : List Partial) where
  pub settled-long : body_room < length (joined_pieces p.pieces) → settled p ps ≡ refused_for FragmentsTooLong
  settled-long l = let t = lt-ltb body_room (length (joined_pieces p.pieces)) l in rw t

  pub settled-whole : length (joined_pieces p.pieces) ≤ body_room → complete p ≡ true → settled p ps ≡ whole (joined_pieces p.pieces)
  settled-whole l c = let t = le-ltb body_room (length (joined_pieces p.pieces)) l in rw (t, c)

  pub settled-kept : length (joined_pieces p.pieces) ≤ body_room → complete p ≡ false → settled p ps ≡ kept ps (joined_pieces p.pieces)
  settled-kept l c = let t = le-ltb body_room (length (joined_pieces p.pieces)) l in rw (t, c)

pub agree-total : (a b : PartialHead) → agree a b ≡ true → a.total ≡ b.total
agree-total a b e =
    let x = and_parts (eqb a.count b.count) (eqb a.flag b.flag && (eqb a.total b.total && same_checksum a.checksum b.checksum)) e in
    let y = and_parts (eqb a.flag b.flag) (eqb a.total b.total && same_checksum a.checksum b.checksum) x.1 in
    eqb-true a.total b.total (and_parts (eqb a.total b.total) (same_checksum a.checksum b.checksum) y.1).0

pub no_piece : (n : ℕ) → ltb 0 n ≡ false → n ≡ 0
no_piece n e = let l = ltb-false 0 n e in omega arith

pub fitting-row : (r : Row) → sum r.lengths ≤ body_room → r.place < max_partials → misfit r ≡ false
fitting-row r a b = or_from (ltb body_room (sum r.lengths)) (ltb 3 r.place) (le-ltb body_room (sum r.lengths) a) (le-ltb 3 r.place (omega arith))

-- the partial of a row with a further piece
abbrev pub added : List ℕ → Row → ℕ → List ℕ → Partial
added memory r k piece = with_piece (partial_for memory r) k piece

-- a row and its partial
module _ (memory : List ℕ) (r : Row) (k : ℕ) (piece : List ℕ) (size : length memory ≡ max_partials * body_room) (good : misfit r ≡ false) where
  room : sum r.lengths ≤ length (drop (body_room * r.place) memory)
  room = let g = fits-at r good in simp length-drop (omega arith)

  pub length_front : length (front_of memory r) ≡ sum r.lengths
  length_front = length-take-le (sum r.lengths) (drop (body_room * r.place) memory) room

  pub pieces-front : cut r.lengths (drop (body_room * r.place) memory) ≡ cut r.lengths (front_of memory r)
  pieces-front = let m = room in cut-take r.lengths (drop (body_room * r.place) memory) (sum r.lengths) (omega arith) m

  pub length-old : length (get_or (partial_for memory r).pieces k []) ≡ get_or r.lengths k 0
  length-old = length-piece r.lengths (drop (body_room * r.place) memory) k room

  module _ (w : k < length r.lengths) (z : get_or r.lengths k 0 ≡ 0) where
    pub joined_is : joined_pieces (added memory r k piece).pieces ≡ spliced (sum (take k r.lengths)) (front_of memory r) piece
    joined_is = ap (λ ps. joined_pieces (set ps k piece)) pieces-front ∙ splice_joined r.lengths (front_of memory r) piece k w z (sym length_front)

    pub length-joined : length (joined_pieces (added memory r k piece).pieces) ≡ sum r.lengths + length piece
    length-joined = ap length joined_is ∙ length-spliced (sum (take k r.lengths)) (front_of memory r) piece ∙ ap (λ n. n + length piece) length_front

    pub complete-is : complete (added memory r k piece) ≡ all_positive (take r.head.total (set r.lengths k (length piece)))
    complete-is = ap (λ ps. all_there (take r.head.total (set ps k piece))) pieces-front ∙ splice_there r.lengths (front_of memory r) piece k w z (sym length_front) r.head.total

    -- the row with its new piece, over the memory with it
    pub piece-written : (bytes lengths : List ℕ) → bytes ≡ joined_pieces (added memory r k piece).pieces → lengths ≡ set r.lengths k (length piece)
        → partial_for (written_at memory (body_room * r.place) bytes) (record { head = r.head; lengths = lengths; place = r.place }) ≡ added memory r k piece
    piece-written bytes lengths eb el =
        let g = fits-at r good in
        let start = body_room * r.place in
        let rest = drop (start + length bytes) memory in
        let d : drop start (written_at memory start bytes) ≡ bytes ++ rest = drop_at (take start memory) (bytes ++ rest) start (length-take-le start memory (omega arith)) in
        let e : cut lengths (drop start (written_at memory start bytes)) ≡ set (cut r.lengths (drop start memory)) k piece =
        ap (cut lengths) d ∙ ap (λ x. cut lengths (x ++ rest)) (eb ∙ joined_is) ∙ ap (λ x. cut x (spliced (sum (take k r.lengths)) (front_of memory r) piece ++ rest)) el
        ∙ splice_cut r.lengths (front_of memory r) piece rest k w z (sym length_front)
        ∙ ap (λ ps. set ps k piece) (sym pieces-front) in
        ap (λ ps. record { head = r.head; pieces = ps }) e

-- what was written to the front
pub front_written : (was now bytes : List ℕ) (n : ℕ) → now ≡ written_at was 0 bytes → length bytes ≡ n → take n now ≡ bytes
front_written was now bytes n e l = ap (take n) e ∙ take_at bytes (drop (0 + length bytes) was) n l

-- the test for the last piece
pub there_test : (n m : ℕ) (a b : List ℕ) (x y : Bool) → x ≡ all_positive (take n a) → n ≡ m → a ≡ b → x ≡ y → all_positive (take m b) ≡ y
there_test n m a b x y e p q f = ap (λ j. all_positive (take j b)) (sym p) ∙ ap (λ l. all_positive (take n l)) (sym q) ∙ sym e ∙ f

pub take-set_within : {X : Type 0} (n i : ℕ) (xs : List X) (x : X) → i < n → take n (set xs i x) ≡ set (take n xs) i x
take-set_within zero i xs x h = absurd (omega arith)
take-set_within (suc n) i [] x h = refl
take-set_within (suc n) zero (y ∷ ys) x h = refl
take-set_within (suc n) (suc i) (y ∷ ys) x h = ap (λ zs. y ∷ zs) (take-set_within n i ys x (omega arith))

pub at-fits : (t : Table) (i : ℕ) → i < max_partials → (sum (get_or t.rows i no_row).lengths ≤ body_room) × ((get_or t.rows i no_row).place < max_partials)
at-fits t i lt = fits-at (get_or t.rows i no_row) (none_at misfit t.rows i no_row (omega arith) t.fitting)

-- a row changed, and its bytes written to its place
module _ (t : Table) (i : ℕ) (row : Row) (lt : i < max_partials) (same : row.place ≡ (get_or t.rows i no_row).place) (good : misfit row ≡ false) where
  pub length_stored : length (set t.rows i row) ≡ max_partials
  length_stored = length-set t.rows i row ∙ t.four

  pub fitting_stored : count_by misfit (set t.rows i row) ≡ 0
  fitting_stored = count_set misfit t.rows i no_row row (omega arith) (good ∙ sym (none_at misfit t.rows i no_row (omega arith) t.fitting)) ∙ t.fitting

  pub own_stored : OwnPlaces (set t.rows i row)
  own_stored =
      let q : (n : ℕ) → count_by (has_place n) (set t.rows i row) ≡ count_by (has_place n) t.rows = λ n. count_set (has_place n) t.rows i no_row row (omega arith) (ap (λ x. eqb x n) same) in
      (q 0 ∙ t.own.0, q 1 ∙ t.own.1, q 2 ∙ t.own.2, q 3 ∙ t.own.3)

  pub stored : (bytes : List ℕ) (new : Partial) → length bytes ≤ body_room → partial_for (written_at t.memory.now (body_room * row.place) bytes) row ≡ new
      → map (partial_for (written_at t.memory.now (body_room * row.place) bytes)) (set t.rows i row) ≡ set (map (partial_for t.memory.now) t.rows) i new
  stored bytes new short e =
      let p = row.place in
      let g = fits-at row good in
      let there : has_place p (get_or t.rows i no_row) ≡ true = eq-eqb (get_or t.rows i no_row).place p (sym same) in
      changed t.memory.now bytes p t.sized g.1 short t.rows i no_row row new (omega arith) there (own_at t.rows p t.own g.1) t.fitting e

-- what a piece of the packet in the row at i comes to
module _ (t : Table) (i : ℕ) (head : PartialHead) (k : ℕ) (piece : List ℕ) (e : index_of head.sender head.first (take t.len t.rows) ≡ Some i) where
  abbrev r : Row
  r = get_or t.rows i no_row

  found : FoundAt t.memory.now t.rows t.len head.sender head.first i
  found = found_at t.memory.now t.rows t.len head.sender head.first i (let n = t.four in let m = t.few in omega arith) e

  pub within : i < t.len
  within = found.within

  pub good : misfit r ≡ false
  good = none_at misfit t.rows i no_row (let n = t.four in let m = t.few in let w = within in omega arith) t.fitting

  joins : join_at (partials_in t) head k piece ≡ join_found (Some (partial_for t.memory.now r)) (partials_in t) head k piece
  joins = ap (λ o. join_found o (partials_in t) head k piece) found.is

  pub to_disagree : agree r.head head ≡ false → join_at (partials_in t) head k piece ≡ refused_for FragmentMismatch
  to_disagree a = joins ∙ rw a

  module _ (a : agree r.head head ≡ true) where
    pub to_again : ltb 0 (get_or r.lengths k 0) ≡ true → join_at (partials_in t) head k piece ≡ again
    to_again l =
        let old = length-old t.memory.now r k piece t.sized good in
        joins ∙ rw (a, old, l)

    module _ (w : k < length r.lengths) (z : get_or r.lengths k 0 ≡ 0) where
      settles : join_at (partials_in t) head k piece
          ≡ settled (added t.memory.now r k piece) (set (partials_in t) i (added t.memory.now r k piece))
      settles =
          let old = length-old t.memory.now r k piece t.sized good in
          let x = found.replaced (added t.memory.now r k piece) refl in
          joins ∙ rw (a, old, z, x)

      pub long : length (joined_pieces (added t.memory.now r k piece).pieces) ≡ sum r.lengths + length piece
      long = length-joined t.memory.now r k piece t.sized good w z

      last : complete (added t.memory.now r k piece) ≡ all_positive (take head.total (set r.lengths k (length piece)))
      last = complete-is t.memory.now r k piece t.sized good w z ∙ ap (λ n. all_positive (take n (set r.lengths k (length piece)))) (agree-total r.head head a)

      filled : (was now : List ℕ) → now ≡ written_at was 0 (spliced (sum (take k r.lengths)) (front_of t.memory.now r) piece)
          → now ≡ written_at was 0 (joined_pieces (added t.memory.now r k piece).pieces)
      filled was now x = x ∙ ap (written_at was 0) (sym (joined_is t.memory.now r k piece t.sized good w z))

      pub to_long : body_room < sum r.lengths + length piece → join_at (partials_in t) head k piece ≡ refused_for FragmentsTooLong
      to_long l = settles ∙ settled-long (added t.memory.now r k piece) _ (let n = long in omega arith)

      -- the row with its new piece fits its place
      pub kept-fits : (lengths : List ℕ) → lengths ≡ set r.lengths k (length piece) → sum r.lengths + length piece ≤ body_room
          → misfit (record { head = r.head; lengths = lengths; place = r.place }) ≡ false
      kept-fits lengths el short =
          let sums : sum lengths ≡ sum r.lengths + length piece = ap sum el ∙ sum-set r.lengths k (length piece) w z in
          fitting-row (record { head = r.head; lengths = lengths; place = r.place }) (omega arith) (fits-at r good).1

      -- the buffer has all pieces
      module _ (was now : List ℕ) (n : ℕ) (wrote : now ≡ written_at was 0 (spliced (sum (take k r.lengths)) (front_of t.memory.now r) piece))
          (size : n ≡ sum r.lengths + length piece) (short : n ≤ body_room) where
        pub to_whole : all_positive (take head.total (set r.lengths k (length piece))) ≡ true
            → Meets (join_at (partials_in t) head k piece) (partials_in t) was (Ok (Whole n)) (partials_in t) now
        to_whole c =
            let new = added t.memory.now r k piece in
            let l = long in
            meets_whole (partials_in t) was (joined_pieces new.pieces) now n (settles ∙ settled-whole new _ (omega arith) (last ∙ c)) (omega arith) (filled was now wrote)

        pub to_kept : (u : Table) (lengths : List ℕ) → lengths ≡ set r.lengths k (length piece) → all_positive (take head.total (set r.lengths k (length piece))) ≡ false
            → u.memory.now ≡ written_at t.memory.now (body_room * r.place) (take n now)
            → u.rows ≡ set t.rows i (record { head = r.head; lengths = lengths; place = r.place }) → u.len ≡ t.len
            → Meets (join_at (partials_in t) head k piece) (partials_in t) was (Ok Kept) (partials_in u) now
        to_kept u lengths el c em er en =
            let memory = t.memory.now in
            let new = added memory r k piece in
            let row : Row = record { head = r.head; lengths = lengths; place = r.place } in
            let l = long in
            let x = filled was now wrote in
            let bytes : take n now ≡ joined_pieces new.pieces = front_written was now (joined_pieces new.pieces) n x (omega arith) in
            let fits = kept-fits lengths el (omega arith) in
            let f = stored t i row (let w = within in omega (arith, t.few)) refl fits (take n now) new (omega (arith, ap length bytes))
            (piece-written memory r k piece t.sized good w z (take n now) lengths bytes el) in
            let after : partials_in u ≡ set (partials_in t) i new = rw (em, er, en) (ap (take t.len) f ∙ take-set_within t.len i (map (partial_for memory) t.rows) new within) in
            meets_kept (partials_in t) was (set (partials_in t) i new) (partials_in u) (joined_pieces new.pieces) now (settles ∙ settled-kept new _ (omega arith) (last ∙ c)) after x
