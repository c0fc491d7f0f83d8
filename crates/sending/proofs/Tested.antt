-- The tables of refusals of the packer, one behind another.
use Rattle.std.proofs.Common.{◌≡◌, ℕ, Bool, true, false, cond, List, [], ◌∷◌, Ok, Err, Result, refl, ap, ◌∙◌}
use Rattle.base.specs.Refusals.{Row, first_of}
use Rattle.base.specs.declared.refusal.Refusal.{Refusal}
use Rattle.sending.specs.Packing.{argument_rows, piece_rows, ready_rows, datagram_for, tested_of, packed_of}
use Rattle.wire.specs.Reading.{and_then}
use Rattle.sending.specs.declared.packing.Packing.{Packing}

then_row : {X Y : Type 0} (b : Bool) (e : Refusal) (r : Result X Refusal) (s : Result Y Refusal) (f : X → Result Y Refusal)
    → s ≡ and_then r f → cond b (Err e) s ≡ and_then (cond b (Err e) r) f
then_row true e r s f h = refl
then_row false e r s f h = h

-- a table before a step is one before what the step goes on from
first_then : {X Y : Type 0} (rows : List Row) (r : Result X Refusal) (f : X → Result Y Refusal) → first_of rows (and_then r f) ≡ and_then (first_of rows r) f
first_then [] r f = refl
first_then (row ∷ rows) r f = then_row row.0 row.1 (first_of rows r) (first_of rows (and_then r f)) f (first_then rows r f)

abbrev sound : Result (Unit {0}) Refusal
sound = Ok (tt {0})

-- what is tested, table by table
pub tested_steps : (ready : ℕ → Bool) (p : Packing) (plain : List ℕ)
    → tested_of ready p plain
    ≡ and_then (first_of (argument_rows p plain) sound) (λ _. and_then (first_of (piece_rows p plain) sound) (λ _. first_of (ready_rows ready p) sound))
unfolding tested_of
tested_steps ready p plain =
    let last = first_of (ready_rows ready p) sound in
    first_then (argument_rows p plain) sound (λ _. first_of (piece_rows p plain) last)
    ∙ ap (λ r. and_then (first_of (argument_rows p plain) sound) (λ _. r)) (first_then (piece_rows p plain) sound (λ _. last))

-- what is packed, from what is tested
pub packed_tested : (ready : ℕ → Bool) (seals : ℕ → List ℕ → List ℕ) (p : Packing) (plain : List ℕ)
    → packed_of ready seals p plain ≡ and_then (tested_of ready p plain) (λ _. Ok (datagram_for seals p plain))
unfolding packed_of tested_of
packed_tested ready seals p plain =
    let step : Unit {0} → Result (List ℕ) Refusal = λ _. Ok (datagram_for seals p plain) in
    ap (λ r. first_of (argument_rows p plain) (first_of (piece_rows p plain) r)) (first_then (ready_rows ready p) sound step)
    ∙ ap (first_of (argument_rows p plain)) (first_then (piece_rows p plain) (first_of (ready_rows ready p) sound) step)
    ∙ first_then (argument_rows p plain) (first_of (piece_rows p plain) (first_of (ready_rows ready p) sound)) step
