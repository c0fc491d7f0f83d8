-- What the packer's rows say where they refuse nothing.
use Rattle.std.proofs.Common.{◌≡◌, ℕ, ◌+◌, ◌-◌, ◌*◌, ◌≤◌, Bool, true, false, not, ◌&&◌, ◌||◌, eqb, ltb, List, [], ◌∷◌, length, is_ok, Ok, Result, arith}
use Rattle.std.proofs.lemmas.Bool.{or_parts, not-false}
use Rattle.std.proofs.lemmas.Bool.Decides.{nat_tests}
use Rattle.base.specs.Limits.{max_number, max_fragments, body_room}
use Rattle.base.specs.Refusals.{Row, first_of}
use Rattle.base.specs.declared.refusal.Cause.TheVariants.{SealNotReady}
use Rattle.base.specs.declared.refusal.Refusal.{Refusal}
use Rattle.sending.specs.Packing.{is_cut, total_for, piece_of, header_words, argument_rows, piece_rows, datagram_for, packed_of}
use Rattle.wire.specs.Splitting.{split_of}
use Rattle.sending.specs.declared.packing.Packing.{Packing}
use Rattle.sending.proofs.Rows.{Pass, answered_passed, most_passed}

pub record Sound (p : Packing) (plain : List ℕ) : Type 0 where
  pub channel : 1 ≤ p.channel
  pub some : 1 ≤ p.count
  pub few : p.count ≤ 819
  pub first : 1 ≤ p.first
  pub last : p.first + p.count - 1 ≤ max_number
  pub room : length plain ≤ 4096
  pub split : is_ok (split_of p.count plain) ≡ true
  pub pieces : is_cut p ≡ true → (1 ≤ p.«fragment») × (p.«fragment» ≤ total_for p.piece_size (length plain)) × (total_for p.piece_size (length plain) ≤ 16)
  pub size : 4 * header_words p + length (piece_of p plain) + 4 ≤ 1472

second_fails : (x y : Bool) → (x && y) ≡ false → x ≡ true → y ≡ false
second_fails true y h e = h
second_fails false y h e = absurd (cc)

numbers : (k total : ℕ) → ltb max_fragments total ≡ false → (eqb k 0 || ltb total k) ≡ false → (1 ≤ k) × (k ≤ total) × (total ≤ 16)
numbers k total e f = grind (arith, nat_tests)

pub rows-sound : (p : Packing) (plain : List ℕ) → Pass (argument_rows p plain) → Pass (piece_rows p plain) → Sound p plain
rows-sound p plain a b =
    let c = a.0 in
    let n = a.1.0 in
    let f = a.1.1.0 in
    let r = or_parts (ltb body_room (length plain)) (not (is_ok (split_of p.count plain))) a.1.1.1.0 in
    let total = total_for p.piece_size (length plain) in
    record {
      channel = grind (arith, nat_tests);
      some = grind (arith, nat_tests);
      few = grind (arith, nat_tests);
      first = grind (arith, nat_tests);
      last = grind (arith, nat_tests);
      room = most_passed (length plain) 4096 r.0;
      split = not-false (is_ok (split_of p.count plain)) r.1;
      pieces =
          λ e.
          let m = second_fails (is_cut p) (ltb max_fragments total) b.1.0 e in
          let k = second_fails (is_cut p) (eqb p.«fragment» 0 || ltb total p.«fragment») b.1.1.0 e in
          numbers p.«fragment» total m k;
      size = most_passed (4 * header_words p + length (piece_of p plain) + 4) 1472 b.1.1.1.0;
    }

-- what is packed was sound, its coder ready, and it is the datagram of its packing
pub packed-sound : (ready : ℕ → Bool) (seals : ℕ → List ℕ → List ℕ) (p : Packing) (plain d : List ℕ) → packed_of ready seals p plain ≡ Ok d
    → Sound p plain × (d ≡ datagram_for seals p plain)
unfolding packed_of
packed-sound ready seals p plain d e =
    let answer : Result (List ℕ) Refusal = Ok (datagram_for seals p plain) in
    let seal : List Row = (p.sealed && not (ready p.first), record { cause = SealNotReady; value = 0 }) ∷ [] in
    let a = answered_passed (argument_rows p plain) (first_of (piece_rows p plain) (first_of seal answer)) d e in
    let b = answered_passed (piece_rows p plain) (first_of seal answer) d a.1 in
    let c = answered_passed seal answer d b.1 in
    (rows-sound p plain a.0 b.0, (let f = c.1 in cc))
