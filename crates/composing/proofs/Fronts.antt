-- Parts at the front of an area.
use Rattle.std.proofs.Common.{◌≡◌, ℕ, ◌+◌, ◌≤◌, Bool, true, false, cond, leb, List, [], ◌∷◌, ◌++◌, length, take, drop, Some, None, Option, sym, refl, ap, ◌∙◌, append_assoc, append-nil, zero-add, arith, length-append, length-drop, leb-true}
use Rattle.std.proofs.lemmas.List.{take_at}
use borrow.Rule.Slice.PartMut.{put_mid}
use Rattle.std.proofs.Math.Seq.{drop-append-add}
use Rattle.base.specs.Areas.{written_at}
use Rattle.base.proofs.Areas.{put_mid-written}
use Rattle.words.specs.Words.{fitting}
use Rattle.composing.specs.Composing.{front_in, sized}

front_by : (b : Bool) (m : ℕ) (area part rest : List ℕ) → length part ≡ m → front_in (cond b (Some m) None) (cond b (part ++ rest) area) ≡ sized (cond b (Some part) None)
front_by true m area part rest h = ap (λ l. Some (m, l)) (take_at part rest m h) ∙ ap (λ n. Some (n, part)) (sym h)
front_by false m area part rest h = refl

-- a part written at the start of an area
pub front_written : (area part : List ℕ) (r : Option ℕ) (exit : List ℕ) → r ≡ cond (leb (0 + length part) (length area)) (Some (0 + length part)) None
    → exit ≡ cond (leb (0 + length part) (length area)) (written_at area 0 part) area → front_in r exit ≡ sized (fitting (length area) (Some part))
front_written area part r exit e f =
    ap (λ x. front_in x exit) e ∙ ap (front_in (cond (leb (0 + length part) (length area)) (Some (0 + length part)) None)) f
    ∙ front_by (leb (0 + length part) (length area)) (0 + length part) area part (drop (0 + length part) area) (omega arith)
    ∙ ap (λ n. sized (cond (leb n (length area)) (Some part) None)) (zero-add (length part))

-- two parts, one behind the other
pub begun : (b : Bool) (m start : ℕ) → Some start ≡ cond b (Some m) None → (b ≡ true) × (start ≡ m)
begun true m start e = (refl, cc)
begun false m start e = absurd (let z : ◌≡◌ {A = ℕ} 0 1 = cc in omega arith)

module _ (out head d one two : List ℕ) (start : ℕ) (r : Option ℕ)
    (first : Some start ≡ cond (leb (0 + length head) (length out)) (Some (0 + length head)) None)
    (wrote : one ≡ cond (leb (0 + length head) (length out)) (written_at out 0 head) out)
    (last : r ≡ cond (leb (start + length d) (length one)) (Some (start + length d)) None)
    (then : two ≡ cond (leb (start + length d) (length one)) (written_at one start d) one) where
  start_is : start ≡ length head
  start_is = omega (arith, (begun (leb (0 + length head) (length out)) (0 + length head) start first).1)

  room-is : length head ≤ length out
  room-is = omega (arith, leb-true (0 + length head) (length out) (begun (leb (0 + length head) (length out)) (0 + length head) start first).0)

  one-is : one ≡ head ++ drop (0 + length head) out
  one-is = wrote ∙ ap (λ b. cond b (written_at out 0 head) out) (begun (leb (0 + length head) (length out)) (0 + length head) start first).0

  one-length : length one ≡ length out
  one-length = let room = room-is in omega (arith, simp (length-append, length-drop) at (ap length one-is))

  written : written_at one start d ≡ (head ++ d) ++ drop (start + length d) one
  written =
      ap (λ l. l ++ (d ++ drop (start + length d) one)) (ap (take start) one-is ∙ take_at head (drop (0 + length head) out) start (sym start_is))
      ∙ sym (append_assoc head d (drop (start + length d) one))

  pub front_two : front_in r two ≡ sized (fitting (length out) (Some (head ++ d)))
  front_two =
      let size : length (head ++ d) ≡ start + length d = let s = start_is in simp length-append (omega arith) in
      let b = leb (start + length d) (length one) in
      ap (λ x. front_in x two) last ∙ ap (front_in (cond b (Some (start + length d)) None)) (then ∙ ap (λ l. cond b l one) written)
      ∙ front_by b (start + length d) one (head ++ d) (drop (start + length d) one) size
      ∙ ap (λ n. sized (cond (leb n (length one)) (Some (head ++ d)) None)) (sym size) ∙ ap (λ n. sized (cond (leb (length (head ++ d)) n) (Some (head ++ d)) None)) one-length

-- a part written behind others, where zeros stood
pub part_behind : (done zeros part : List ℕ) (at n : ℕ) → length done ≡ at → length part ≡ n → put_mid at n (done ++ zeros) part ≡ (done ++ part) ++ drop n zeros
part_behind done zeros part at n h l =
    let area = done ++ zeros in
    put_mid-written at n area part part refl l
    ∙ ap (λ t. t ++ (part ++ drop (at + length part) area)) (take_at done zeros at h)
    ∙ ap (λ t. done ++ (part ++ t)) (ap (λ k. drop (k + length part) area) (sym h) ∙ drop-append-add done zeros (length part) ∙ ap (λ k. drop k zeros) l)
    ∙ sym (append_assoc done part (drop n zeros))

-- a head and its trailer, in an array of 24 bytes
pub head-and_trailer : (head trailer a b : List ℕ) → a ≡ head → length head ≡ 20 → b ≡ trailer → length trailer ≡ 4
    → put_mid 20 4 (a ++ (0 ∷ (0 ∷ (0 ∷ (0 ∷ []))))) b ≡ head ++ trailer
head-and_trailer head trailer a b e l f m =
    part_behind a (0 ∷ (0 ∷ (0 ∷ (0 ∷ [])))) b 20 4 (ap length e ∙ l) (ap length f ∙ m) ∙ append-nil (a ++ b) ∙ ap (λ t. t ++ b) e ∙ ap (λ t. head ++ t) f
