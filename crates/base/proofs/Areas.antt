-- Lemmas on writes into areas.
use Rattle.std.proofs.Common.{◌≡◌, ℕ, ◌+◌, ◌-◌, ◌≤◌, cond, leb, List, ◌++◌, length, take, drop, sym, refl, ap, ◌∙◌, append_assoc, arith, length-append}
use lib.Seq.{paste}
use borrow.Rule.Slice.PartMut.{put_mid}
use Rattle.std.proofs.lemmas.Slice.{put_mid-paste}
use Rattle.std.proofs.lemmas.List.Edits.{paste-paste, paste_all}
use Rattle.std.proofs.lemmas.List.{take_at, drop_at, length-take-le, take-append-le, drop-append-le, drop-drop, length-drop, take-append-drop}
use Rattle.std.proofs.lemmas.Bool.{le-leb, cond-true}
use Rattle.base.specs.Areas.{written_at}

-- a part of `size` bytes from `at` on, exchanged for `part`
pub put_mid-written : (at size : ℕ) (area now part : List ℕ) → now ≡ part → length part ≡ size → put_mid at size area now ≡ written_at area at part
put_mid-written at size area now part e h = put_mid-paste at size area now part (length part) e h refl ∙ paste_all area at part (length part) refl

-- a part that fits is written, and the area keeps its length
module _ (area : List ℕ) (at : ℕ) (part : List ℕ) (fits : at + length part ≤ length area) where
  pub length-written : length (written_at area at part) ≡ length area
  length-written = simp (length-append, length-drop) (omega (arith, length-take-le at area (omega arith)))

  pub written : (after : List ℕ) → after ≡ cond (leb (at + length part) (length area)) (written_at area at part) area → after ≡ written_at area at part
  written after is = is ∙ cond-true _ _ _ (le-leb _ _ fits)

-- a part that lies within the front
part-front : (front rest : List ℕ) (i n : ℕ) → i + n ≤ length front → take n (drop i (front ++ rest)) ≡ take n (drop i front)
part-front front rest i n h = ap (take n) (drop-append-le i front rest (omega arith)) ∙ take-append-le n (drop i front) rest (omega (arith, length-drop i front))

-- a part below what was written, and one above it, are as they were
pub part-below : (area part : List ℕ) (at i n : ℕ) → i + n ≤ at → at ≤ length area → take n (drop i (written_at area at part)) ≡ take n (drop i area)
part-below area part at i n h l =
    let y = length-take-le at area l in
    part-front (take at area) (part ++ drop (at + length part) area) i n (omega arith)
    ∙ sym (part-front (take at area) (drop at area) i n (omega arith)) ∙ ap (λ (l : List ℕ). take n (drop i l)) (take-append-drop at area)

drop-written : (area part : List ℕ) (at : ℕ) → at ≤ length area → drop (at + length part) (written_at area at part) ≡ drop (at + length part) area
drop-written area part at l =
    let y = length-take-le at area l in
    let n : length (take at area ++ part) ≡ at + length part = length-append (take at area) part ∙ omega arith in
    rw append_assoc at (drop_at (take at area ++ part) (drop (at + length part) area) (at + length part) n)

pub drop-above : (area part : List ℕ) (at i : ℕ) → at + length part ≤ i → at ≤ length area → drop i (written_at area at part) ≡ drop i area
drop-above area part at i h l =
    let m = at + length part in
    let e : m + (i - m) ≡ i = omega arith in
    let f : (ys : List ℕ) → drop i ys ≡ drop (i - m) (drop m ys) = λ ys. ap (λ n. drop n ys) (sym e) ∙ sym (drop-drop (i - m) m ys) in
    f (written_at area at part) ∙ ap (drop (i - m)) (drop-written area part at l) ∙ sym (f area)

-- what is written over a part of the same length takes its place
pub written_over : (p q r s : List ℕ) (at : ℕ) → length p ≡ at → length s ≡ length q → written_at (p ++ (q ++ r)) at s ≡ p ++ (s ++ r)
written_over p q r s at hp hs =
    let front : take at (p ++ (q ++ r)) ≡ p = take_at p (q ++ r) at hp in
    let size : length (p ++ q) ≡ at + length s = simp length-append (omega arith) in
    let back : drop (at + length s) ((p ++ q) ++ r) ≡ r = drop_at (p ++ q) r (at + length s) size in
    let back' : drop (at + length s) (p ++ (q ++ r)) ≡ r = rw append_assoc at back in
    cc (front, back')

-- two writes, the second right behind the first
pub written_behind : (area s t : List ℕ) (at : ℕ) → at ≤ length area → written_at (written_at area at s) (at + length s) t ≡ written_at area at (s ++ t)
written_behind area s t at h =
    sym (paste_all (written_at area at s) (at + length s) t (length t) refl)
    ∙ ap (λ (l : List ℕ). paste l (at + length s) t (length t)) (sym (paste_all area at s (length s) refl))
    ∙ paste-paste area at s t (length s) (length t) refl refl h
    ∙ paste_all area at (s ++ t) (length s + length t) (sym (length-append s t))
    ∙ ap (λ (n : ℕ). take at area ++ ((s ++ t) ++ drop (at + n) area)) (sym (length-append s t))
