-- Lengths, cuts and splices.
use Rattle.std.specs.Prelude.{sum}
use Rattle.std.proofs.Common.{◌≡◌, ℕ, zero, suc, ◌+◌, ◌<◌, ◌≤◌, List, [], ◌∷◌, ◌++◌, length, get_or, take, drop, set, sym, refl, ap, ◌∙◌, append_assoc, arith, length-append, length-drop}
use Rattle.std.proofs.lemmas.List.Sums.{sum_by-cons, sum_by-set, sum_by-take-le}
use Rattle.std.proofs.lemmas.List.{take_all, take-append-le, drop-append-le, take_at, drop_at, take-take, drop-drop, take-append-drop, length-take-le, append-nil, drop-take}
use Rattle.base.specs.Areas.{written_at}
use Rattle.wire.specs.Joining.{joined_pieces}
use Rattle.wire.specs.Splitting.{cut}
use Rattle.partials.specs.Joining.{all_there}
use Rattle.partials.specs.Places.{all_positive, spliced}
use Rattle.base.proofs.Areas.{written_behind}

sum-cons : (n : ℕ) (ns : List ℕ) → sum (n ∷ ns) ≡ n + sum ns
sum-cons n ns = sum_by-cons (λ x. x) n ns

-- only the front counts
pub cut-front : (lengths bs cs : List ℕ) → sum lengths ≤ length bs → cut lengths (bs ++ cs) ≡ cut lengths bs
cut-front [] bs cs h = refl
cut-front (n ∷ ns) bs cs h =
    let s = sum-cons n ns in
    let a : take n (bs ++ cs) ≡ take n bs = take-append-le n bs cs (omega arith) in
    let b : drop n (bs ++ cs) ≡ drop n bs ++ cs = drop-append-le n bs cs (omega arith) in
    let c : cut ns (drop n bs ++ cs) ≡ cut ns (drop n bs) = cut-front ns (drop n bs) cs (simp length-drop (omega arith)) in
    rw (a, b, c)

pub cut-take : (lengths bs : List ℕ) (m : ℕ) → sum lengths ≤ m → m ≤ length bs → cut lengths bs ≡ cut lengths (take m bs)
cut-take lengths bs m h l =
    ap (cut lengths) (sym (take-append-drop m bs)) ∙ cut-front lengths (take m bs) (drop m bs) (let e = length-take-le m bs l in omega arith)

pub take-plus : (a b : ℕ) (xs : List ℕ) → take a xs ++ take b (drop a xs) ≡ take (a + b) xs
take-plus a b xs =
    let p = take-append-drop a (take (a + b) xs) in
    let q = take-take a (a + b) xs (omega arith) in
    let r = drop-take a b xs in
    cc

pub joined-cut : (lengths bs : List ℕ) → sum lengths ≤ length bs → joined_pieces (cut lengths bs) ≡ take (sum lengths) bs
joined-cut [] bs h = refl
joined-cut (n ∷ ns) bs h =
    let s = sum-cons n ns in
    let e : joined_pieces (cut ns (drop n bs)) ≡ take (sum ns) (drop n bs) = joined-cut ns (drop n bs) (simp length-drop (omega arith)) in
    ap (λ x. take n bs ++ x) e ∙ take-plus n (sum ns) bs ∙ ap (λ m. take m bs) (sym s)

pub take-cut : (lengths bs : List ℕ) (t : ℕ) → take t (cut lengths bs) ≡ cut (take t lengths) bs
take-cut [] bs zero = refl
take-cut [] bs (suc t) = refl
take-cut (n ∷ ns) bs zero = refl
take-cut (n ∷ ns) bs (suc t) = ap (λ ps. take n bs ∷ ps) (take-cut ns (drop n bs) t)

pub there_cut : (lengths bs : List ℕ) → sum lengths ≤ length bs → all_there (cut lengths bs) ≡ all_positive lengths
there_cut [] bs h = refl
there_cut (n ∷ ns) bs h =
    let s = sum-cons n ns in
    let l : length (take n bs) ≡ n = length-take-le n bs (omega arith) in
    let e : all_there (cut ns (drop n bs)) ≡ all_positive ns = there_cut ns (drop n bs) (simp length-drop (omega arith)) in
    rw (l, e)

pub length-piece : (lengths bs : List ℕ) (k : ℕ) → sum lengths ≤ length bs → length (get_or (cut lengths bs) k []) ≡ get_or lengths k 0
length-piece [] bs k h = refl
length-piece (n ∷ ns) bs zero h = let s = sum-cons n ns in length-take-le n bs (omega arith)
length-piece (n ∷ ns) bs (suc k) h = let s = sum-cons n ns in length-piece ns (drop n bs) k (simp length-drop (omega arith))

pub sum-set : (lengths : List ℕ) (k n : ℕ) → k < length lengths → get_or lengths k 0 ≡ 0 → sum (set lengths k n) ≡ sum lengths + n
sum-set lengths k n h z = omega (arith, sum_by-set (λ x. x) lengths k n 0 h)

pub length-spliced : (at : ℕ) (front piece : List ℕ) → length (spliced at front piece) ≡ length front + length piece
length-spliced at front piece =
    let a = length-append (take at front) (piece ++ drop at front) in
    let b = length-append piece (drop at front) in
    let c = ap length (take-append-drop at front) in
    let d = length-append (take at front) (drop at front) in
    omega arith

-- behind n bytes
pub spliced-behind : (n s : ℕ) (front piece : List ℕ) → spliced (n + s) front piece ≡ take n front ++ spliced s (drop n front) piece
spliced-behind n s front piece =
    let p = take-plus n s front in
    let q = drop-drop s n front in
    let r = append_assoc (take n front) (take s (drop n front)) (piece ++ drop s (drop n front)) in
    cc

pub splice_cut : (lengths front piece t : List ℕ) (k : ℕ) → k < length lengths → get_or lengths k 0 ≡ 0 → sum lengths ≡ length front
    → cut (set lengths k (length piece)) (spliced (sum (take k lengths)) front piece ++ t) ≡ set (cut lengths front) k piece
splice_cut [] front piece t k h z l = absurd (omega arith)
splice_cut (n ∷ ns) front piece t zero h z l =
    let s = sum-cons n ns in
    let a = append_assoc piece front t in
    let b : take (length piece) (piece ++ (front ++ t)) ≡ piece = take_at piece (front ++ t) (length piece) refl in
    let c : drop (length piece) (piece ++ (front ++ t)) ≡ front ++ t = drop_at piece (front ++ t) (length piece) refl in
    let d : cut ns (front ++ t) ≡ cut ns front = cut-front ns front t (omega arith) in
    let f : drop n front ≡ front = rw z in
    rw (a, b, c, d, f)
splice_cut (n ∷ ns) front piece t (suc k) h z l =
    let s = sum (take k ns) in
    let whole = sum-cons n ns in
    let at = sum-cons n (take k ns) in
    let e = spliced-behind n s front piece in
    let m : length (take n front) ≡ n = length-take-le n front (omega arith) in
    let a = append_assoc (take n front) (spliced s (drop n front) piece) t in
    let b : take n (take n front ++ (spliced s (drop n front) piece ++ t)) ≡ take n front = take_at (take n front) (spliced s (drop n front) piece ++ t) n m in
    let c : drop n (take n front ++ (spliced s (drop n front) piece ++ t)) ≡ spliced s (drop n front) piece ++ t = drop_at (take n front) (spliced s (drop n front) piece ++ t) n m in
    let i = splice_cut ns (drop n front) piece t k (omega arith) z (simp length-drop (omega arith)) in
    rw (at, e, a, b, c, i)

-- the pieces with a new one, joined and counted
module _ (lengths front piece : List ℕ) (k : ℕ) (h : k < length lengths) (z : get_or lengths k 0 ≡ 0) (l : sum lengths ≡ length front) where
  splice_all : set (cut lengths front) k piece ≡ cut (set lengths k (length piece)) (spliced (sum (take k lengths)) front piece)
  splice_all =
      sym (splice_cut lengths front piece [] k h z l) ∙ ap (cut (set lengths k (length piece))) (append-nil (spliced (sum (take k lengths)) front piece))

  sum-spliced : sum (set lengths k (length piece)) ≡ length (spliced (sum (take k lengths)) front piece)
  sum-spliced =
      let s = sum-set lengths k (length piece) h z in
      let m = length-spliced (sum (take k lengths)) front piece in
      omega arith

  pub splice_joined : joined_pieces (set (cut lengths front) k piece) ≡ spliced (sum (take k lengths)) front piece
  splice_joined =
      let w = spliced (sum (take k lengths)) front piece in
      let s = sum-spliced in
      ap joined_pieces splice_all ∙ joined-cut (set lengths k (length piece)) w (omega arith) ∙ take_all (sum (set lengths k (length piece))) w (omega arith)

  pub splice_there : (t : ℕ) → all_there (take t (set (cut lengths front) k piece)) ≡ all_positive (take t (set lengths k (length piece)))
  splice_there t =
      let w = spliced (sum (take k lengths)) front piece in
      let s = sum-spliced in
      let f = sum_by-take-le (λ x. x) (set lengths k (length piece)) t in
      ap (λ ps. all_there (take t ps)) splice_all ∙ ap all_there (take-cut (set lengths k (length piece)) w t) ∙ there_cut (take t (set lengths k (length piece))) w (omega arith)

-- three writes one behind another
pub splice_writes : (out m₁ m₂ m₃ front piece a b : List ℕ) (at : ℕ) → at ≤ length front → length front + length piece ≤ length out
    → a ≡ take at front → b ≡ drop at front
    → m₁ ≡ written_at out 0 a → m₂ ≡ written_at m₁ at piece → m₃ ≡ written_at m₂ (at + length piece) b
    → m₃ ≡ written_at out 0 (spliced at front piece)
splice_writes out m₁ m₂ m₃ front piece a b at h room ea eb e₁ e₂ e₃ =
    let la : length a ≡ at = ap length ea ∙ length-take-le at front h in
    let z : 0 + length a ≡ at = omega arith in
    let n₂ : m₂ ≡ written_at out 0 (a ++ piece) =
    e₂ ∙ ap (λ (l : List ℕ). written_at l at piece) e₁ ∙ ap (λ (i : ℕ). written_at (written_at out 0 a) i piece) (sym z) ∙ written_behind out a piece 0 (omega arith) in
    let y : 0 + length (a ++ piece) ≡ at + length piece = let s = length-append a piece in omega arith in
    let n₃ : m₃ ≡ written_at out 0 ((a ++ piece) ++ b) =
    e₃ ∙ ap (λ (l : List ℕ). written_at l (at + length piece) b) n₂ ∙ ap (λ (i : ℕ). written_at (written_at out 0 (a ++ piece)) i b) (sym y)
    ∙ written_behind out (a ++ piece) b 0 (omega arith) in
    let w : (a ++ piece) ++ b ≡ spliced at front piece = append_assoc a piece b ∙ ap (λ x. x ++ (piece ++ b)) ea ∙ ap (λ x. take at front ++ (piece ++ x)) eb in
    n₃ ∙ ap (written_at out 0) w
