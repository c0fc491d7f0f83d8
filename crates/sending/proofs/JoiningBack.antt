-- The pieces of a packed body, joined, are the body.
use Rattle.std.proofs.Common.{◌≡◌, ℕ, zero, suc, ◌+◌, ◌-◌, ◌*◌, ◌/◌, ◌<◌, ◌≤◌, Bool, true, false, cond, List, ◌++◌, map, length, take, drop, sym, refl, ap, ◌∙◌, mul-add, arith}
use native.Mathlib.Nat.{lt-mul-div-succ}
use Rattle.std.specs.List.{range_with_len}
use Rattle.std.proofs.lemmas.List.{take-append-drop, drop-drop, drop_all}
use Rattle.base.specs.Areas.{Bytes}
use Rattle.parts.specs.Coders.{Inverse}
use Rattle.wire.specs.Joining.{joined_pieces}
use Rattle.sending.specs.Packing.{pieces_of}
use Rattle.sending.specs.Packing.{total_for, piece_at, coded_for}
use Rattle.wire.specs.Splitting.{split_of, joined}
use Rattle.wire.proofs.Exactly.{every}
use Rattle.sending.proofs.Pieces.{coded-length}
use Rattle.sending.specs.Joining.{opened_for, PiecesJoin}

-- the pieces behind the first `before`
joins_behind : (size n before : ℕ) (coded : List ℕ) → length coded ≤ size * (before + n)
    → joined (map (λ number. piece_at size number coded) (range_with_len (before + 1) n)) ≡ drop (size * before) coded
joins_behind size zero before coded h =
    let none : before + 0 ≡ before = omega arith in
    sym (drop_all (size * before) coded (omega (arith, ap (λ k. size * k) none)))
joins_behind size (suc n) before coded h =
    let one : before + 1 - 1 ≡ before = omega arith in
    let next : size * before + size ≡ size * (before + 1) = omega (arith, mul-add size before 1) in
    let long : before + suc n ≡ before + 1 + n = omega arith in
    let rest = joined (map (λ number. piece_at size number coded) (range_with_len (before + 1 + 1) n)) in
    ap (λ k. take size (drop (size * k) coded) ++ rest) one
    ∙ ap (λ l. take size (drop (size * before) coded) ++ l)
    (joins_behind size n (before + 1) coded (omega (arith, ap (λ k. size * k) long)) ∙ ap (λ k. drop k coded) (sym next) ∙ sym (drop-drop size (size * before) coded))
    ∙ take-append-drop size (drop (size * before) coded)

-- so many pieces reach the body's end
total_reaches : (size n : ℕ) → 0 < size → n ≤ size * total_for size n
total_reaches size n h = omega (arith, lt-mul-div-succ (n + size - 1) h, mul-add size ((n + size - 1) / size) 1)

pub pieces-join : (size : ℕ) (coded : List ℕ) → 0 < size → joined_pieces (pieces_of size (total_for size (length coded)) coded) ≡ coded
pieces-join size coded h =
    let total = total_for size (length coded) in
    let all : 0 + total ≡ total = omega arith in
    let none : size * 0 ≡ 0 = omega arith in
    joins_behind size total 0 coded (omega (arith, total_reaches size (length coded) h, ap (λ k. size * k) all)) ∙ ap (λ k. drop k coded) none

-- what was coded opens
coded-opens : (ready : ℕ → Bool) (opens seals : ℕ → List ℕ → List ℕ) (n : ℕ) (plain : List ℕ) → Inverse ready opens seals → Bytes plain
    → (b : Bool) → (b ≡ true → ready n ≡ true) → cond b (opens n (cond b (seals n plain) plain)) (cond b (seals n plain) plain) ≡ plain
coded-opens ready opens seals n plain law bytes true h = law.unseals n plain bytes (h refl)
coded-opens ready opens seals n plain law bytes false h = refl

pub pieces-join_back : PiecesJoin
pieces-join_back ready opens seals p plain law bytes some h =
    let size = p.piece_size in
    let body = coded_for seals p plain in
    let pieces = joined_pieces (pieces_of size (total_for size (length plain)) body) in
    let same : pieces ≡ body =
    ap (λ n. joined_pieces (pieces_of size (total_for size n) body)) (sym (coded-length seals p plain law.lengths)) ∙ pieces-join size body some in
    let opened : opened_for opens p pieces ≡ plain = ap (opened_for opens p) same ∙ coded-opens ready opens seals p.first plain law bytes p.sealed h in
    record { coded = same; opened = opened; split = λ messages t. ap (split_of p.count) opened ∙ every p.count plain messages t }
