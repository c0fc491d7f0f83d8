-- The pieces of a body.
use Rattle.std.proofs.Common.{◌≡◌, ℕ, ◌+◌, ◌-◌, ◌*◌, ◌<◌, ◌≤◌, Bool, true, false, cond, List, length, refl, mul-le-mul_left, arith, length-drop, length-take}
use native.Mathlib.Nat.{mul-div-le, mul-sub}
use Rattle.std.proofs.lemmas.Bool.{cond-true}
use Rattle.sending.specs.Packing.{is_cut, total_for, piece_at, piece_of, coded_for}
use Rattle.sending.specs.declared.packing.Packing.{Packing}

-- a piece starts within the body
pub starts_within : (size number n : ℕ) → 1 ≤ size → 1 ≤ number → number ≤ total_for size n → size * (number - 1) < n
starts_within size number n h i j =
    omega (arith, mul-sub size number 1, mul-le-mul_left size i, mul-le-mul_left size j, mul-div-le (n + size - 1) size)

pub piece-some : (size number : ℕ) (coded : List ℕ) → 1 ≤ size → 1 ≤ number → number ≤ total_for size (length coded) → 1 ≤ length (piece_at size number coded)
piece-some size number coded h i j =
    let s = starts_within size number (length coded) h i j in
    simp (length-take, length-drop) (omega arith)

-- bodies of one length have pieces of one length
pub piece-length : (p : Packing) (coded plain : List ℕ) → length coded ≡ length plain → length (piece_of p coded) ≡ length (piece_of p plain)
piece-length p coded plain e = lengths (is_cut p)
  where
    lengths : (b : Bool) → length (cond b (piece_at p.piece_size p.«fragment» coded) coded) ≡ length (cond b (piece_at p.piece_size p.«fragment» plain) plain)
    lengths true = simp (length-take, length-drop) (omega arith)
    lengths false = e

pub piece-of_cut : (p : Packing) (coded : List ℕ) → is_cut p ≡ true → piece_of p coded ≡ piece_at p.piece_size p.«fragment» coded
piece-of_cut p coded b = cond-true (is_cut p) (piece_at p.piece_size p.«fragment» coded) coded b

-- a coded body is as long as the plain one
pub coded-length : (seals : ℕ → List ℕ → List ℕ) (p : Packing) (plain : List ℕ) → ((n : ℕ) (b : List ℕ) → length (seals n b) ≡ length b)
    → length (coded_for seals p plain) ≡ length plain
coded-length seals p plain keeps = lengths p.sealed
  where
    lengths : (b : Bool) → length (cond b (seals p.first plain) plain) ≡ length plain
    lengths true = keeps p.first plain
    lengths false = refl
