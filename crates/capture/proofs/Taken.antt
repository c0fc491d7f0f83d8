-- The records in bytes, one after another, and the bytes that they take.
use Rattle.std.proofs.Common.{◌≡◌, ℕ, zero, suc, ◌+◌, ◌<◌, ◌≤◌, Bool, true, false, cond, ◌&&◌, eqb, leb, List, [], ◌∷◌, length, get_or, take, drop, sum_by, refl, ap, ◌∙◌, sym, subst, add-one, arith, length-drop, length-take}
use Rattle.std.proofs.lemmas.Bool.Decides.{nat_tests}
use Rattle.std.proofs.lemmas.List.Sums.{sum_by-cons}
use Rattle.base.specs.Fields.{be}
use Rattle.std.specs.List.{concat}
use Rattle.page.specs.Text.{Sheet, wrote_all}
use Rattle.page.proofs.Pieces.{wrote_all-append}
use Rattle.capture.specs.Inspecting.{record_line, lines_from}
use Rattle.capture.proofs.Written.{both_long}
use Rattle.capture.specs.Records.{Record, datagram, judge, malformed, Found, nothing, last, one, datagram_in, judge_in, next_in, size_of, records_then, records_from, records_of}

-- what is found takes no more than n bytes
abbrev TakesUpTo : ℕ → Found → Type 0
TakesUpTo n nothing = Unit {0}
TakesUpTo n (last r) = size_of r ≤ n
TakesUpTo n (one r rest) = size_of r + length rest ≤ n

either : (n : ℕ) (b : Bool) (f g : Found) → (b ≡ true → TakesUpTo n f) → (b ≡ false → TakesUpTo n g) → TakesUpTo n (cond b f g)
either n true f g p q = p refl
either n false f g p q = q refl

datagram_takes : (xs : List ℕ) (n : ℕ) → (leb 3 (length xs) && leb (3 + n) (length xs)) ≡ true
    → 3 + length (take n (drop 3 xs)) + length (drop (3 + n) xs) ≤ length xs
datagram_takes xs n h =
    let fits : 3 + n ≤ length xs = grind (arith, nat_tests) in
    omega (arith, length-take n (drop 3 xs), length-drop 3 xs, length-drop (3 + n) xs)

judge_takes : (xs : List ℕ) → leb 9 (length xs) ≡ true → 9 + length (drop 9 xs) ≤ length xs
judge_takes xs h =
    let fits : 9 ≤ length xs = grind (arith, nat_tests) in
    omega (arith, length-drop 9 xs)

next_takes : (xs : List ℕ) → TakesUpTo (length xs) (next_in xs)
next_takes xs =
    let n = length xs in
    either n (eqb n 0) nothing _ (λ _. tt)
    (λ some. let first : 1 ≤ n = grind (arith, nat_tests) in
    either n (eqb (get_or xs 0 0) 1) (datagram_in xs) _
    (λ _. either n (leb 3 n && leb (3 + be 2 xs 1) n) _ (last malformed) (λ h. datagram_takes xs (be 2 xs 1) h) (λ _. first))
    (λ _. either n (eqb (get_or xs 0 0) 2) (judge_in xs) (last malformed)
    (λ _. either n (leb 9 n) _ (last malformed) (λ h. judge_takes xs h) (λ _. first))
    (λ _. first)))

pub one_byte : (r : Record) → 1 ≤ size_of r
one_byte (datagram d) = omega arith
one_byte (judge k) = omega arith
one_byte malformed = omega arith

same_then : (n : ℕ) (f : Found) (more same : List ℕ → List Record) → TakesUpTo n f → ((rest : List ℕ) → length rest < n → more rest ≡ same rest) → records_then more f ≡ records_then same f
same_then n nothing more same t h = refl
same_then n (last r) more same t h = refl
same_then n (one r rest) more same t h = ap (λ l. r ∷ l) (h rest (omega (arith, one_byte r)))

-- more turns than bytes change nothing
same_records : (m n : ℕ) (xs : List ℕ) → length xs < m → length xs < n → records_from m xs ≡ records_from n xs
unfolding records_from
same_records zero n xs h k = absurd (omega arith)
same_records (suc m) zero xs h k = absurd (omega arith)
same_records (suc m) (suc n) xs h k =
    same_then (length xs) (next_in xs) (records_from m) (records_from n) (next_takes xs) (λ rest l. same_records m n rest (omega arith) (omega arith))

none_left : records_of [] ≡ []
unfolding records_from
none_left = refl

module _ (xs : List ℕ) where
  records_of-next : (f : Found) → f ≡ next_in xs → records_of xs ≡ records_then records_of f
  unfolding records_from
  records_of-next f e =
      ap (λ n. records_from n xs) (add-one (length xs)) ∙ ap (records_then (records_from (length xs))) (sym e)
      ∙ same_then (length xs) f (records_from (length xs)) records_of (subst (TakesUpTo (length xs)) (sym e) (next_takes xs))
      (λ rest l. same_records (length xs) (length rest + 1) rest l (omega arith))

  pub records_more : (r : Record) (rest : List ℕ) → one r rest ≡ next_in xs → records_of xs ≡ r ∷ records_of rest
  records_more r rest e = records_of-next (one r rest) e

  pub records_last : (r : Record) → last r ≡ next_in xs → records_of xs ≡ r ∷ records_of []
  records_last r e = records_of-next (last r) e ∙ ap (λ l. r ∷ l) (sym none_left)

  pub records_end : nothing ≡ next_in xs → records_of xs ≡ []
  records_end e = records_of-next nothing e

size_more : (r : Record) (rs : List Record) (k n : ℕ) → size_of r + k ≤ n → sum_by size_of rs ≤ k → sum_by size_of (r ∷ rs) ≤ n
size_more r rs k n h l = omega (arith, sum_by-cons size_of r rs)

sizes_then : (n : ℕ) (f : Found) (more : List ℕ → List Record) → TakesUpTo n f → ((rest : List ℕ) → sum_by size_of (more rest) ≤ length rest) → sum_by size_of (records_then more f) ≤ n
sizes_then n nothing more t h = omega arith
sizes_then n (last r) more t h = omega arith
sizes_then n (one r rest) more t h = size_more r (more rest) (length rest) n t (h rest)

sizes_from : (m : ℕ) (xs : List ℕ) → sum_by size_of (records_from m xs) ≤ length xs
unfolding records_from
sizes_from zero xs = omega arith
sizes_from (suc m) xs = sizes_then (length xs) (next_in xs) (records_from m) (next_takes xs) (sizes_from m)

pub sizes_fit : (xs : List ℕ) → sum_by size_of (records_of xs) ≤ length xs
sizes_fit xs = sizes_from (length xs + 1) xs

-- a record more of those that are left
module _ (channel index : ℕ) (left more : List Record) (r : Record) (e : left ≡ r ∷ more) where
  pub line_more : (s t : Sheet) → t ≡ wrote_all s (record_line channel index r) → wrote_all t (lines_from channel (index + 1) more) ≡ wrote_all s (lines_from channel index left)
  line_more s t w =
      ap (λ u. wrote_all u (lines_from channel (index + 1) more)) w
      ∙ sym (wrote_all-append s (record_line channel index r) (lines_from channel (index + 1) more))
      ∙ ap (λ l. wrote_all s (lines_from channel index l)) (sym e)

  pub lengths_more : length (concat (lines_from channel index left)) ≡ length (concat (record_line channel index r)) + length (concat (lines_from channel (index + 1) more))
  lengths_more =
      ap (λ l. length (concat (lines_from channel index l))) e ∙ both_long (record_line channel index r) (lines_from channel (index + 1) more)

  pub sizes_more : sum_by size_of left ≡ size_of r + sum_by size_of more
  sizes_more = ap (sum_by size_of) e ∙ sum_by-cons size_of r more
