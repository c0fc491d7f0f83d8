-- The loop over the lengths of a body.
use Rattle.std.proofs.Common.{◌≡◌, ◌≢◌, ℕ, zero, suc, ◌+◌, ◌*◌, ◌/◌, ◌<◌, ◌≤◌, Bool, true, false, cond, ◌||◌, eqb, ltb, List, [], ◌∷◌, map, length, sum, sum_by, get_or, take, drop, Some, None, Ok, Err, Option, sym, refl, ap, ◌∙◌, arith}
use Rattle.std.proofs.lemmas.Bool.Decides.{nat_tests}
use Rattle.std.specs.Simd.{first_chunks}
use Rattle.std.proofs.lemmas.List.Sums.{sum-map}
use Rattle.std.proofs.lemmas.List.{at_drop_more, at_drop_all, get_or-map, length-map, drop-take}
use Rattle.base.specs.Fields.{be}
use Rattle.base.specs.Limits.{max_message}
use Rattle.base.specs.declared.refusal.Cause.TheVariants.{MessageLengths}
use Rattle.base.proofs.Fields.{be-take}
use Rattle.wire.specs.Splitting.{lengths_of, cut, end_at, misfit, split_of}
use Rattle.wire.proofs.Exactly.{split_misfit, split_fits, sum_lengths}

-- the lengths from the index i on, where there is one more, and where there is none
pub lengths-more : {Y : Type 0} (F : List ℕ → Y) (fours : List (List ℕ)) (i n : ℕ) → i < length fours → n ≡ be 4 (get_or fours i []) 0
    → F (drop i (map (λ four. be 4 four 0) fours)) ≡ F (n ∷ drop (i + 1) (map (λ four. be 4 four 0) fours))
lengths-more F fours i n h e =
    let ls = map (λ four. be 4 four 0) fours in
    let long : i < length ls = omega (arith, length-map fours (λ four. be 4 four 0)) in
    let same : get_or ls i 0 ≡ n = get_or-map (λ four. be 4 four 0) fours i [] 0 h ∙ sym e in
    at_drop_more F ls i 0 long ∙ ap (λ m. F (m ∷ drop (i + 1) ls)) same

pub lengths-all : {Y : Type 0} (F : List ℕ → Y) (fours : List (List ℕ)) (i : ℕ) → length fours ≤ i
    → F (drop i (map (λ four. be 4 four 0) fours)) ≡ F []
lengths-all F fours i h =
    at_drop_all F (map (λ four. be 4 four 0) fours) i (omega (arith, length-map fours (λ four. be 4 four 0)))

lengths-chunked : (n : ℕ) (bytes : List ℕ) → map (λ four. be 4 four 0) (first_chunks 4 n bytes) ≡ lengths_of n bytes
lengths-chunked zero bytes = refl
lengths-chunked (suc n) bytes =
    ap (λ x. x ∷ map (λ four. be 4 four 0) (first_chunks 4 n (drop 4 bytes))) (be-take 4 4 bytes (omega arith))
    ∙ ap (λ l. be 4 bytes 0 ∷ l) (lengths-chunked n (drop 4 bytes))

lengths-take : (n : ℕ) (bytes : List ℕ) → lengths_of n (take (4 * n) bytes) ≡ lengths_of n bytes
lengths-take zero bytes = refl
lengths-take (suc n) bytes =
    let size : 4 * suc n ≡ 4 + 4 * n = omega arith in
    let rest : drop 4 (take (4 * suc n) bytes) ≡ take (4 * n) (drop 4 bytes) = ap (λ k. drop 4 (take k bytes)) size ∙ drop-take 4 (4 * n) bytes in
    ap (λ x. x ∷ lengths_of n (drop 4 (take (4 * suc n) bytes))) (be-take 4 (4 * suc n) bytes (omega arith))
    ∙ ap (λ l. be 4 bytes 0 ∷ lengths_of n l) rest
    ∙ ap (λ l. be 4 bytes 0 ∷ l) (lengths-take n (drop 4 bytes))

-- the table of a body, by fours
pub lengths-table : (body table : List ℕ) (fours : List (List ℕ)) (n : ℕ) → table ≡ take (4 * n) body → length table ≡ 4 * n
    → fours ≡ first_chunks 4 (length table / 4) table → map (λ four. be 4 four 0) fours ≡ lengths_of n body
lengths-table body table fours n t l e =
    let k : length table / 4 ≡ n = omega arith in
    ap (map (λ four. be 4 four 0)) (e ∙ ap (λ m. first_chunks 4 m table) k)
    ∙ lengths-chunked n table ∙ ap (lengths_of n) t ∙ lengths-take n body

goes_on : (b : Bool) (end next : ℕ) (x y : Option ℕ) → Some end ≡ cond b None (Some next) → (cond b x y ≡ y) × (end ≡ next)
goes_on true end next x y h = absurd (let z : ◌≡◌ {A = ℕ} 0 1 = cc in omega arith)
goes_on false end next x y h = (refl, cc)

stops : (b : Bool) (next : ℕ) (x y : Option ℕ) → None ≡ cond b None (Some next) → cond b x y ≡ x
stops true next x y h = refl
stops false next x y h = absurd (let z : ◌≡◌ {A = ℕ} 0 1 = cc in omega arith)

-- The lengths before the index i have their messages, and the next starts at `at`: the first misfit is the first from there on.
pub record Reaches (count : ℕ) (body : List ℕ) (fours : List (List ℕ)) (i at : ℕ) : Type 0 where
  pub table : map (λ four. be 4 four 0) fours ≡ lengths_of count body
  pub rest : misfit (length body) i at (drop i (map (λ four. be 4 four 0) fours)) ≡ misfit (length body) 0 (4 * count) (lengths_of count body)
  pub long : 4 * count ≤ length body
  pub inside : at ≤ length body

pub reaches_none : (count n : ℕ) (body table : List ℕ) (fours : List (List ℕ)) → n ≡ count → 4 * n ≤ length body → table ≡ take (4 * n) body
    → length table ≡ 4 * n → fours ≡ first_chunks 4 (length table / 4) table → Reaches count body fours 0 (4 * n)
reaches_none count n body table fours same h t l e =
    let all = lengths-table body table fours n t l e ∙ ap (λ k. lengths_of k body) same in
    record { table = all; rest = ap (misfit (length body) 0 (4 * n)) all ∙ ap (λ k. misfit (length body) 0 (4 * k) (lengths_of count body)) same; long = omega arith; inside = h }

module _ (count : ℕ) (body : List ℕ) (fours : List (List ℕ)) (i at : ℕ) (r : Reaches count body fours i at) where
  abbrev n : ℕ
  n = be 4 (get_or fours i []) 0

  abbrev more : List ℕ
  more = drop (i + 1) (map (λ four. be 4 four 0) fours)

  -- the next message has its place
  pub reaches_more : (end : ℕ) → i < length fours → Some end ≡ end_at (length body) at (be 4 (get_or fours i []) 0) → end ≤ length body
      → Reaches count body fours (i + 1) end
  reaches_more end h e inside =
      let on = goes_on (eqb n 0 || (ltb max_message n || ltb (length body) (at + n))) end (at + n) (Some (i + 1)) (misfit (length body) (i + 1) (at + n) more) e in
      let next : misfit (length body) i at (drop i (map (λ four. be 4 four 0) fours)) ≡ misfit (length body) (i + 1) end more =
      lengths-more (misfit (length body) i at) fours i n h refl ∙ on.0 ∙ ap (λ k. misfit (length body) (i + 1) k more) (sym on.1) in
      record { table = r.table; rest = sym next ∙ r.rest; long = r.long; inside = inside }

  -- it has none
  pub split_here : i < length fours → None ≡ end_at (length body) at (be 4 (get_or fours i []) 0)
      → split_of count body ≡ Err (record { cause = MessageLengths; value = i + 1 })
  split_here h e =
      split_misfit count (i + 1) body r.long
      (sym r.rest ∙ lengths-more (misfit (length body) i at) fours i n h refl
      ∙ stops (eqb n 0 || (ltb max_message n || ltb (length body) (at + n))) (at + n) (Some (i + 1)) (misfit (length body) (i + 1) (at + n) more) e)

  -- no message is left, but bytes
  pub split_behind : i ≡ length fours → at ≢ length body → split_of count body ≡ Err (record { cause = MessageLengths; value = i })
  split_behind h e =
      split_misfit count i body r.long (sym r.rest ∙ lengths-all (misfit (length body) i at) fours i (omega arith) ∙ grind (arith, nat_tests))

  -- nothing is left
  none_left : i ≡ length fours → at ≡ length body → misfit (length body) 0 (4 * count) (lengths_of count body) ≡ None
  none_left h e = sym r.rest ∙ lengths-all (misfit (length body) i at) fours i (omega arith) ∙ grind (arith, nat_tests)

  pub split_whole : i ≡ length fours → at ≡ length body → split_of count body ≡ Ok (cut (map (λ four. be 4 four 0) fours) (drop (4 * count) body))
  split_whole h e = split_fits count body r.long (none_left h e) ∙ ap (λ ns. Ok (cut ns (drop (4 * count) body))) (sym r.table)

  pub sum_whole : i ≡ length fours → at ≡ length body → sum_by (λ four. be 4 four 0) fours ≡ length (drop (4 * count) body)
  sum_whole h e = sym (sum-map (λ four. be 4 four 0) fours) ∙ ap sum r.table ∙ sum_lengths count body r.long (none_left h e)
