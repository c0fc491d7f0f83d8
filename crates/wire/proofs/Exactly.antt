-- Splitting gives the messages of which a body is made, and no others.
use Rattle.std.proofs.Common.{◌≡◌, ℕ, zero, suc, ◌+◌, ◌*◌, ◌<◌, ◌≤◌, Bool, true, false, cond, ◌||◌, eqb, ltb, List, [], ◌∷◌, ◌++◌, map, length, sum, get_or, take, drop, Some, None, Ok, Err, Option, sym, refl, ap, ◌∙◌, subst, append_assoc, arith, length-append, length-drop, take-add}
use Rattle.std.proofs.lemmas.List.{take_at, drop_at, take-append-drop, length-take-le, get_or-drop, get_or-map}
use Rattle.std.proofs.lemmas.List.Sums.{sum_by-cons}
use Rattle.std.proofs.lemmas.Bool.Decides.{nat_tests}
use Rattle.base.specs.Areas.{Bytes}
use Rattle.base.specs.Fields.{be, be_bytes}
use Rattle.base.proofs.Fields.{be-be_bytes, be_bytes-be, length-be_bytes}
use Rattle.base.specs.declared.refusal.Cause.TheVariants.{MessageLengths}
use Rattle.wire.specs.Splitting.{lengths_of, cut, misfit, cut_unless, split_of, table, joined, Tells, Exact}

-- messages, and lengths, that a body can have
abbrev Lengths : List ℕ → Type 0
Lengths ns = (k : ℕ) → k < length ns → (1 ≤ get_or ns k 0) × (get_or ns k 0 ≤ 4092)

abbrev Sizes : List (List ℕ) → Type 0
Sizes ms = (k : ℕ) → k < length ms → (1 ≤ length (get_or ms k [])) × (length (get_or ms k []) ≤ 4092)

sizes-of : (count : ℕ) (body : List ℕ) (ms : List (List ℕ)) → Tells count body ms → Sizes ms
sizes-of count body ms t k h = t.sizes k (omega (arith, t.number))

-- the lengths of messages, from their table
lengths-of : (ms : List (List ℕ)) (rest : List ℕ) → Sizes ms
    → lengths_of (length ms) (table ms ++ rest) ≡ map length ms
lengths-of [] rest h = refl
lengths-of (m ∷ ms) rest h =
    let n = length m in
    let small : n ≤ 4092 = (h 0 (omega arith)).1 in
    let whole : (be_bytes 4 n ++ table ms) ++ rest ≡ be_bytes 4 n ++ (table ms ++ rest) = append_assoc (be_bytes 4 n) (table ms) rest in
    let first : be 4 ((be_bytes 4 n ++ table ms) ++ rest) 0 ≡ n = ap (λ l. be 4 l 0) whole ∙ be-be_bytes 4 n (table ms ++ rest) (omega arith) in
    let more : drop 4 ((be_bytes 4 n ++ table ms) ++ rest) ≡ table ms ++ rest = ap (drop 4) whole ∙ drop_at (be_bytes 4 n) (table ms ++ rest) 4 (length-be_bytes 4 n) in
    ap (λ x. x ∷ lengths_of (length ms) (drop 4 ((be_bytes 4 n ++ table ms) ++ rest))) first
    ∙ ap (λ l. n ∷ lengths_of (length ms) l) more
    ∙ ap (λ l. n ∷ l) (lengths-of ms rest (λ k l. h (suc k) (omega arith)))

pub length-table : (ms : List (List ℕ)) → length (table ms) ≡ 4 * length ms
length-table [] = refl
length-table (m ∷ ms) = omega (arith, length-append (be_bytes 4 (length m)) (table ms), length-be_bytes 4 (length m), length-table ms)

end_test : (at size i : ℕ) → at ≡ size → cond (eqb at size) None (Some i) ≡ None
end_test at size i e = grind (arith, nat_tests)

fit_test : (n at size : ℕ) (x y : Option ℕ) → 1 ≤ n → n ≤ 4092 → at + n ≤ size → cond (eqb n 0 || (ltb 4092 n || ltb size (at + n))) x y ≡ y
fit_test n at size x y h k l = grind (arith, nat_tests)

-- messages that fill their place
fitting : (ms : List (List ℕ)) (size i at : ℕ) → Sizes ms
    → at + length (joined ms) ≡ size → misfit size i at (map length ms) ≡ None
fitting [] size i at h e = end_test at size i (omega arith)
fitting (m ∷ ms) size i at h e =
    let n = length m in
    let l = length-append m (joined ms) in
    fit_test n at size (Some (i + 1)) (misfit size (i + 1) (at + n) (map length ms)) (h 0 (omega arith)).0 (h 0 (omega arith)).1 (omega arith)
    ∙ fitting ms size (i + 1) (at + n) (λ k l. h (suc k) (omega arith)) (omega arith)

cut-joined : (ms : List (List ℕ)) → cut (map length ms) (joined ms) ≡ ms
cut-joined [] = refl
cut-joined (m ∷ ms) =
    ap (λ x. x ∷ cut (map length ms) (drop (length m) (m ++ joined ms))) (take_at m (joined ms) (length m) refl)
    ∙ ap (λ l. m ∷ cut (map length ms) l) (drop_at m (joined ms) (length m) refl)
    ∙ ap (λ l. m ∷ l) (cut-joined ms)

long_test : (l n : ℕ) (x y : Option ℕ) → n ≤ l → cond (ltb l n) x y ≡ y
long_test l n x y h = grind (arith, nat_tests)

splits : (ms : List (List ℕ)) → Sizes ms
    → split_of (length ms) (table ms ++ joined ms) ≡ Ok ms
unfolding split_of
splits ms h =
    let n = length ms in
    let body = table ms ++ joined ms in
    let t = length-table ms in
    let l = length-append (table ms) (joined ms) in
    let ls : lengths_of n body ≡ map length ms = lengths-of ms (joined ms) h in
    let none : cond (ltb (length body) (4 * n)) (Some 1) (misfit (length body) 0 (4 * n) (lengths_of n body)) ≡ None =
    long_test (length body) (4 * n) (Some 1) (misfit (length body) 0 (4 * n) (lengths_of n body)) (omega arith)
    ∙ ap (misfit (length body) 0 (4 * n)) ls ∙ fitting ms (length body) 0 (4 * n) h (omega arith) in
    let messages : cut (lengths_of n body) (drop (4 * n) body) ≡ ms =
    ap (λ l. cut l (drop (4 * n) body)) ls ∙ ap (cut (map length ms)) (drop_at (table ms) (joined ms) (4 * n) t) ∙ cut-joined ms in
    ap (λ o. cut_unless o (cut (lengths_of n body) (drop (4 * n) body))) none ∙ ap (λ l. Ok l) messages

pub every : (count : ℕ) (body : List ℕ) (ms : List (List ℕ)) → Tells count body ms → split_of count body ≡ Ok ms
every count body ms t =
    ap (λ n. split_of n body) (sym t.number) ∙ ap (split_of (length ms)) (sym t.whole) ∙ splits ms (sizes-of count body ms t)

sum-cons : (n : ℕ) (ns : List ℕ) → sum (n ∷ ns) ≡ n + sum ns
sum-cons n ns = sum_by-cons (λ x. x) n ns

answered : (o : Option ℕ) (x ms : List (List ℕ)) → cut_unless o x ≡ Ok ms → (o ≡ None) × (x ≡ ms)
answered None x ms e = (refl, cc)
answered (Some i) x ms e = absurd (let z : ◌≡◌ {A = ℕ} 0 1 = cc in omega arith)

-- a test that refuses nothing
passed : (b : Bool) (i : ℕ) (o : Option ℕ) → cond b (Some i) o ≡ None → (b ≡ false) × (o ≡ None)
passed true i o e = absurd (let z : ◌≡◌ {A = ℕ} 0 1 = cc in omega arith)
passed false i o e = (refl, e)

at_end : (at size i : ℕ) → cond (eqb at size) None (Some i) ≡ None → at ≡ size
at_end at size i e = grind (arith, nat_tests)

long_enough : (l n : ℕ) → ltb l n ≡ false → n ≤ l
long_enough l n e = grind (arith, nat_tests)

in_place : (n at size : ℕ) → (eqb n 0 || (ltb 4092 n || ltb size (at + n))) ≡ false → (1 ≤ n) × (n ≤ 4092)
in_place n at size e = (grind (arith, nat_tests), grind (arith, nat_tests))

sized-at : (n : ℕ) (ns : List ℕ) → (1 ≤ n) × (n ≤ 4092) → Lengths ns → Lengths (n ∷ ns)
sized-at n ns first more zero h = first
sized-at n ns first more (suc k) h = more k (omega arith)

-- lengths that fill their place
filling : (ns : List ℕ) (size i at : ℕ) → misfit size i at ns ≡ None
    → (at + sum ns ≡ size) × Lengths ns
filling [] size i at e = (omega (arith, at_end at size i e), λ k h. absurd (omega arith))
filling (n ∷ ns) size i at e =
    let p = passed (eqb n 0 || (ltb 4092 n || ltb size (at + n))) (i + 1) (misfit size (i + 1) (at + n) ns) e in
    let rest = filling ns size (i + 1) (at + n) p.1 in
    (omega (arith, rest.0, sum-cons n ns), sized-at n ns (in_place n at size p.0) rest.1)

length-lengths : (n : ℕ) (bytes : List ℕ) → length (lengths_of n bytes) ≡ n
length-lengths zero bytes = refl
length-lengths (suc n) bytes = ap suc (length-lengths n (drop 4 bytes))

pub length_cut : (ns bytes : List ℕ) → length (cut ns bytes) ≡ length ns
length_cut [] bytes = refl
length_cut (n ∷ ns) bytes = ap suc (length_cut ns (drop n bytes))

-- the lengths of the messages that bytes are cut into
pub lengths_of_cut : (ns bytes : List ℕ) → sum ns ≤ length bytes → map length (cut ns bytes) ≡ ns
lengths_of_cut [] bytes e = refl
lengths_of_cut (n ∷ ns) bytes e =
    ap (λ k. k ∷ map length (cut ns (drop n bytes))) (length-take-le n bytes (omega (arith, sum-cons n ns)))
    ∙ ap (λ l. n ∷ l) (lengths_of_cut ns (drop n bytes) (omega (arith, length-drop n bytes, sum-cons n ns)))

length-at_cut : (ns bytes : List ℕ) (k : ℕ) → sum ns ≤ length bytes → k < length ns → length (get_or (cut ns bytes) k []) ≡ get_or ns k 0
length-at_cut ns bytes k h l =
    sym (get_or-map length (cut ns bytes) k [] 0 (omega (arith, length_cut ns bytes))) ∙ ap (λ xs. get_or xs k 0) (lengths_of_cut ns bytes h)

pub joined-cut : (ns bytes : List ℕ) → sum ns ≡ length bytes → joined (cut ns bytes) ≡ bytes
joined-cut [] [] e = refl
joined-cut [] (b ∷ bs) e = absurd (omega arith)
joined-cut (n ∷ ns) bytes e =
    ap (λ l. take n bytes ++ l) (joined-cut ns (drop n bytes) (omega (arith, length-drop n bytes, sum-cons n ns))) ∙ take-append-drop n bytes

pub bytes_drop : (n : ℕ) (bytes : List ℕ) → Bytes bytes → Bytes (drop n bytes)
bytes_drop n bytes b =
    record { below = λ k h. let l : n + k < length bytes = omega (arith, length-drop n bytes) in rw get_or-drop (b.below (n + k) l) }

table-cut : (n : ℕ) (body bytes : List ℕ) → 4 * n ≤ length body → Bytes body → sum (lengths_of n body) ≤ length bytes
    → table (cut (lengths_of n body) bytes) ≡ take (4 * n) body
table-cut zero body bytes h b l = refl
table-cut (suc n) body bytes h b l =
    let x = be 4 body 0 in
    let size : 4 + 4 * n ≡ 4 * suc n = omega arith in
    let more = sum-cons x (lengths_of n (drop 4 body)) in
    ap (λ k. be_bytes 4 k ++ table (cut (lengths_of n (drop 4 body)) (drop x bytes))) (length-take-le x bytes (omega (arith, more)))
    ∙ ap (λ l. l ++ table (cut (lengths_of n (drop 4 body)) (drop x bytes))) (be_bytes-be 4 body (omega arith) b)
    ∙ ap (λ l. take 4 body ++ l) (table-cut n (drop 4 body) (drop x bytes) (omega (arith, length-drop 4 body)) (bytes_drop 4 body b) (omega (arith, length-drop x bytes, more)))
    ∙ sym (take-add 4 (4 * n) body) ∙ ap (λ k. take k body) size

pub only : (count : ℕ) (body : List ℕ) (ms : List (List ℕ)) → Bytes body → split_of count body ≡ Ok ms → Tells count body ms
unfolding split_of
only count body ms b e =
    let ns = lengths_of count body in
    let bytes = drop (4 * count) body in
    let a = answered (cond (ltb (length body) (4 * count)) (Some 1) (misfit (length body) 0 (4 * count) ns)) (cut ns bytes) ms e in
    let p = passed (ltb (length body) (4 * count)) 1 (misfit (length body) 0 (4 * count) ns) a.0 in
    let long : 4 * count ≤ length body = long_enough (length body) (4 * count) p.0 in
    let f = filling ns (length body) 0 (4 * count) p.1 in
    let n : length ns ≡ count = length-lengths count body in
    let all : sum ns ≡ length bytes = omega (arith, length-drop (4 * count) body, f.0) in
    let made : Tells count body (cut ns bytes) =
    record {
      number = length_cut ns bytes ∙ n;
      sizes =
          λ k h.
          let same = length-at_cut ns bytes k (omega arith) (omega arith) in
          let size = f.1 k (omega arith) in
          (omega (arith, same, size.0), omega (arith, same, size.1));
      whole =
          ap (λ l. l ++ joined (cut ns bytes)) (table-cut count body bytes long b (omega arith))
          ∙ ap (λ l. take (4 * count) body ++ l) (joined-cut ns bytes all)
          ∙ take-append-drop (4 * count) body;
    } in
    subst (Tells count body) a.1 made

-- a body has room for its lengths
pub table_fits_lem : (count : ℕ) (body : List ℕ) (ms : List (List ℕ)) → Tells count body ms → 4 * length ms ≤ length body
table_fits_lem count body ms t = omega (arith, length-table ms, length-append (table ms) (joined ms), ap length t.whole)

pub exact : (count : ℕ) (body : List ℕ) → Bytes body → Exact count body
exact count body b = record { only = λ ms e. only count body ms b e; every = every count body }

-- a split with a first misfit, and one with none
pub split_misfit : (count i : ℕ) (body : List ℕ) → 4 * count ≤ length body → misfit (length body) 0 (4 * count) (lengths_of count body) ≡ Some i
    → split_of count body ≡ Err (record { cause = MessageLengths; value = i })
unfolding split_of
split_misfit count i body h e = ap (λ o. cut_unless o (cut (lengths_of count body) (drop (4 * count) body))) (long_test (length body) (4 * count) (Some 1) _ h ∙ e)

pub split_fits : (count : ℕ) (body : List ℕ) → 4 * count ≤ length body → misfit (length body) 0 (4 * count) (lengths_of count body) ≡ None
    → split_of count body ≡ Ok (cut (lengths_of count body) (drop (4 * count) body))
unfolding split_of
split_fits count body h e = ap (λ o. cut_unless o (cut (lengths_of count body) (drop (4 * count) body))) (long_test (length body) (4 * count) (Some 1) _ h ∙ e)

pub sum_lengths : (count : ℕ) (body : List ℕ) → 4 * count ≤ length body → misfit (length body) 0 (4 * count) (lengths_of count body) ≡ None
    → sum (lengths_of count body) ≡ length (drop (4 * count) body)
sum_lengths count body h e = omega (arith, length-drop (4 * count) body, (filling (lengths_of count body) (length body) 0 (4 * count) e).0)
