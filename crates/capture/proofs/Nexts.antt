-- The parts of a capture that the reader cuts off.
use Rattle.std.proofs.Common.{◌≡◌, ℕ, ◌+◌, ◌-◌, ◌*◌, ◌<◌, ◌≤◌, Bool, true, false, cond, ◌&&◌, eqb, leb, List, [], ◌∷◌, length, get_or, take, drop, Some, None, Option, sym, ap, ◌∙◌, arith}
use Rattle.std.proofs.lemmas.List.{take_rest, drop-drop}
use Rattle.std.proofs.lemmas.Bool.Decides.{nat_tests}
use lib.Pointwise.{pointwise}
use Rattle.base.specs.Fields.{be}
use Rattle.base.proofs.Fields.{be-take, be-drop}
use Rattle.capture.specs.Records.{Found, nothing, last, one, datagram, malformed, datagram_in, judge_in, next_in, Contents, is_marked, contents_of}

-- the tests of `next_in`, at numbers
pub first-test : (l a : ℕ) (f g h : Found) → 0 < l → a ≡ 1 → cond (eqb l 0) f (cond (eqb a 1) g h) ≡ g
first-test l a f g h p q = grind (arith, nat_tests)

pub second_test : (l a : ℕ) (f g h k : Found) → 0 < l → a ≡ 2 → cond (eqb l 0) f (cond (eqb a 1) g (cond (eqb a 2) h k)) ≡ h
second_test l a f g h k p q = grind (arith, nat_tests)

pub fits-test : (m l : ℕ) (f g : Found) → m ≤ l → cond (leb m l) f g ≡ f
fits-test m l f g h = grind (arith, nat_tests)

pub both_test : (m n l : ℕ) (f g : Found) → m ≤ l → n ≤ l → cond (leb m l && leb n l) f g ≡ f
both_test m n l f g h k = grind (arith, nat_tests)

-- a field that was cut out
pub field-cut : (n at : ℕ) (xs part : List ℕ) → part ≡ take n (drop at xs) → be n part 0 ≡ be n xs at
field-cut n at xs part e = ap (λ p. be n p 0) e ∙ be-take n n (drop at xs) (omega arith) ∙ be-drop n at xs

-- a datagram that was cut off: its size, then its bytes
pub datagram-cut : (xs size body d rest : List ℕ) (n : ℕ) → 1 ≤ length xs → get_or xs 0 0 ≡ 1 → size ≡ take 2 (take (length xs - 1) (drop 1 xs))
    → body ≡ drop 2 (take (length xs - 1) (drop 1 xs)) → length body + 2 ≡ length xs - 1 → n ≡ be 2 size 0
    → n ≤ length body → d ≡ take n body → rest ≡ drop n body → one (datagram d) rest ≡ next_in xs
datagram-cut xs size body d rest n l e es eb lb en fit ed er =
    let front : body ≡ drop 3 xs = eb ∙ ap (drop 2) (take_rest xs 1) ∙ drop-drop 2 1 xs in
    let same : be 2 xs 1 ≡ n = sym (en ∙ field-cut 2 1 xs size (es ∙ ap (take 2) (take_rest xs 1))) in
    let back : rest ≡ drop (3 + be 2 xs 1) xs = er ∙ ap (drop n) front ∙ drop-drop n 3 xs ∙ ap (λ k. drop (3 + k) xs) (sym same) in
    let bytes : d ≡ take (be 2 xs 1) (drop 3 xs) = ed ∙ ap (take n) front ∙ ap (λ k. take k (drop 3 xs)) (sym same) in
    ap (λ b. one (datagram b) rest) bytes ∙ ap (one (datagram (take (be 2 xs 1) (drop 3 xs)))) back
    ∙ sym (first-test (length xs) (get_or xs 0 0) nothing (datagram_in xs) (cond (eqb (get_or xs 0 0) 2) (judge_in xs) (last malformed)) (omega arith) e
    ∙ both_test 3 (3 + be 2 xs 1) (length xs) (one (datagram (take (be 2 xs 1) (drop 3 xs))) (drop (3 + be 2 xs 1) xs)) (last malformed) (omega arith) (omega (arith, same)))

-- the mark and the version of a capture are its first five bytes
mark_tests : (a b d e f : ℕ)
    → (eqb a 77 && (eqb b 68 && (eqb d 67 && (eqb e 0 && (eqb f 1 && true))))) ≡ (eqb a 77 && (eqb b 68 && (eqb d 67 && eqb ((0 + e) * 256 + f) 1)))
mark_tests a b d e f = grind (arith, nat_tests)

abbrev pub mark : List ℕ
mark = 77 ∷ (68 ∷ (67 ∷ (0 ∷ (1 ∷ []))))

marked : (xs : List ℕ) → 5 ≤ length xs → pointwise eqb (take 5 xs) mark ≡ is_marked xs
marked [] l = absurd (omega arith)
marked (a ∷ []) l = absurd (omega arith)
marked (a ∷ (b ∷ [])) l = absurd (omega arith)
marked (a ∷ (b ∷ (d ∷ []))) l = absurd (omega arith)
marked (a ∷ (b ∷ (d ∷ (e ∷ [])))) l = absurd (omega arith)
marked (a ∷ (b ∷ (d ∷ (e ∷ (f ∷ xs))))) l = mark_tests a b d e f

other-header : (l : ℕ) (b : Bool) (x : Option Contents) → (15 ≤ l → b ≡ false) → None ≡ cond (leb l 65536 && (leb 15 l && b)) x None
other-header l b x h = grind (arith, nat_tests)

pub other_mark : (xs : List ℕ) → pointwise eqb (take 5 xs) mark ≡ false → None ≡ contents_of xs
other_mark xs e =
    other-header (length xs) (is_marked xs) (Some (record { channel = be 2 xs 5; start = be 8 xs 7; records = drop 15 xs }))
    (λ l. sym (marked xs (omega arith)) ∙ e)

pub header-test : (l : ℕ) (b : Bool) (x y : Option Contents) → l ≤ 65536 → 15 ≤ l → b ≡ true → cond (leb l 65536 && (leb 15 l && b)) x y ≡ x
header-test l b x y h k e = grind (arith, nat_tests)

pub header-cut : (xs rest channel more start records : List ℕ) (n s : ℕ) → length xs ≤ 65536 → pointwise eqb (take 5 xs) mark ≡ true → rest ≡ drop 5 xs
    → length rest + 5 ≡ length xs → channel ≡ take 2 rest → more ≡ drop 2 rest → length more + 2 ≡ length rest → start ≡ take 8 more → records ≡ drop 8 more
    → length records + 8 ≡ length more → n ≡ be 2 channel 0 → s ≡ be 8 start 0 → Some (record { channel = n; start = s; records = records }) ≡ contents_of xs
header-cut xs rest channel more start records n s l m er lr ec em lm es eb lb en is =
    let behind : more ≡ drop 7 xs = em ∙ ap (drop 2) er ∙ drop-drop 2 5 xs in
    let channels : n ≡ be 2 xs 5 = en ∙ field-cut 2 5 xs channel (ec ∙ ap (take 2) er) in
    let starts : s ≡ be 8 xs 7 = is ∙ field-cut 8 7 xs start (es ∙ ap (take 8) behind) in
    let left : records ≡ drop 15 xs = eb ∙ ap (drop 8) behind ∙ drop-drop 8 7 xs in
    ap (λ v. Some (record { channel = v; start = s; records = records })) channels
    ∙ ap (λ v. Some (record { channel = be 2 xs 5; start = v; records = records })) starts
    ∙ ap (λ v. Some (record { channel = be 2 xs 5; start = be 8 xs 7; records = v })) left
    ∙ sym (header-test (length xs) (is_marked xs) (Some (record { channel = be 2 xs 5; start = be 8 xs 7; records = drop 15 xs })) None l (omega arith)
    (sym (marked xs (omega arith)) ∙ m))
