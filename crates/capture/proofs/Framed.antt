-- The records of a capture that was written read back.
use Rattle.std.proofs.Common.{◌≡◌, ℕ, zero, suc, ◌+◌, ◌^◌, ◌<◌, ◌≤◌, true, List, [], ◌∷◌, ◌++◌, length, take, drop, Some, None, refl, ap, ◌∙◌, arith, length-append}
use Rattle.std.proofs.lemmas.List.{take_at, drop_at}
use Rattle.base.specs.Fields.{be, be_bytes}
use Rattle.base.proofs.Fields.{be-be_bytes}
use Rattle.capture.specs.Framing.{framed, framed_all, capture_for, AllFramable, ReadsBack}
use Rattle.capture.specs.Records.{Record, datagram, judge, malformed, nothing, last, one, datagram_in, judge_in, next_in, records_then, records_from, contents_of}
use Rattle.capture.proofs.Nexts.{first-test, second_test, fits-test, both_test, header-test}

-- a framed record, and what follows it
next-datagram : (d rest : List ℕ) → length d < 2 ^ 16 → next_in (framed (datagram d) ++ rest) ≡ one (datagram d) rest
next-datagram d rest h =
    let xs = framed (datagram d) ++ rest in
    let n = length d in
    let long : length xs ≡ 3 + (n + length rest) = omega (arith, length-append d rest) in
    let size : be 2 xs 1 ≡ n = be-be_bytes 2 n (d ++ rest) (omega arith) in
    let body : take (be 2 xs 1) (drop 3 xs) ≡ d = ap (λ k. take k (d ++ rest)) size ∙ take_at d rest n refl in
    let more : drop (3 + be 2 xs 1) xs ≡ rest = ap (λ k. drop (3 + k) xs) size ∙ drop_at (framed (datagram d)) rest (3 + n) (omega arith) in
    first-test (length xs) 1 nothing (datagram_in xs) (last malformed) (omega arith) refl
    ∙ both_test 3 (3 + be 2 xs 1) (length xs) (one (datagram (take (be 2 xs 1) (drop 3 xs))) (drop (3 + be 2 xs 1) xs)) (last malformed) (omega arith) (omega arith)
    ∙ ap (λ b. one (datagram b) (drop (3 + be 2 xs 1) xs)) body ∙ ap (one (datagram d)) more

next-judge : (k : ℕ) (rest : List ℕ) → k < 2 ^ 64 → next_in (framed (judge k) ++ rest) ≡ one (judge k) rest
next-judge k rest h =
    let xs = framed (judge k) ++ rest in
    let number : be 8 xs 1 ≡ k = be-be_bytes 8 k rest (omega arith) in
    second_test (length xs) 2 nothing (datagram_in xs) (judge_in xs) (last malformed) (omega arith) refl
    ∙ fits-test 9 (length xs) (one (judge (be 8 xs 1)) (drop 9 xs)) (last malformed) (omega arith)
    ∙ ap (λ n. one (judge n) rest) number

pub records-back : (rs : List Record) (most : ℕ) → AllFramable rs → length (framed_all rs) < most → records_from most (framed_all rs) ≡ rs
unfolding records_from
records-back rs zero f h = absurd (omega arith)
records-back [] (suc most) f h = refl
records-back (datagram d ∷ rs) (suc most) f h =
    ap (records_then (records_from most)) (next-datagram d (framed_all rs) f.0)
    ∙ ap (λ l. datagram d ∷ l) (records-back rs most f.1 (omega (arith, length-append (framed (datagram d)) (framed_all rs))))
records-back (judge k ∷ rs) (suc most) f h =
    ap (records_then (records_from most)) (next-judge k (framed_all rs) f.0)
    ∙ ap (λ l. judge k ∷ l) (records-back rs most f.1 (omega (arith, length-append (framed (judge k)) (framed_all rs))))
records-back (malformed ∷ rs) (suc most) f h = absurd f.0

contents-back : (channel start : ℕ) (records : List Record) → channel < 2 ^ 16 → start < 2 ^ 64 → length (capture_for channel start records) ≤ 65536
    → contents_of (capture_for channel start records) ≡ Some (record { channel = channel; start = start; records = framed_all records })
contents-back channel start records c s h =
    let xs = capture_for channel start records in
    let all = framed_all records in
    let channels : be 2 xs 5 ≡ channel = be-be_bytes 2 channel (be_bytes 8 start ++ all) (omega arith) in
    let starts : be 8 xs 7 ≡ start = be-be_bytes 8 start all (omega arith) in
    header-test (length xs) true (Some (record { channel = be 2 xs 5; start = be 8 xs 7; records = all })) None h (omega arith) refl
    ∙ ap (λ n. Some (record { channel = n; start = be 8 xs 7; records = all })) channels
    ∙ ap (λ n. Some (record { channel = channel; start = n; records = all })) starts

pub capture_back : (channel start : ℕ) (records : List Record) → channel < 2 ^ 16 → start < 2 ^ 64 → AllFramable records
    → length (capture_for channel start records) ≤ 65536 → ReadsBack channel start records
capture_back channel start records c s f h =
    record {
      contents = contents-back channel start records c s h;
      same = records-back records (length (framed_all records) + 1) f (omega arith);
    }
