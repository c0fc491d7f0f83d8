-- The fields that were read from a datagram, written again, are its bytes.
use Rattle.std.proofs.Common.{◌≡◌, ℕ, ◌+◌, ◌-◌, ◌*◌, ◌<◌, ◌≤◌, Bool, true, false, cond, List, [], ◌∷◌, ◌++◌, length, get_or, take, drop, sym, refl, ap, ◌∙◌, arith, length-drop, length-take, take-add}
use Rattle.std.proofs.lemmas.List.{append-nil, drop-drop, take_all, take-append-drop, get_or-take}
use Rattle.base.specs.Adler.{adler_of}
use Rattle.base.specs.Areas.{Bytes}
use Rattle.base.specs.Fields.{be, be_bytes}
use Rattle.base.proofs.Fields.{be-drop, be_bytes-be}
use Rattle.sending.specs.Packing.{with_trailer}
use Rattle.wire.proofs.Exactly.{bytes_drop}

pub bytes_take : (n : ℕ) (bytes : List ℕ) → Bytes bytes → Bytes (take n bytes)
bytes_take n bytes b =
    record {
      below =
          λ k h.
          let l = length-take n bytes in
          let i : k < n = omega arith in
          let j : k < length bytes = omega arith in
          rw (get_or-take n bytes k 0 i) (b.below k j);
    }

-- a field, written again
field_again : (n at : ℕ) (d : List ℕ) → at + n ≤ length d → Bytes d → be_bytes n (be n d at) ≡ take n (drop at d)
field_again n at d h b =
    ap (be_bytes n) (sym (be-drop n at d)) ∙ be_bytes-be n (drop at d) (omega (arith, length-drop at d)) (bytes_drop at d b)

-- two parts that stand side by side
side_by_side : (at n m : ℕ) (d : List ℕ) → take n (drop at d) ++ take m (drop (at + n) d) ≡ take (n + m) (drop at d)
side_by_side at n m d = ap (λ l. take n (drop at d) ++ take m l) (sym (drop-drop n at d)) ∙ sym (take-add n m (drop at d))

four_bytes : (d : List ℕ) → 4 ≤ length d → (get_or d 0 0 ∷ (get_or d 1 0 ∷ (get_or d 2 0 ∷ (get_or d 3 0 ∷ [])))) ≡ take 4 d
four_bytes [] h = absurd (omega arith)
four_bytes (a ∷ []) h = absurd (omega arith)
four_bytes (a ∷ (b ∷ [])) h = absurd (omega arith)
four_bytes (a ∷ (b ∷ (c ∷ []))) h = absurd (omega arith)
four_bytes (a ∷ (b ∷ (c ∷ (e ∷ rest)))) h = refl

-- the five words of a header by their fields
abbrev pub five_words : ℕ → ℕ → ℕ → ℕ → ℕ → ℕ → ℕ → ℕ → ℕ → List ℕ
five_words protocol version words sender market channel first count flag =
    (protocol ∷ (version ∷ (words ∷ (sender ∷ []))))
    ++ (be_bytes 2 market ++ (be_bytes 2 channel ++ (be_bytes 8 first ++ (be_bytes 2 count ++ be_bytes 2 flag))))

pub words_again : (d : List ℕ) → 20 ≤ length d → Bytes d
    → five_words (get_or d 0 0) (get_or d 1 0) (get_or d 2 0) (get_or d 3 0) (be 2 d 4) (be 2 d 6) (be 8 d 8) (be 2 d 16) (be 2 d 18) ≡ take 20 d
words_again d h b =
    let front = get_or d 0 0 ∷ (get_or d 1 0 ∷ (get_or d 2 0 ∷ (get_or d 3 0 ∷ []))) in
    let m = be_bytes 2 (be 2 d 4) in
    let c = be_bytes 2 (be 2 d 6) in
    let f = be_bytes 8 (be 8 d 8) in
    let n = be_bytes 2 (be 2 d 16) in
    let e5 : n ++ be_bytes 2 (be 2 d 18) ≡ take 4 (drop 16 d) =
    ap (λ l. l ++ be_bytes 2 (be 2 d 18)) (field_again 2 16 d (omega arith) b)
    ∙ ap (λ l. take 2 (drop 16 d) ++ l) (field_again 2 18 d (omega arith) b) ∙ side_by_side 16 2 2 d in
    let e4 : f ++ (n ++ be_bytes 2 (be 2 d 18)) ≡ take 12 (drop 8 d) =
    ap (λ l. f ++ l) e5 ∙ ap (λ l. l ++ take 4 (drop 16 d)) (field_again 8 8 d (omega arith) b) ∙ side_by_side 8 8 4 d in
    let e3 : c ++ (f ++ (n ++ be_bytes 2 (be 2 d 18))) ≡ take 14 (drop 6 d) =
    ap (λ l. c ++ l) e4 ∙ ap (λ l. l ++ take 12 (drop 8 d)) (field_again 2 6 d (omega arith) b) ∙ side_by_side 6 2 12 d in
    let e2 : m ++ (c ++ (f ++ (n ++ be_bytes 2 (be 2 d 18)))) ≡ take 16 (drop 4 d) =
    ap (λ l. m ++ l) e3 ∙ ap (λ l. l ++ take 14 (drop 6 d)) (field_again 2 4 d (omega arith) b) ∙ side_by_side 4 2 14 d in
    ap (λ l. front ++ l) e2 ∙ ap (λ l. l ++ take 16 (drop 4 d)) (four_bytes d (omega arith)) ∙ side_by_side 0 4 16 d

-- the checksum behind them, where there is one
pub checksum_again : (b : Bool) (sum : ℕ) (d : List ℕ) → Bytes d → 20 + 4 * cond b 1 0 ≤ length d → (b ≡ true → sum ≡ be 4 d 20)
    → take 20 d ++ cond b (be_bytes 4 sum) [] ≡ take (20 + 4 * cond b 1 0) d
checksum_again true sum d bytes h e =
    ap (λ v. take 20 d ++ be_bytes 4 v) (e refl) ∙ ap (λ l. take 20 d ++ l) (field_again 4 20 d (omega arith) bytes) ∙ side_by_side 0 20 4 d
checksum_again false sum d bytes h e = append-nil (take 20 d)

-- the body behind the header
pub body-again : (start end : ℕ) (d : List ℕ) → start ≤ end → take start d ++ take (end - start) (drop start d) ≡ take end d
body-again start end d h =
    let all : start + (end - start) ≡ end = omega arith in
    sym (take-add start (end - start) d) ∙ ap (λ n. take n d) all

-- the trailer behind all
pub trailer-again : (end : ℕ) (d : List ℕ) → end + 4 ≡ length d → Bytes d → be 4 d end ≡ adler_of (take end d) → with_trailer (take end d) ≡ d
trailer-again end d h b e =
    ap (λ v. take end d ++ be_bytes 4 v) (sym e)
    ∙ ap (λ l. take end d ++ l) (field_again 4 end d (omega arith) b ∙ take_all 4 (drop end d) (omega (arith, length-drop end d)))
    ∙ take-append-drop end d
