-- A record whose datagram is spelt in hexadecimal.
use Rattle.std.proofs.Common.{◌≡◌, ℕ, ◌+◌, ◌<◌, ◌≤◌, true, false, cond, leb, List, ◌∷◌, ◌++◌, length, take, drop, Some, None, Option, sym, refl, ap, ◌∙◌, append_assoc, arith, length-append}
use borrow.Rule.Slice.PartMut.{put_mid}
use Rattle.std.proofs.lemmas.List.{take_at, drop_at, length-take-le}
use Rattle.std.proofs.lemmas.Bool.Decides.{nat_tests}
use Rattle.base.specs.Areas.{written_at}
use Rattle.base.specs.Fields.{be_bytes}
use Rattle.base.proofs.Areas.{put_mid-written}
use Rattle.words.specs.Words.{fitting, size_of, over_front, hex_of}
use Rattle.composing.specs.Composing.{sized, mapped, datagram_record, hex_record}
use Rattle.composing.proofs.Fronts.{begun}

abbrev record_for : Option (List ℕ) → Option (List ℕ)
record_for x = mapped datagram_record (fitting 65535 x)

fits : (m n : ℕ) (bytes : List ℕ) → m ≤ n → cond (leb m n) (Some bytes) None ≡ Some bytes
fits m n bytes h = grind (arith, nat_tests)

fits_not : (m n : ℕ) (bytes : List ℕ) → n < m → cond (leb m n) (Some bytes) None ≡ None
fits_not m n bytes h = grind (arith, nat_tests)

fit_none : (m n : ℕ) (bytes : List ℕ) → None ≡ size_of (cond (leb m n) (Some bytes) None) → n < m
fit_none m n bytes e = grind (arith, nat_tests)

fit_some : (m n k : ℕ) (bytes : List ℕ) → Some k ≡ size_of (cond (leb m n) (Some bytes) None) → (m ≤ n) × (k ≡ length bytes)
fit_some m n k bytes e = grind (arith, nat_tests)

record_long : (room : ℕ) (bytes : List ℕ) → room < 3 + length bytes → None ≡ fitting room (record_for (Some bytes))
record_long room bytes h =
    elim (leb (length bytes) 65535) as (λ b. None ≡ fitting room (mapped datagram_record (cond b (Some bytes) None)))
    [ true ↦ sym (fits_not (length (datagram_record bytes)) room (datagram_record bytes) (omega arith)) | false ↦ refl ]

pub hex_short : (room : ℕ) (word : List ℕ) → room < 3 → None ≡ sized (fitting room (hex_record word))
unfolding hex_record
hex_short room word h = ap sized (short (hex_of word))
  where
    short : (x : Option (List ℕ)) → None ≡ fitting room (record_for x)
    short None = refl
    short (Some bytes) = record_long room bytes (omega arith)

pub hex_none : (room less : ℕ) (word : List ℕ) → 3 + less ≡ room → None ≡ size_of (fitting less (hex_of word)) → None ≡ sized (fitting room (hex_record word))
unfolding hex_record
hex_none room less word h e = ap sized (none (hex_of word) e)
  where
    none : (x : Option (List ℕ)) → None ≡ size_of (fitting less x) → None ≡ fitting room (record_for x)
    none None e = refl
    none (Some bytes) e = record_long room bytes (let long = fit_none (length bytes) less bytes e in omega arith)

pub hex_large : (room less size : ℕ) (word : List ℕ) → Some size ≡ size_of (fitting less (hex_of word)) → 65535 < size → None ≡ sized (fitting room (hex_record word))
unfolding hex_record
hex_large room less size word e h = ap sized (large (hex_of word) e)
  where
    large : (x : Option (List ℕ)) → Some size ≡ size_of (fitting less x) → None ≡ fitting room (record_for x)
    large None e = refl
    large (Some bytes) e =
        ap (λ y. fitting room (mapped datagram_record y)) (sym (fits_not (length bytes) 65535 bytes (let s = fit_some (length bytes) less size bytes e in omega arith)))

record_put : (room size start : ℕ) (bytes tail two head : List ℕ) → size ≡ length bytes → start ≡ 3 → length head ≡ 3 → head ≡ 1 ∷ be_bytes 2 size
    → size ≤ 65535 → 3 + size ≤ room → two ≡ head ++ (bytes ++ tail) → Some (start + size, take (start + size) two) ≡ sized (fitting room (record_for (Some bytes)))
record_put room size start bytes tail two head s t l e small fit w =
    let long : length (head ++ bytes) ≡ start + size = simp length-append (omega arith) in
    let front : take (start + size) two ≡ head ++ bytes =
    ap (take (start + size)) (w ∙ sym (append_assoc head bytes tail)) ∙ take_at (head ++ bytes) tail (start + size) long in
    let same : head ++ bytes ≡ datagram_record bytes = ap (λ h. h ++ bytes) (e ∙ ap (λ n. 1 ∷ be_bytes 2 n) s) in
    let whole : start + size ≡ length (datagram_record bytes) = sym long ∙ ap length same in
    ap (λ l. Some (start + size, l)) (front ∙ same) ∙ ap (λ n. Some (n, datagram_record bytes)) whole
    ∙ ap sized (sym (fits (length (datagram_record bytes)) room (datagram_record bytes) (omega arith)))
    ∙ ap (λ y. sized (fitting room (mapped datagram_record y))) (sym (fits (length bytes) 65535 bytes (omega arith)))

pub hex_put : (room less size start : ℕ) (word old rest two head : List ℕ) → 3 + less ≡ room → Some size ≡ size_of (fitting less (hex_of word)) → start ≡ 3
    → length head ≡ 3 → head ≡ 1 ∷ be_bytes 2 size → size ≤ 65535 → two ≡ head ++ (over_front old (fitting less (hex_of word)) ++ rest)
    → Some (start + size, take (start + size) two) ≡ sized (fitting room (hex_record word))
unfolding hex_record
hex_put room less size start word old rest two head f e t l h small w = put (hex_of word) e w
  where
    put : (x : Option (List ℕ)) → Some size ≡ size_of (fitting less x) → two ≡ head ++ (over_front old (fitting less x) ++ rest)
        → Some (start + size, take (start + size) two) ≡ sized (fitting room (record_for x))
    put None e w = absurd (let z : ◌≡◌ {A = ℕ} 0 1 = cc in omega arith)
    put (Some bytes) e w =
        let s = fit_some (length bytes) less size bytes e in
        let over : over_front old (fitting less (Some bytes)) ≡ bytes ++ drop (length bytes) old = ap (over_front old) (fits (length bytes) less bytes s.0) in
        record_put room size start bytes (drop (length bytes) old ++ rest) two head s.1 t l h small (omega arith)
        (w ∙ ap (λ p. head ++ (p ++ rest)) over ∙ ap (λ p. head ++ p) (append_assoc bytes (drop (length bytes) old) rest))

-- three bytes written over the front, where a part was written behind them
pub three_over : (out one two part head : List ℕ) (size start : ℕ) → one ≡ put_mid 3 size out part → length part ≡ size → 3 ≤ length out → length head ≡ 3
    → Some start ≡ cond (leb (0 + length head) (length one)) (Some (0 + length head)) None
    → two ≡ cond (leb (0 + length head) (length one)) (written_at one 0 head) one → (start ≡ 3) × (two ≡ head ++ (part ++ drop (3 + length part) out))
three_over out one two part head size start e l h t f w =
    let started = begun (leb (0 + length head) (length one)) (0 + length head) start f in
    let tail = part ++ drop (3 + length part) out in
    let one-is : one ≡ take 3 out ++ tail = e ∙ put_mid-written 3 size out part part refl l in
    let three : 0 + length head ≡ 3 = omega arith in
    let behind : drop (0 + length head) one ≡ tail =
    ap (λ n. drop n one) three ∙ ap (drop 3) one-is ∙ drop_at (take 3 out) tail 3 (length-take-le 3 out h) in
    (omega (arith, started.1), w ∙ ap (λ b. cond b (written_at one 0 head) one) started.0 ∙ ap (λ p. head ++ p) behind)
