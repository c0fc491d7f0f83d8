-- The fields of a packed datagram, read where they were written.
use Rattle.std.proofs.Common.{◌≡◌, ℕ, ◌+◌, ◌-◌, ◌*◌, ◌^◌, ◌<◌, Bool, true, false, cond, ltb, List, [], ◌∷◌, ◌++◌, length, take, drop, ℤ, pos, negsuc, fold, sym, refl, ap, ◌∙◌, append_assoc, arith, length-append}
use Rattle.std.proofs.lemmas.List.{take_at, drop_at, drop-drop}
use Rattle.std.proofs.lemmas.Bool.{cond-true, lt-ltb}
use Rattle.base.specs.Adler.{add_byte, adler_of}
use Rattle.base.specs.Fields.{be, be_bytes, signed64}
use Rattle.base.proofs.Fields.{be-be_bytes, be-drop}
use Rattle.wire.specs.Header.{head_of}
use Rattle.sending.specs.Packing.{is_cut, total_for, flag_for, header_words, head_for, fragment_field, checksum_field, header_for, with_trailer}
use Rattle.wire.specs.declared.head.Head.{Head}
use Rattle.sending.specs.declared.packing.Packing.{Packing}
use Rattle.sending.proofs.Flagged.{flag_bits}

-- a number behind other bytes
be-behind : (n v at : ℕ) (front rest : List ℕ) → length front ≡ at → v < 256 ^ n → be n (front ++ (be_bytes n v ++ rest)) at ≡ v
be-behind n v at front rest l h =
    sym (be-drop n at (front ++ (be_bytes n v ++ rest)))
    ∙ ap (λ b. be n b 0) (drop_at front (be_bytes n v ++ rest) at l)
    ∙ be-be_bytes n v rest h

sums_small : (sums : ℕ × ℕ) (bytes : List ℕ) → sums.0 < 65521 → sums.1 < 65521
    → ((fold add_byte sums bytes).0 < 65521) × ((fold add_byte sums bytes).1 < 65521)
sums_small sums [] h k = (h, k)
sums_small sums (x ∷ bytes) h k = sums_small (add_byte sums x) bytes (omega arith) (omega arith)

pub adler_small : (bytes : List ℕ) → adler_of bytes < 256 ^ 4
adler_small bytes = let f = sums_small (1, 0) bytes (omega arith) (omega arith) in omega (arith, f.0, f.1)

pub length-trailer : (bytes : List ℕ) → length (with_trailer bytes) ≡ length bytes + 4
length-trailer bytes = omega (arith, length-append bytes (be_bytes 4 (adler_of bytes)))

-- bytes with their trailer have the right one
pub trailer-reads : (bytes : List ℕ) (n : ℕ) → length bytes ≡ n → be 4 (with_trailer bytes) n ≡ adler_of (take n (with_trailer bytes))
trailer-reads bytes n l =
    let t = be_bytes 4 (adler_of bytes) in
    sym (be-drop 4 n (bytes ++ t))
    ∙ ap (λ b. be 4 b 0) (drop_at bytes t n l)
    ∙ be-be_bytes 4 (adler_of bytes) [] (adler_small bytes)
    ∙ ap adler_of (sym (take_at bytes t n l))

-- the head that stands in a packed datagram
abbrev pub head_made : ℕ → ℕ → ℕ → ℕ → ℤ → ℕ → ℕ → Head
head_made words sender market channel seq count flag =
    record {
      header_size = words;
      sender = sender;
      market = market;
      channel = channel;
      seq = seq;
      count = count;
      flag = record { 0 = flag };
    }

abbrev pub packed_head : Packing → Head
packed_head p = head_made (header_words p) p.sender 1 p.channel (pos p.first) p.count (flag_for p)

same_head : (w s m c c' n n' f f' : ℕ) (q q' : ℤ) → c ≡ c' → q ≡ q' → n ≡ n' → f ≡ f' → head_made w s m c q n f ≡ head_made w s m c' q' n' f'
same_head w s m c c' n n' f f' q q' a b d e = cc

signed_small : (v w : ℕ) → v ≡ w → w < 2 ^ 63 → signed64 v ≡ pos w
signed_small v w e h =
    let small : v < 2 ^ 63 = omega arith in
    cond-true (ltb v (2 ^ 63)) (pos v) (negsuc (2 ^ 64 - 1 - v)) (lt-ltb v (2 ^ 63) small) ∙ ap pos e

pub head-reads : (p : Packing) (rest : List ℕ) → p.channel < 65536 → p.first < 2 ^ 63 → p.count < 65536 → head_of (head_for p ++ rest) ≡ packed_head p
head-reads p rest h i j =
    let d = head_for p ++ rest in
    let flags = flag_bits p.duplicate p.sealed (is_cut p) p.checksum in
    let channel : be 2 d 6 ≡ p.channel = sym (be-drop 2 6 d) ∙ be-be_bytes 2 p.channel (drop 8 d) (omega arith) in
    let first : be 8 d 8 ≡ p.first = sym (be-drop 8 8 d) ∙ be-be_bytes 8 p.first (drop 16 d) (omega arith) in
    let count : be 2 d 16 ≡ p.count = sym (be-drop 2 16 d) ∙ be-be_bytes 2 p.count (drop 18 d) (omega arith) in
    let flag : be 2 d 18 ≡ flag_for p = sym (be-drop 2 18 d) ∙ be-be_bytes 2 (flag_for p) rest (omega (arith, flags.small)) in
    same_head (header_words p) p.sender 1 (be 2 d 6) p.channel (be 2 d 16) p.count (be 2 d 18) (flag_for p)
    (signed64 (be 8 d 8)) (pos p.first) channel (signed_small (be 8 d 8) p.first first i) count flag

regroup : (a b c e t : List ℕ) → ((a ++ (b ++ c)) ++ e) ++ t ≡ a ++ (b ++ (c ++ (e ++ t)))
regroup a b c e t = simp append_assoc

length-asked : (b : Bool) (x : List ℕ) → length x ≡ 4 → length (cond b x []) ≡ 4 * cond b 1 0
length-asked true x h = omega arith
length-asked false x h = omega arith

module _ (p : Packing) (plain piece : List ℕ) where
  abbrev sum : ℕ
  sum = adler_of (header_for p plain ++ piece)

  abbrev pub written : List ℕ
  written = with_trailer (header_for p plain ++ piece)

  layout : written ≡ head_for p ++ (fragment_field p plain ++ (checksum_field p plain ++ (piece ++ be_bytes 4 sum)))
  layout = regroup (head_for p) (fragment_field p plain) (checksum_field p plain) piece (be_bytes 4 sum)

  pub length-header : length (header_for p plain) ≡ 4 * header_words p
  length-header =
      let f = be_bytes 2 (total_for p.piece_size (length plain)) ++ be_bytes 2 p.«fragment» in
      let c = be_bytes 4 (adler_of plain) in
      omega (arith, length-append (head_for p) (fragment_field p plain ++ checksum_field p plain), length-append (fragment_field p plain) (checksum_field p plain), length-asked (is_cut p) f refl, length-asked p.checksum c refl)

  pub length-written : length written ≡ 4 * header_words p + length piece + 4
  length-written = omega (arith, length-trailer (header_for p plain ++ piece), length-append (header_for p plain) piece, length-header)

  pub written-trailer : be 4 written (length written - 4) ≡ adler_of (take (length written - 4) written)
  written-trailer = trailer-reads (header_for p plain ++ piece) (length written - 4) (omega (arith, length-trailer (header_for p plain ++ piece)))

  pub written-head : p.channel < 65536 → p.first < 2 ^ 63 → p.count < 65536 → head_of written ≡ packed_head p
  written-head h i j = ap head_of layout ∙ head-reads p (fragment_field p plain ++ (checksum_field p plain ++ (piece ++ be_bytes 4 sum))) h i j

  -- behind the five words
  behind : drop 20 written ≡ fragment_field p plain ++ (checksum_field p plain ++ (piece ++ be_bytes 4 sum))
  behind = ap (drop 20) layout

  pub written-total : is_cut p ≡ true → total_for p.piece_size (length plain) < 65536 → be 2 written 20 ≡ total_for p.piece_size (length plain)
  written-total b h =
      let total = total_for p.piece_size (length plain) in
      let rest = checksum_field p plain ++ (piece ++ be_bytes 4 sum) in
      sym (be-drop 2 20 written)
      ∙ ap (λ l. be 2 l 0) behind
      ∙ ap (λ l. be 2 (l ++ rest) 0) (cond-true (is_cut p) (be_bytes 2 total ++ be_bytes 2 p.«fragment») [] b)
      ∙ be-be_bytes 2 total (be_bytes 2 p.«fragment» ++ rest) (omega arith)

  pub written-number : is_cut p ≡ true → p.«fragment» < 65536 → be 2 written 22 ≡ p.«fragment»
  written-number b h =
      let total = total_for p.piece_size (length plain) in
      let rest = checksum_field p plain ++ (piece ++ be_bytes 4 sum) in
      sym (be-drop 2 22 written)
      ∙ ap (λ l. be 2 l 0) (sym (drop-drop 2 20 written) ∙ ap (drop 2) behind)
      ∙ ap (λ l. be 2 (drop 2 (l ++ rest)) 0) (cond-true (is_cut p) (be_bytes 2 total ++ be_bytes 2 p.«fragment») [] b)
      ∙ be-be_bytes 2 p.«fragment» rest (omega arith)

  pub written-checksum : p.checksum ≡ true → be 4 written (4 * header_words p - 4) ≡ adler_of plain
  written-checksum b =
      let front = head_for p ++ fragment_field p plain in
      let rest = piece ++ be_bytes 4 sum in
      let long : length front + 4 ≡ 4 * header_words p =
      omega (arith, length-append (head_for p) (fragment_field p plain), length-asked (is_cut p) (be_bytes 2 (total_for p.piece_size (length plain)) ++ be_bytes 2 p.«fragment») refl, ap (λ b. cond {A = ℕ} b 1 0) b) in
      let same : written ≡ front ++ (be_bytes 4 (adler_of plain) ++ rest) =
      layout ∙ sym (append_assoc (head_for p) (fragment_field p plain) (checksum_field p plain ++ rest))
      ∙ ap (λ l. front ++ (l ++ rest)) (cond-true p.checksum (be_bytes 4 (adler_of plain)) [] b) in
      ap (λ l. be 4 l (4 * header_words p - 4)) same
      ∙ be-behind 4 (adler_of plain) (4 * header_words p - 4) front rest (omega arith) (adler_small plain)

  pub written-piece : take (length written - 4 - 4 * header_words p) (drop (4 * header_words p) written) ≡ piece
  written-piece =
      let header = header_for p plain in
      ap (λ l. take (length written - 4 - 4 * header_words p) (drop (4 * header_words p) l)) (append_assoc header piece (be_bytes 4 sum))
      ∙ ap (take (length written - 4 - 4 * header_words p)) (drop_at header (piece ++ be_bytes 4 sum) (4 * header_words p) length-header)
      ∙ take_at piece (be_bytes 4 sum) (length written - 4 - 4 * header_words p) (omega (arith, length-written))
