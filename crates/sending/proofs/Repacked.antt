-- A datagram of a whole packet is packed again as it stood.
use Rattle.std.proofs.Common.{◌≡◌, ℕ, ◌+◌, ◌-◌, ◌*◌, ◌<◌, ◌≤◌, Bool, true, false, cond, not, ◌&&◌, eqb, ltb, leb, List, [], ◌∷◌, ◌++◌, length, get_or, take, drop, is_ok, Some, None, Ok, Err, Result, sym, refl, ap, ◌∙◌, subst, arith, length-drop, length-take}
use Rattle.std.proofs.lemmas.Bool.{or_from, le-ltb, not_from_true, eqb-true}
use Rattle.std.proofs.lemmas.Bool.Decides.{nat_tests}
use Rattle.base.specs.Adler.{adler_of}
use Rattle.base.specs.Areas.{Bytes}
use Rattle.base.specs.Fields.{be, be_bytes}
use Rattle.base.specs.Limits.{body_room, max_datagram}
use Rattle.base.specs.Refusals.{Row, first_of}
use Rattle.base.specs.declared.refusal.Cause.TheVariants.{BodyChecksum, SealNotReady}
use Rattle.base.specs.declared.refusal.Refusal.{Refusal}
use Rattle.parts.specs.Coders.{Inverse}
use Rattle.wire.specs.Bodies.{checked_by, checked_of}
use Rattle.wire.specs.Flags.{is_sealed, has_checksum}
use Rattle.wire.specs.Header.{head_of}
use Rattle.sending.specs.Packing.{flag_for, header_words, head_for, header_for, coded_for, with_trailer, argument_rows, piece_rows, datagram_for, packed_of}
use Rattle.wire.specs.Reading.{packet_of}
use Rattle.wire.specs.Splitting.{split_of}
use Rattle.wire.specs.declared.datagram.Packet.{Packet}
use Rattle.sending.specs.declared.packing.Packing.{Packing}
use Rattle.sending.specs.Joining.{opened_for}
use Rattle.sending.specs.Repacking.{packing_of, Received, Repacks}
use Rattle.sending.proofs.Flagged.{flag_is}
use Rattle.sending.proofs.ReadData.{asked_answers, WholeRead, whole-read}
use Rattle.sending.proofs.Rewritten.{five_words, words_again, checksum_again, body-again, trailer-again, bytes_take}
use Rattle.sending.proofs.Rows.{Pass, pass_answers}
use Rattle.wire.proofs.Exactly.{bytes_drop}

-- the checksum that was checked
sum-checked : (b : Bool) (v place : ℕ) (plain : List ℕ) → checked_by (cond b (Some v) None) place plain ≡ Ok tt → b ≡ true → adler_of plain ≡ v
sum-checked true v place plain e t = eqb-true (adler_of plain) v (tested (eqb (adler_of plain) v) e)
  where
    tested : (c : Bool) → cond {A = Result (Unit {0}) Refusal} c (Ok tt) (Err (record { cause = BodyChecksum; value = place })) ≡ Ok tt → c ≡ true
    tested true h = refl
    tested false h = absurd (cc)
sum-checked false v place plain e t = absurd (cc)

-- a body that was opened is sealed again, and is as long as it was
sealed_again : (ready : ℕ → Bool) (opens seals : ℕ → List ℕ → List ℕ) (n : ℕ) (coded : List ℕ) → Inverse ready opens seals → Bytes coded
    → (b : Bool) → (b ≡ true → ready n ≡ true)
    → (cond b (seals n (cond b (opens n coded) coded)) (cond b (opens n coded) coded) ≡ coded) × (length (cond b (opens n coded) coded) ≡ length coded)
sealed_again ready opens seals n coded law bytes true h =
    let same = law.reseals n coded bytes (h refl) in
    (same, sym (law.lengths n (opens n coded)) ∙ ap length same)
sealed_again ready opens seals n coded law bytes false h = (refl, refl)

same-words : (a b c m i a' b' c' m' i' s f n g g' : ℕ) → a ≡ a' → b ≡ b' → c ≡ c' → m ≡ m' → i ≡ i' → g ≡ g'
    → five_words a b c s m i f n g ≡ five_words a' b' c' s m' i' f n g'
same-words a b c m i a' b' c' m' i' s f n g g' p q r t u v =
    ap (λ x. five_words x b c s m i f n g) p ∙ ap (λ x. five_words a' x c s m i f n g) q ∙ ap (λ x. five_words a' b' x s m i f n g) r
    ∙ ap (λ x. five_words a' b' c' s x i f n g) t ∙ ap (λ x. five_words a' b' c' s m' x f n g) u ∙ ap (λ x. five_words a' b' c' s m' i' f n x) v

field_small : (d : List ℕ) (at : ℕ) → at + 2 ≤ length d → Bytes d → be 2 d at < 65536
field_small d at h b = omega (arith, b.below (at + 0) (omega arith), b.below (at + 1) (omega arith))

ready-row : (s r : Bool) → (s ≡ true → r ≡ true) → (s && not r) ≡ false
ready-row true r h = not_from_true r (h refl)
ready-row false r h = refl

module _ (channel : ℕ) (d : List ℕ) (a : Packet) (read : WholeRead channel d a) (bytes : Bytes d) where
  abbrev flag : ℕ
  flag = be 2 d 18

  abbrev packet : Packet
  packet = packet_of d (head_of d) (be 8 d 8) None

  abbrev p : Packing
  p = packing_of channel packet

  words : get_or d 2 0 ≡ header_words p
  words = read.words ∙ ap (λ b. 5 + cond b 1 0 + cond (has_checksum flag) 1 0) read.uncut

  some : 5 ≤ header_words p
  some = omega arith

  flag_again : flag_for p ≡ flag
  flag_again =
      flag_is flag (field_small d 18 (omega (arith, words, some, read.room)) bytes) read.free read.application read.plain read.coded
      read.numbered read.lengths read.uncut

  head-again : head_for p ≡ take 20 d
  head-again =
      same-words 0xFF 1 (header_words p) 1 channel (get_or d 0 0) (get_or d 1 0) (get_or d 2 0) (be 2 d 4) (be 2 d 6) (get_or d 3 0) (be 8 d 8) (be 2 d 16) (flag_for p) flag
      (sym read.protocol) (sym read.version) (sym words) (sym read.market) (sym read.own) flag_again
      ∙ words_again d (omega (arith, words, some, read.room)) bytes

  header-again : (plain : List ℕ) → checked_of packet plain ≡ Ok tt → header_for p plain ≡ take (4 * header_words p) d
  header-again plain e =
      let b = has_checksum flag in
      let place : b ≡ true → 4 * get_or d 2 0 - 4 ≡ 20 = λ t. omega (arith, words, ap (λ b. cond {A = ℕ} b 1 0) t) in
      let sum : b ≡ true → adler_of plain ≡ be 4 d 20 =
      λ t. sum-checked b (be 4 d (4 * get_or d 2 0 - 4)) (4 * get_or d 2 0 - 4) plain e t ∙ ap (be 4 d) (place t) in
      let size : 20 + 4 * cond b 1 0 ≡ 4 * header_words p = omega arith in
      ap (λ l. l ++ cond b (be_bytes 4 (adler_of plain)) []) head-again
      ∙ checksum_again b (adler_of plain) d bytes (omega (arith, words, read.room)) sum ∙ ap (λ n. take n d) size

module _ (ready : ℕ → Bool) (opens seals : ℕ → List ℕ → List ℕ) (channel : ℕ) (d : List ℕ) (a : Packet) (coded plain : List ℕ) (messages : List (List ℕ))
    (law : Inverse ready opens seals) (bytes : Bytes d) (read : WholeRead channel d a) (took : Received ready opens channel d (packet channel d a read bytes) coded plain messages) where
  abbrev q : Packing
  q = p channel d a read bytes

  abbrev start : ℕ
  start = 4 * get_or d 2 0

  abbrev end : ℕ
  end = length d - 4

  is_coded : coded ≡ take (end - start) (drop start d)
  is_coded = sym (asked_answers (leb start end && leb end (length d)) (take (end - start) (drop start d)) coded took.body).1

  bytes-coded : Bytes coded
  bytes-coded = subst Bytes (sym is_coded) (bytes_take (end - start) (drop start d) (bytes_drop start d bytes))

  length-coded : length coded ≡ end - start
  length-coded = ap length is_coded ∙ simp (length-take, length-drop) (omega (arith, read.room))

  abbrev again : (coded_for seals q (opened_for opens q coded) ≡ coded) × (length (opened_for opens q coded) ≡ length coded)
  again = sealed_again ready opens seals (be 8 d 8) coded law bytes-coded (is_sealed (be 2 d 18)) took.coder

  coded-again : coded_for seals q plain ≡ coded
  coded-again = ap (coded_for seals q) (sym took.opened) ∙ again.0

  length-plain : length plain ≡ end - start
  length-plain = ap length (sym took.opened) ∙ again.1 ∙ length-coded

  all_again : datagram_for seals q plain ≡ d
  unfolding datagram_for
  all_again =
      let w = words channel d a read bytes in
      let size : 4 * header_words q ≡ start = ap (λ n. 4 * n) (sym w) in
      let front : header_for q plain ++ coded_for seals q plain ≡ take end d =
      ap (λ l. header_for q plain ++ l) (coded-again ∙ is_coded)
      ∙ ap (λ l. l ++ take (end - start) (drop start d)) (header-again channel d a read bytes plain took.checked ∙ ap (λ n. take n d) size)
      ∙ body-again start end d (omega (arith, read.room)) in
      ap with_trailer front ∙ trailer-again end d (omega (arith, read.room)) bytes read.trailer

  arguments_pass : Pass (argument_rows q plain)
  arguments_pass =
      let c = read.named in
      let n = read.some in
      let m = read.few in
      let f = read.first in
      let l = read.last in
      let room : length plain ≤ body_room = omega (arith, length-plain, read.short) in
      let split : is_ok (split_of (be 2 d 16) plain) ≡ true = ap is_ok took.split in
      (grind (arith, nat_tests), (grind (arith, nat_tests), (grind (arith, nat_tests), (or_from (ltb body_room (length plain)) (not (is_ok (split_of (be 2 d 16) plain))) (le-ltb body_room (length plain) room) (not_from_true (is_ok (split_of (be 2 d 16) plain)) split), tt))))

  pieces-pass : Pass (piece_rows q plain)
  pieces-pass =
      let w = words channel d a read bytes in
      let size : 4 * header_words q + length plain + 4 ≤ max_datagram = omega (arith, w, length-plain, read.room, read.short) in
      (refl, (refl, (refl, (le-ltb max_datagram (4 * header_words q + length plain + 4) size, tt))))

  packs : packed_of ready seals q plain ≡ Ok d
  unfolding packed_of
  packs =
      let answer : Result (List ℕ) Refusal = Ok (datagram_for seals q plain) in
      let seal : List Row = (is_sealed (be 2 d 18) && not (ready (be 8 d 8)), record { cause = SealNotReady; value = 0 }) ∷ [] in
      pass_answers (argument_rows q plain) (first_of (piece_rows q plain) (first_of seal answer)) arguments_pass
      ∙ pass_answers (piece_rows q plain) (first_of seal answer) pieces-pass
      ∙ pass_answers seal answer (ready-row (is_sealed (be 2 d 18)) (ready (be 8 d 8)) took.coder, tt)
      ∙ ap Ok all_again

pub repacks : Repacks
repacks ready opens seals channel d a coded plain messages law bytes took =
    let read = whole-read channel d a took.reading took.whole in
    let same = read.packet in
    subst (λ x. packed_of ready seals (packing_of channel x) plain ≡ Ok d) same
    (packs ready opens seals channel d a coded plain messages law bytes read (subst (λ x. Received ready opens channel d x coded plain messages) (sym same) took))
