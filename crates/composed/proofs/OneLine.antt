-- What a line adds is its record, framed.
use Rattle.std.proofs.Common.{◌≡◌, ℕ, ◌-◌, ◌^◌, ◌<◌, ◌≤◌, Bool, true, false, cond, leb, List, length, Some, None, Ok, Err, codes, Option, Result, refl, ap, arith}
use Rattle.std.proofs.lemmas.Bool.Decides.{nat_tests}
use Rattle.std.specs.Str.{bytes_eq}
use Rattle.base.specs.Limits.{max_number, body_room}
use Rattle.base.specs.declared.refusal.Refusal.{Refusal}
use Rattle.words.specs.Words.{word_of, after_word, is_blank, number_of, hex_of, fitting}
use Rattle.sending.specs.Packing.{packed_of}
use Rattle.capture.specs.Framing.{framed, Framable}
use Rattle.capture.specs.Records.{Record, datagram, judge}
use Rattle.composing.specs.Composing.{up_to, last_field, last_two, mapped, control_for, datagram_record, judge_record, judge_of, hex_record, raw_of, heartbeat_of, stream_of}
use Rattle.composing.specs.Data.{then_on, prepared_of, packed_record, data_of}
use Rattle.composing.specs.Lines.{record_of}
use Rattle.composed.specs.Composed.{packed_in, record_in}

pub none_some : {X : Type 0} (x : X) → None ≡ Some x → ⊥
none_some x e = let z : ◌≡◌ {A = ℕ} 0 1 = cc in omega arith

-- The record that bytes are the frame of; where these fit into a capture, it can be framed.
pub record Framed (o : Option Record) (bytes : List ℕ) : Type 0 where
  pub one : Record
  pub is : o ≡ Some one
  pub written : bytes ≡ framed one
  pub sound : length bytes ≤ 65536 → Framable one

-- numbers within their limits
up_to_test : (most n k : ℕ) → cond (leb n most) (Some n) None ≡ Some k → k ≤ most
up_to_test most n k e = grind (arith, nat_tests)

pub up_to_within : (most : ℕ) (o : Option ℕ) (k : ℕ) → up_to most o ≡ Some k → k ≤ most
up_to_within most None k e = absurd (none_some k e)
up_to_within most (Some n) k e = up_to_test most n k e

pub last_field-within : (most : ℕ) (line : List ℕ) (k : ℕ) → last_field most line ≡ Some k → k ≤ most
last_field-within most line k e = blank (is_blank (after_word line)) e
  where
    blank : (b : Bool) → cond b (up_to most (number_of (word_of line))) None ≡ Some k → k ≤ most
    blank true f = up_to_within most (number_of (word_of line)) k f
    blank false f = absurd (none_some k f)

-- the kinds of records
framed-datagram : {X : Type 0} (f : X → List ℕ) (o : Option X) (bytes : List ℕ) → mapped (λ x. datagram_record (f x)) o ≡ Some bytes → Framed (mapped (λ x. datagram (f x)) o) bytes
framed-datagram f None bytes e = absurd (none_some bytes e)
framed-datagram f (Some x) bytes e =
    let same : bytes ≡ datagram_record (f x) = cc in
    record { one = datagram (f x); is = refl; written = same; sound = λ h. omega (arith, ap length same) }

framed-judge : (o : Option ℕ) (bytes : List ℕ) → ((k : ℕ) → o ≡ Some k → k < 2 ^ 64) → mapped judge_record o ≡ Some bytes → Framed (mapped judge o) bytes
framed-judge None bytes h e = absurd (none_some bytes e)
framed-judge (Some k) bytes h e = record { one = judge k; is = refl; written = (cc); sound = λ l. h k refl }

framed-raw : (b : Bool) (o : Option (List ℕ)) (bytes : List ℕ) → cond b (mapped datagram_record o) None ≡ Some bytes → Framed (cond b (mapped datagram o) None) bytes
framed-raw true o bytes e = framed-datagram (λ d. d) o bytes e
framed-raw false o bytes e = absurd (none_some bytes e)

framed-packed : (r : Result (List ℕ) Refusal) (bytes : List ℕ) → packed_record r ≡ Some bytes → Framed (packed_in r) bytes
framed-packed (Ok d) bytes e = framed-datagram (λ x. x) (Some d) bytes e
framed-packed (Err refusal) bytes e = absurd (none_some bytes e)

framed-data : {X : Type 0} (r : X → Result (List ℕ) Refusal) (o : Option X) (bytes : List ℕ) → then_on o (λ p. packed_record (r p)) ≡ Some bytes → Framed (then_on o (λ p. packed_in (r p))) bytes
framed-data r None bytes e = absurd (none_some bytes e)
framed-data r (Some p) bytes e = framed-packed (r p) bytes e

-- The tests of the kinds, in their order.
module _ (bytes : List ℕ) (D J R H S E : Option (List ℕ)) (D' J' R' H' S' E' : Option Record) (at-data : D ≡ Some bytes → Framed D' bytes)
    (at-judge : J ≡ Some bytes → Framed J' bytes) (at_raw : R ≡ Some bytes → Framed R' bytes) (at-heartbeat : H ≡ Some bytes → Framed H' bytes)
    (at-stream : S ≡ Some bytes → Framed S' bytes) (at_end : E ≡ Some bytes → Framed E' bytes) where
  by_kind : (d j r h s e : Bool) → cond d D (cond j J (cond r R (cond h H (cond s S (cond e E None))))) ≡ Some bytes
      → Framed (cond d D' (cond j J' (cond r R' (cond h H' (cond s S' (cond e E' None)))))) bytes
  by_kind true j r h s e f = at-data f
  by_kind false true r h s e f = at-judge f
  by_kind false false true h s e f = at_raw f
  by_kind false false false true s e f = at-heartbeat f
  by_kind false false false false true e f = at-stream f
  by_kind false false false false false true f = at_end f
  by_kind false false false false false false f = absurd (none_some bytes f)

pub line_framed : (ready : ℕ → Bool) (seals : ℕ → List ℕ → List ℕ) (channel : ℕ) (kind rest bytes : List ℕ) → record_of ready seals channel kind rest ≡ Some bytes
    → Framed (record_in ready seals channel kind rest) bytes
unfolding record_of data_of judge_of raw_of hex_record heartbeat_of stream_of
line_framed ready seals channel kind rest bytes e =
    by_kind bytes (data_of ready seals channel rest) (judge_of rest) (raw_of rest) (heartbeat_of rest) (stream_of channel 0 rest) (stream_of channel 0xFFFF rest)
    (then_on (prepared_of body_room channel rest) (λ p. packed_in (packed_of ready seals p.0 p.1)))
    (mapped judge (last_field (2 ^ 64 - 1) rest))
    (cond (is_blank (after_word rest)) (mapped datagram (fitting 65535 (hex_of (word_of rest)))) None)
    (mapped (λ sender. datagram (control_for sender 0 0 0)) (last_field 255 rest))
    (mapped (λ p. datagram (control_for p.0 channel p.1 0)) (last_two 255 max_number rest))
    (mapped (λ p. datagram (control_for p.0 channel p.1 0xFFFF)) (last_two 255 max_number rest))
    (framed-data (λ p. packed_of ready seals p.0 p.1) (prepared_of body_room channel rest) bytes)
    (framed-judge (last_field (2 ^ 64 - 1) rest) bytes (λ k f. omega (arith, last_field-within (2 ^ 64 - 1) rest k f)))
    (framed-raw (is_blank (after_word rest)) (fitting 65535 (hex_of (word_of rest))) bytes)
    (framed-datagram (λ sender. control_for sender 0 0 0) (last_field 255 rest) bytes)
    (framed-datagram (λ p. control_for p.0 channel p.1 0) (last_two 255 max_number rest) bytes)
    (framed-datagram (λ p. control_for p.0 channel p.1 0xFFFF) (last_two 255 max_number rest) bytes)
    (bytes_eq kind (codes "data")) (bytes_eq kind (codes "judge")) (bytes_eq kind (codes "raw")) (bytes_eq kind (codes "heartbeat"))
    (bytes_eq kind (codes "stream-heartbeat")) (bytes_eq kind (codes "stream-end")) e
