-- The records that the lines of a text stand for, and that a composed capture has just these.
use Rattle.std.specs.Prelude.{◌≡◌, ℕ, ◌-◌, ◌^◌, Bool, cond, List, [], ◌∷◌, Some, None, Ok, Err, codes, Option, Result}
use Rattle.std.specs.Str.{bytes_eq}
use Rattle.base.specs.Limits.{max_number, body_room}
use Rattle.base.specs.declared.refusal.Refusal.{Refusal}
use Rattle.words.specs.Words.{lines_of, word_of, after_word, is_blank, hex_of, fitting}
use Rattle.sending.specs.Packing.{packed_of}
use Rattle.capture.specs.Framing.{capture_for, ReadsBack}
use Rattle.capture.specs.Records.{Record, datagram, judge}
use Rattle.composing.specs.Composing.{last_field, last_two, mapped, control_for}
use Rattle.composing.specs.Data.{then_on, prepared_of}
use Rattle.composing.specs.Lines.{is_idle, opening_of, composed_of}

abbrev pub packed_in : Result (List ℕ) Refusal → Option Record
packed_in (Ok d) = Some (datagram d)
packed_in (Err e) = None

-- The record of a line on a channel, by its first word and what follows that.
abbrev pub record_in : (ℕ → Bool) → (ℕ → List ℕ → List ℕ) → ℕ → List ℕ → List ℕ → Option Record
record_in ready seals channel kind rest =
    cond (bytes_eq kind (codes "data")) (then_on (prepared_of body_room channel rest) (λ p. packed_in (packed_of ready seals p.0 p.1)))
    (cond (bytes_eq kind (codes "judge")) (mapped judge (last_field (2 ^ 64 - 1) rest))
    (cond (bytes_eq kind (codes "raw")) (cond (is_blank (after_word rest)) (mapped datagram (fitting 65535 (hex_of (word_of rest)))) None)
    (cond (bytes_eq kind (codes "heartbeat")) (mapped (λ sender. datagram (control_for sender 0 0 0)) (last_field 255 rest))
    (cond (bytes_eq kind (codes "stream-heartbeat")) (mapped (λ p. datagram (control_for p.0 channel p.1 0)) (last_two 255 max_number rest))
    (cond (bytes_eq kind (codes "stream-end")) (mapped (λ p. datagram (control_for p.0 channel p.1 0xFFFF)) (last_two 255 max_number rest)) None)))))

abbrev pub with_record : Option Record → Option (List Record) → Option (List Record)
with_record None records = None
with_record (Some r) None = None
with_record (Some r) (Some records) = Some (r ∷ records)

-- The records of lines on a channel, those that are left out aside.
abbrev pub records_in : (ℕ → Bool) → (ℕ → List ℕ → List ℕ) → ℕ → List (List ℕ) → Option (List Record)
records_in ready seals channel [] = Some []
records_in ready seals channel (line ∷ lines) =
    cond (is_idle line) (records_in ready seals channel lines)
    (with_record (record_in ready seals channel (word_of line) (after_word line)) (records_in ready seals channel lines))

-- A text stands for a channel, a start and records: the first line that counts opens the capture, the others are its records.
pub record Stands : Type 0 where
  pub channel : ℕ
  pub start : ℕ
  pub records : List Record

abbrev pub opened : (ℕ → Bool) → (ℕ → List ℕ → List ℕ) → Option (ℕ × ℕ) → List (List ℕ) → Option Stands
opened ready seals None lines = None
opened ready seals (Some p) lines =
    mapped (λ records. record { channel = p.0; start = p.1; records = records }) (records_in ready seals p.0 lines)

abbrev pub stands_for : (ℕ → Bool) → (ℕ → List ℕ → List ℕ) → List (List ℕ) → Option Stands
stands_for ready seals [] = None
stands_for ready seals (line ∷ lines) =
    cond (is_idle line) (stands_for ready seals lines)
    (cond (bytes_eq (word_of line) (codes "capture")) (opened ready seals (opening_of (after_word line)) lines) None)

-- What a composed capture is: the one of what its lines stand for, and it reads back as that.
pub record Composed (ready : ℕ → Bool) (seals : ℕ → List ℕ → List ℕ) (lines : List (List ℕ)) (bytes : List ℕ) : Type 0 where
  pub stands : Stands
  pub of : stands_for ready seals lines ≡ Some stands
  pub written : bytes ≡ capture_for stands.channel stands.start stands.records
  pub back : ReadsBack stands.channel stands.start stands.records

abbrev pub Composes : Type 0
Composes = (ready : ℕ → Bool) (seals : ℕ → List ℕ → List ℕ) (text bytes : List ℕ) → composed_of ready seals text ≡ Ok bytes → Composed ready seals (lines_of text) bytes
