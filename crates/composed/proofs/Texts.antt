-- A composed capture is that of what its text stands for.
use Rattle.std.proofs.Common.{◌≡◌, ℕ, ◌+◌, ◌-◌, ◌^◌, ◌<◌, ◌≤◌, Bool, true, false, cond, leb, List, [], ◌∷◌, ◌++◌, length, Some, None, Ok, Err, codes, Option, Result, sym, refl, ap, ◌∙◌, subst, append_assoc, append-nil, arith, length-append}
use Rattle.std.proofs.lemmas.Bool.Decides.{nat_tests}
use Rattle.std.specs.Str.{bytes_eq}
use Rattle.words.specs.Words.{lines_of, word_of, after_word, number_of, fitting}
use Rattle.capture.specs.Framing.{framed_all, capture_for, AllFramable}
use Rattle.capture.specs.Records.{Record}
use Rattle.capture.proofs.Framed.{capture_back}
use Rattle.composing.specs.Composing.{up_to, last_field, paired, mapped}
use Rattle.composing.specs.Lines.{is_idle, opening_of, header_for, header_of, by_stage, added_by, channel_in, moved_on, stage_after, afterwards, composed_from, composed_of}
use Rattle.composing.specs.declared.text.BadLine.{BadLine}
use Rattle.composed.specs.Composed.{record_in, with_record, records_in, Stands, opened, stands_for, Composed, Composes}
use Rattle.composed.proofs.OneLine.{none_some, up_to_within, last_field-within, line_framed}

err_ok : (bad : BadLine) (l : List ℕ) → Err bad ≡ Ok l → ⊥
err_ok bad l e = let z : ◌≡◌ {A = ℕ} 0 1 = cc in omega arith

-- What a line adds where the text goes on.
record Adds (room : ℕ) (x : Option (List ℕ)) (more : List ℕ → Result (List ℕ) BadLine) (whole : List ℕ) : Type 0 where
  added : List ℕ
  is : x ≡ Some added
  fits : length added ≤ room
  next : more added ≡ Ok whole

adds : (room number : ℕ) (x : Option (List ℕ)) (more : List ℕ → Result (List ℕ) BadLine) (whole : List ℕ) → afterwards (fitting room x) (Err (record { line = number })) more ≡ Ok whole → Adds room x more whole
adds room number None more whole e = absurd (err_ok (record { line = number }) whole e)
adds room number (Some added) more whole e = test (leb (length added) room) refl e
  where
    test : (b : Bool) → leb (length added) room ≡ b → afterwards (cond b (Some added) None) (Err (record { line = number })) more ≡ Ok whole → Adds room (Some added) more whole
    test true t f = record { added = added; is = refl; fits = grind (arith, nat_tests); next = f }
    test false t f = absurd (err_ok (record { line = number }) whole f)

module _ (ready : ℕ → Bool) (seals : ℕ → List ℕ → List ℕ) (whole : List ℕ) where
  line_adds : (stage : Option ℕ) (number : ℕ) (done line : List ℕ) (lines : List (List ℕ)) → composed_from ready seals 65536 stage number done (line ∷ lines) ≡ Ok whole
      → Adds (65536 - length done) (added_by ready seals stage line) (λ added. composed_from ready seals 65536 (stage_after stage line) (number + 1) (done ++ added) lines) whole
  unfolding composed_from
  line_adds stage number done line lines e =
      adds (65536 - length done) number (added_by ready seals stage line) (λ added. composed_from ready seals 65536 (stage_after stage line) (number + 1) (done ++ added) lines) whole e

  -- a line that is left out
  idle-adds : (stage : Option ℕ) (line : List ℕ) → is_idle line ≡ true → added_by ready seals stage line ≡ Some []
  unfolding added_by
  idle-adds stage line t = ap (λ b. cond b (Some []) (by_stage ready seals stage (word_of line) (after_word line))) t

  idle-stage : (stage : Option ℕ) (line : List ℕ) → is_idle line ≡ true → stage_after stage line ≡ stage
  unfolding stage_after
  idle-stage stage line t = ap (λ b. cond b stage (moved_on stage (after_word line))) t

  idle-next : (stage : Option ℕ) (number : ℕ) (done line : List ℕ) (lines : List (List ℕ)) → is_idle line ≡ true → composed_from ready seals 65536 stage number done (line ∷ lines) ≡ Ok whole
      → composed_from ready seals 65536 stage (number + 1) done lines ≡ Ok whole
  idle-next stage number done line lines t e =
      let a = line_adds stage number done line lines e in
      let i = idle-adds stage line t in
      let none : a.added ≡ [] = let k = a.is in cc in
      let same : done ++ a.added ≡ done = ap (λ l. done ++ l) none ∙ append-nil done in
      ap (λ d. composed_from ready seals 65536 stage (number + 1) d lines) (sym same)
      ∙ ap (λ s. composed_from ready seals 65536 s (number + 1) (done ++ a.added) lines) (sym (idle-stage stage line t)) ∙ a.next

  -- a line that counts
  other_adds : (stage : Option ℕ) (line : List ℕ) → is_idle line ≡ false → added_by ready seals stage line ≡ by_stage ready seals stage (word_of line) (after_word line)
  unfolding added_by
  other_adds stage line t = ap (λ b. cond b (Some []) (by_stage ready seals stage (word_of line) (after_word line))) t

  other_stage : (stage : Option ℕ) (line : List ℕ) → is_idle line ≡ false → stage_after stage line ≡ moved_on stage (after_word line)
  unfolding stage_after
  other_stage stage line t = ap (λ b. cond b stage (moved_on stage (after_word line))) t

  -- The records of lines, behind the bytes of those before them.
  record Running (channel : ℕ) (lines : List (List ℕ)) (done : List ℕ) : Type 0 where
    records : List Record
    of : records_in ready seals channel lines ≡ Some records
    written : whole ≡ done ++ framed_all records
    sound : AllFramable records
    long : length whole ≤ 65536

  running_line : (channel number : ℕ) (done line : List ℕ) (lines : List (List ℕ)) → length done ≤ 65536
      → ((more : List ℕ) → length more ≤ 65536 → composed_from ready seals 65536 (Some channel) (number + 1) more lines ≡ Ok whole → Running channel lines more)
      → composed_from ready seals 65536 (Some channel) number done (line ∷ lines) ≡ Ok whole → (b : Bool) → is_idle line ≡ b → Running channel (line ∷ lines) done
  running_line channel number done line lines l rest e true t =
      let r = rest done l (idle-next (Some channel) number done line lines t e) in
      record {
        records = r.records;
        of = ap (λ b. cond b (records_in ready seals channel lines) (with_record (record_in ready seals channel (word_of line) (after_word line)) (records_in ready seals channel lines))) t ∙ r.of;
        written = r.written;
        sound = r.sound;
        long = r.long;
      }
  running_line channel number done line lines l rest e false t =
      let a = line_adds (Some channel) number done line lines e in
      let f = line_framed ready seals channel (word_of line) (after_word line) a.added (sym (other_adds (Some channel) line t) ∙ a.is) in
      let next = ap (λ s. composed_from ready seals 65536 s (number + 1) (done ++ a.added) lines) (sym (other_stage (Some channel) line t)) ∙ a.next in
      let r = rest (done ++ a.added) (omega (arith, a.fits, length-append done a.added)) next in
      record {
        records = f.one ∷ r.records;
        of =
            ap (λ b. cond b (records_in ready seals channel lines) (with_record (record_in ready seals channel (word_of line) (after_word line)) (records_in ready seals channel lines))) t
            ∙ ap (λ o. with_record o (records_in ready seals channel lines)) f.is ∙ ap (λ o. with_record (Some f.one) o) r.of;
        written = r.written ∙ append_assoc done a.added (framed_all r.records) ∙ ap (λ x. done ++ (x ++ framed_all r.records)) f.written;
        sound = (f.sound (omega (arith, a.fits)), r.sound);
        long = r.long;
      }

  running : (channel number : ℕ) (done : List ℕ) (lines : List (List ℕ)) → length done ≤ 65536 → composed_from ready seals 65536 (Some channel) number done lines ≡ Ok whole
      → Running channel lines done
  unfolding composed_from
  running channel number done [] l e =
      let same : whole ≡ done = cc in
      record { records = []; of = refl; written = same ∙ sym (append-nil done); sound = tt; long = omega (arith, ap length same) }
  running channel number done (line ∷ lines) l e = running_line channel number done line lines l (λ more. running channel (number + 1) more lines) e (is_idle line) refl

-- the limits of the line that opens a capture
pairs : (a b : Option ℕ) (p : ℕ × ℕ) → paired a b ≡ Some p → (a ≡ Some p.0) × (b ≡ Some p.1)
pairs None b p e = absurd (none_some p e)
pairs (Some x) None p e = absurd (none_some p e)
pairs (Some x) (Some y) p e =
    let same : ◌≡◌ {A = ℕ × ℕ} (x, y) p = cc in
    (ap (λ (q : ℕ × ℕ). Some q.0) same, ap (λ (q : ℕ × ℕ). Some q.1) same)

opening_within : (rest : List ℕ) (p : ℕ × ℕ) → opening_of rest ≡ Some p → (p.0 < 2 ^ 16) × (p.1 < 2 ^ 64)
opening_within rest p e =
    let b = pairs (up_to 65535 (number_of (word_of rest))) (last_field (2 ^ 64 - 1) (after_word rest)) p e in
    (omega (arith, up_to_within 65535 (number_of (word_of rest)) p.0 b.0), omega (arith, last_field-within (2 ^ 64 - 1) (after_word rest) p.1 b.1))

-- A text, from the first line on.
module _ (ready : ℕ → Bool) (seals : ℕ → List ℕ → List ℕ) (whole : List ℕ) where
  abbrev stands_by : List ℕ → List (List ℕ) → Bool → Bool → Option Stands
  stands_by line lines idle capture =
      cond idle (stands_for ready seals lines) (cond capture (opened ready seals (opening_of (after_word line)) lines) None)

  opens-capture : (number : ℕ) (line : List ℕ) (lines : List (List ℕ)) → composed_from ready seals 65536 None number [] (line ∷ lines) ≡ Ok whole → is_idle line ≡ false
      → (c : Bool) → bytes_eq (word_of line) (codes "capture") ≡ c → (o : Option (ℕ × ℕ)) → opening_of (after_word line) ≡ o → Composed ready seals (line ∷ lines) whole
  unfolding header_of header_for
  opens-capture number line lines e t false s o k =
      let a = line_adds ready seals whole None number [] line lines e in
      absurd (none_some a.added (sym (ap (λ b. cond b (header_of (after_word line)) None) s) ∙ sym (other_adds ready seals whole None line t) ∙ a.is))
  opens-capture number line lines e t true s None k =
      let a = line_adds ready seals whole None number [] line lines e in
      absurd (none_some a.added
      (sym (ap (λ o. mapped (λ p. header_for p.0 p.1) o) k) ∙ sym (ap (λ b. cond b (header_of (after_word line)) None) s) ∙ sym (other_adds ready seals whole None line t) ∙ a.is))
  opens-capture number line lines e t true s (Some p) k =
      let a = line_adds ready seals whole None number [] line lines e in
      let head : Some (header_for p.0 p.1) ≡ Some a.added =
      sym (ap (λ o. mapped (λ p. header_for p.0 p.1) o) k) ∙ sym (ap (λ b. cond b (header_of (after_word line)) None) s) ∙ sym (other_adds ready seals whole None line t) ∙ a.is in
      let header : a.added ≡ header_for p.0 p.1 = cc in
      let stage : stage_after None line ≡ Some p.0 = other_stage ready seals whole None line t ∙ ap (λ o. Some (channel_in o)) k in
      let next = ap (λ st. composed_from ready seals 65536 st (number + 1) a.added lines) (sym stage) ∙ a.next in
      let r = running ready seals whole p.0 (number + 1) a.added lines (omega (arith, a.fits)) next in
      let w = opening_within (after_word line) p k in
      let written : whole ≡ capture_for p.0 p.1 r.records = r.written ∙ ap (λ l. l ++ framed_all r.records) header in
      record {
        stands = record { channel = p.0; start = p.1; records = r.records };
        of =
            ap (λ b. stands_by line lines b (bytes_eq (word_of line) (codes "capture"))) t ∙ ap (λ b. stands_by line lines false b) s
            ∙ ap (λ o. opened ready seals o lines) k ∙ ap (λ o. mapped (λ l. record { channel = p.0; start = p.1; records = l }) o) r.of;
        written = written;
        back = capture_back p.0 p.1 r.records w.0 w.1 r.sound (subst (λ l. length l ≤ 65536) written r.long);
      }

  opens-line : (number : ℕ) (line : List ℕ) (lines : List (List ℕ))
      → (composed_from ready seals 65536 None (number + 1) [] lines ≡ Ok whole → Composed ready seals lines whole)
      → composed_from ready seals 65536 None number [] (line ∷ lines) ≡ Ok whole → (b : Bool) → is_idle line ≡ b → Composed ready seals (line ∷ lines) whole
  opens-line number line lines rest e true t =
      let r = rest (idle-next ready seals whole None number [] line lines t e) in
      record {
        stands = r.stands;
        of = ap (λ b. stands_by line lines b (bytes_eq (word_of line) (codes "capture"))) t ∙ r.of;
        written = r.written;
        back = r.back;
      }
  opens-line number line lines rest e false t =
      opens-capture number line lines e t (bytes_eq (word_of line) (codes "capture")) refl (opening_of (after_word line)) refl

  opens : (number : ℕ) (lines : List (List ℕ)) → composed_from ready seals 65536 None number [] lines ≡ Ok whole → Composed ready seals lines whole
  unfolding composed_from
  opens number [] e = absurd (err_ok (record { line = number }) whole e)
  opens number (line ∷ lines) e = opens-line number line lines (opens (number + 1) lines) e (is_idle line) refl

pub composes : Composes
unfolding composed_of
composes ready seals text bytes e = opens ready seals bytes 1 (lines_of text) e
