-- The layers of reading let a packed datagram pass.
use Rattle.std.proofs.Common.{◌≡◌, ℕ, ◌+◌, ◌-◌, ◌*◌, ◌<◌, ◌≤◌, Bool, true, false, cond, ◌&&◌, leb, List, length, get_or, take, pos, Some, None, Ok, Option, Result, refl, ap, ◌∙◌, arith}
use Rattle.std.specs.Option.{ok_or}
use Rattle.std.proofs.lemmas.Bool.{cond-true, cond-false}
use Rattle.std.proofs.lemmas.Bool.Decides.{nat_tests}
use Rattle.base.specs.Adler.{adler_of}
use Rattle.base.specs.Fields.{be}
use Rattle.base.specs.Limits.{max_number}
use Rattle.base.specs.Refusals.{refused_in, first_of}
use Rattle.base.specs.declared.refusal.Cause.TheVariants.{NumberRange}
use Rattle.base.specs.declared.refusal.Refusal.{Refusal}
use Rattle.wire.specs.Flags.{is_fragmented, has_checksum}
use Rattle.wire.specs.Header.{head_of}
use Rattle.sending.specs.Packing.{is_cut, flag_for, header_words}
use Rattle.wire.specs.Reading.{frame_rows, frame_of, head_rows, sound_head, is_control, numbered, first_in_range, data_rows, first_number_of, fragment_numbers, fragment_rows, fragment_of, checksum_of, words_for}
use Rattle.wire.specs.declared.datagram.Fragment.{Fragment}
use Rattle.sending.specs.declared.packing.Packing.{Packing}
use Rattle.sending.specs.Round.{checksum_for}
use Rattle.sending.proofs.Flagged.{FlagBits, flag_bits}
use Rattle.sending.proofs.Rows.{Pass, pass_answers}
use Rattle.sending.proofs.Written.{packed_head}

pub frame_passes : (d : List ℕ) → 24 ≤ length d → length d ≤ 1472 → get_or d 0 0 ≡ 255 → get_or d 1 0 ≡ 1
    → be 4 d (length d - 4) ≡ adler_of (take (length d - 4) d) → frame_of d ≡ Ok (head_of d)
unfolding frame_of
frame_passes d h i a b t =
    let rows : Pass (frame_rows d) = grind (arith, nat_tests) in
    pass_answers (frame_rows d) (Ok (head_of d)) rows

module _ (p : Packing) (d : List ℕ) where
  abbrev flags : FlagBits (flag_for p) p.sealed (is_cut p) p.checksum
  flags = flag_bits p.duplicate p.sealed (is_cut p) p.checksum

  same-words : words_for (flag_for p) ≡ header_words p
  same-words =
      ap (λ b. 5 + cond b 1 0 + cond (has_checksum (flag_for p)) 1 0) flags.cut
      ∙ ap (λ b. 5 + cond (is_cut p) 1 0 + cond b 1 0) flags.summed

  few-coders : (b : Bool) → cond b 1 0 ≤ 1
  few-coders true = omega arith
  few-coders false = omega arith

  pub head-passes : 4 * header_words p + 4 ≤ length d → sound_head p.channel d (packed_head p) ≡ Ok (packed_head p)
  unfolding sound_head
  head-passes h =
      let w = same-words in
      let f1 = flags.free in
      let f2 = flags.application in
      let f3 = flags.plain in
      let f4 = flags.coded in
      let few = few-coders p.sealed in
      let rows : Pass (head_rows p.channel d (packed_head p)) =
      grind (arith, nat_tests) in
      pass_answers (head_rows p.channel d (packed_head p)) (Ok (packed_head p)) rows

  pub is_data : 1 ≤ p.channel → 1 ≤ p.count → p.count ≤ 819 → is_control (packed_head p) ≡ false
  is_data h i j = grind (arith, nat_tests)

  pub number-passes : 1 ≤ p.count → p.count ≤ 819 → 1 ≤ p.first → p.first + p.count - 1 ≤ max_number → first_number_of d (packed_head p) ≡ Ok p.first
  unfolding first_number_of
  number-passes h i j k =
      let f1 = flags.application in
      let f2 = flags.numbered in
      let f3 = flags.lengths in
      let rows : Pass (data_rows d (packed_head p)) =
      grind (arith, nat_tests) in
      let low : leb p.first max_number ≡ true = grind (arith, nat_tests) in
      let range : (leb 1 p.first && leb (p.first + p.count - 1) max_number) ≡ true = grind (arith, nat_tests) in
      let number : first_in_range (numbered (pos p.first)) p.count ≡ Some p.first =
      ap (λ o. first_in_range o p.count) (cond-true (leb p.first max_number) (Some p.first) None low)
      ∙ cond-true (leb 1 p.first && leb (p.first + p.count - 1) max_number) (Some p.first) None range in
      pass_answers (data_rows d (packed_head p)) (ok_or (first_in_range (numbered (pos p.first)) p.count) (refused_in d NumberRange)) rows
      ∙ ap (λ o. ok_or o (refused_in d NumberRange)) number

  pub whole-passes : is_cut p ≡ false → fragment_of d (packed_head p) ≡ Ok None
  unfolding fragment_of
  whole-passes b =
      cond-false (is_fragmented (flag_for p)) (first_of (fragment_rows d (packed_head p) (fragment_numbers d)) (Ok (Some (fragment_numbers d)))) (Ok None) (flags.cut ∙ b)

  same_numbers : (a b t n : ℕ) → a ≡ t → b ≡ n
      → ◌≡◌ {A = Result (Option Fragment) Refusal} (Ok (Some (record { total = a; number = b }))) (Ok (Some (record { total = t; number = n })))
  same_numbers a b t n e f = cc

  pub piece-passes : is_cut p ≡ true → (total : ℕ) → be 2 d 20 ≡ total → be 2 d 22 ≡ p.«fragment» → 1 ≤ p.«fragment» → p.«fragment» ≤ total
      → total ≤ 16 → 4 * header_words p + 4 < length d → fragment_of d (packed_head p) ≡ Ok (Some (record { total = total; number = p.«fragment» }))
  unfolding fragment_of
  piece-passes b total e f h i j k =
      let rows : Pass (fragment_rows d (packed_head p) (fragment_numbers d)) = grind (arith, nat_tests) in
      cond-true (is_fragmented (flag_for p)) (first_of (fragment_rows d (packed_head p) (fragment_numbers d)) (Ok (Some (fragment_numbers d)))) (Ok None) (flags.cut ∙ b)
      ∙ pass_answers (fragment_rows d (packed_head p) (fragment_numbers d)) (Ok (Some (fragment_numbers d))) rows
      ∙ same_numbers (be 2 d 20) (be 2 d 22) total p.«fragment» e f

  asked_sum : (b : Bool) (v sum : ℕ) → (b ≡ true → v ≡ sum) → cond b (Some v) None ≡ cond b (Some sum) None
  asked_sum true v sum h = ap Some (h refl)
  asked_sum false v sum h = refl

  pub sum-reads : (plain : List ℕ) → (p.checksum ≡ true → be 4 d (4 * header_words p - 4) ≡ adler_of plain) → checksum_of d (packed_head p) ≡ checksum_for p plain
  sum-reads plain h =
      ap (λ b. cond b (Some (be 4 d (4 * header_words p - 4))) None) flags.summed
      ∙ asked_sum p.checksum (be 4 d (4 * header_words p - 4)) (adler_of plain) h
