-- A packed datagram is read as the packet that its packing asks for.
use Rattle.std.proofs.Common.{◌≡◌, ℕ, ◌+◌, ◌-◌, ◌*◌, ◌^◌, ◌<◌, ◌≤◌, Bool, true, false, cond, ◌&&◌, leb, List, length, take, drop, Some, None, Ok, Option, Result, sym, refl, ap, ◌∙◌, subst, arith}
use Rattle.std.proofs.lemmas.Bool.{cond-true, cond-false}
use Rattle.std.proofs.lemmas.Bool.Decides.{nat_tests}
use Rattle.base.specs.Limits.{trailer_size}
use Rattle.base.specs.declared.refusal.Refusal.{Refusal}
use Rattle.wire.specs.Bodies.{part_of}
use Rattle.sending.specs.Packing.{is_cut, total_for, piece_of, flag_for, header_words, coded_for, datagram_for}
use Rattle.wire.specs.Reading.{frame_of, sound_head, is_control, control_of, first_number_of, fragment_of, checksum_of, packet_of, and_then, data_of, reading_of}
use Rattle.wire.specs.declared.datagram.Fragment.{Fragment}
use Rattle.wire.specs.declared.datagram.Packet.{Packet}
use Rattle.wire.specs.declared.datagram.Reading.{Reading}
use Rattle.wire.specs.declared.datagram.Reading.TheVariants.{Data}
use Rattle.wire.specs.declared.head.Head.{Head}
use Rattle.sending.specs.declared.packing.Packing.{Packing}
use Rattle.sending.specs.Round.{fragment_for, checksum_for, packet_for, ReadBack, EveryReadsBack}
use Rattle.sending.proofs.Layers.{frame_passes, head-passes, is_data, number-passes, whole-passes, piece-passes, sum-reads}
use Rattle.sending.proofs.Pieces.{piece-some, piece-length, piece-of_cut}
use Rattle.sending.proofs.Sound.{Sound, packed-sound}
use Rattle.sending.proofs.Written.{packed_head, written, length-written, written-trailer, written-head, written-total, written-number, written-checksum, written-piece}

-- the layers one after another
layers_read : (p : Packing) (d plain : List ℕ) → frame_of d ≡ Ok (packed_head p) → sound_head p.channel d (packed_head p) ≡ Ok (packed_head p)
    → is_control (packed_head p) ≡ false → first_number_of d (packed_head p) ≡ Ok p.first → fragment_of d (packed_head p) ≡ Ok (fragment_for p plain)
    → checksum_of d (packed_head p) ≡ checksum_for p plain → reading_of p.channel d ≡ Ok (Data (packet_for p plain (length d)))
unfolding reading_of
layers_read p d plain frame sound kind number fragment checksum =
    let h = packed_head p in
    let data-of : Head → Result Reading Refusal = λ h. cond (is_control h) (control_of d h) (data_of d h) in
    let packet : ℕ → Option Fragment → Result Reading Refusal = λ first fragment. Ok (Data (packet_of d h first fragment)) in
    let with-sum : Option ℕ → Packet =
    λ sum.
    record {
      header_size = header_words p;
      sender = p.sender;
      first = p.first;
      count = p.count;
      flag = record { 0 = flag_for p };
      fragment = fragment_for p plain;
      checksum = sum;
      start = 4 * header_words p;
      end = length d - trailer_size;
    } in
    ap (λ r. and_then r (λ head. and_then (sound_head p.channel d head) data-of)) frame
    ∙ ap (λ r. and_then r data-of) sound
    ∙ cond-false (is_control h) (control_of d h) (data_of d h) kind
    ∙ ap (λ r. and_then r (λ first. and_then (fragment_of d h) (packet first))) number
    ∙ ap (λ r. and_then r (packet p.first)) fragment
    ∙ ap (λ sum. Ok (Data (with-sum sum))) checksum

some_size : (p : Packing) → is_cut p ≡ true → 1 ≤ p.piece_size
some_size p b = grind (arith, nat_tests)

words_some : (b c : Bool) → 5 ≤ 5 + cond b 1 0 + cond c 1 0
words_some b c = omega arith

module _ (p : Packing) (plain coded : List ℕ) (sound : Sound p plain) (same : length coded ≡ length plain) (low : p.channel < 2 ^ 16) where
  abbrev piece : List ℕ
  piece = piece_of p coded

  abbrev d : List ℕ
  d = written p plain piece

  size : length d ≡ 4 * header_words p + length piece + 4
  size = length-written p plain piece

  fits : length d ≤ 1472
  fits = omega (arith, size, piece-length p coded plain same, sound.size)

  frame : frame_of d ≡ Ok (packed_head p)
  frame =
      let w = words_some (is_cut p) p.checksum in
      frame_passes d (omega (arith, size)) fits refl refl (written-trailer p plain piece)
      ∙ ap Ok (written-head p plain piece (omega arith) (omega (arith, sound.last, sound.some)) (omega (arith, sound.few)))

  -- a piece that the reader finds some bytes in
  some-piece : is_cut p ≡ true → 1 ≤ length piece
  some-piece b =
      let f = sound.pieces b in
      let le : p.«fragment» ≤ total_for p.piece_size (length coded) = subst (λ n. p.«fragment» ≤ total_for p.piece_size n) (sym same) f.1 in
      subst (λ l. 1 ≤ length l) (sym (piece-of_cut p coded b)) (piece-some p.piece_size p.«fragment» coded (some_size p b) f.0 le)

  fragment-reads : (b : Bool) → is_cut p ≡ b → fragment_of d (packed_head p) ≡ Ok (fragment_for p plain)
  fragment-reads true b =
      let total = total_for p.piece_size (length plain) in
      let f = sound.pieces b in
      let some = some-piece b in
      let fragment : Fragment = record { total = total; number = p.«fragment» } in
      piece-passes p d b total (written-total p plain piece b (omega (arith, f.2))) (written-number p plain piece b (omega (arith, f.1, f.2)))
      f.0 f.1 f.2 (omega (arith, size))
      ∙ ap Ok (sym (cond-true (is_cut p) (Some fragment) None b))
  fragment-reads false b =
      let total = total_for p.piece_size (length plain) in
      let fragment : Fragment = record { total = total; number = p.«fragment» } in
      whole-passes p d b ∙ ap Ok (sym (cond-false (is_cut p) (Some fragment) None b))

  reading : reading_of p.channel d ≡ Ok (Data (packet_for p plain (length d)))
  reading =
      layers_read p d plain frame (head-passes p d (omega (arith, size))) (is_data p d sound.channel sound.some sound.few)
      (number-passes p d sound.some sound.few sound.first sound.last) (fragment-reads (is_cut p) refl)
      (sum-reads p d plain (written-checksum p plain piece))

  part : part_of (4 * header_words p) (length d - trailer_size) d ≡ Some piece
  part =
      let n = size in
      let test : (leb (4 * header_words p) (length d - trailer_size) && leb (length d - trailer_size) (length d)) ≡ true = grind (arith, nat_tests) in
      cond-true (leb (4 * header_words p) (length d - trailer_size) && leb (length d - trailer_size) (length d))
      (Some (take (length d - trailer_size - 4 * header_words p) (drop (4 * header_words p) d))) None test
      ∙ ap Some (written-piece p plain piece)

  pub written_back : ReadBack p plain coded d
  written_back = record { reading = reading; piece = part }

pub reads_back : EveryReadsBack
unfolding datagram_for
reads_back ready seals p plain d same low e =
    let s = packed-sound ready seals p plain d e in
    let coded = coded_for seals p plain in
    subst (ReadBack p plain coded) (sym s.1)
    (written_back p plain coded s.0 same low)
