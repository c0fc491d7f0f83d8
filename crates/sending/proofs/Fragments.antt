-- The pieces that are read from all datagrams of a packing are those of its coded body.
use Rattle.std.proofs.Common.{◌≡◌, ℕ, ◌+◌, ◌^◌, ◌<◌, Bool, true, List, [], length, get_or, Some, Option, sym, ◌∙◌, subst, arith}
use Rattle.std.proofs.lemmas.List.FromFn.{length-map-range_with_len, get_or-map-range_with_len}
use Rattle.std.proofs.lemmas.List.{ext_get_or}
use Rattle.std.proofs.lemmas.Bool.Decides.{nat_tests}
use Rattle.wire.specs.Bodies.{part_of}
use Rattle.wire.specs.Joining.{joined_pieces}
use Rattle.sending.specs.Packing.{pieces_of}
use Rattle.sending.specs.Packing.{is_cut, total_for, piece_at, piece_of, coded_for}
use Rattle.sending.specs.declared.packing.Packing.{Packing}
use Rattle.sending.specs.Joining.{fragment_at, ReadPiece, JoinedBack, FragmentsJoin}
use Rattle.sending.specs.Round.{packet_for}
use Rattle.sending.proofs.JoiningBack.{pieces-join_back}
use Rattle.sending.proofs.Pieces.{piece-of_cut, coded-length}
use Rattle.sending.proofs.ReadData.{data_is}
use Rattle.sending.proofs.ReadingBack.{reads_back}

is_cut_lem : (p : Packing) → 0 < p.piece_size → is_cut p ≡ true
is_cut_lem p h = grind (arith, nat_tests)

same-piece : (o : Option (List ℕ)) (a b : List ℕ) → o ≡ Some a → o ≡ Some b → a ≡ b
same-piece o a b e f = cc

piece_is : (ready : ℕ → Bool) (seals : ℕ → List ℕ → List ℕ) (p : Packing) (plain piece : List ℕ) → ((n : ℕ) (b : List ℕ) → length (seals n b) ≡ length b)
    → p.channel < 2 ^ 16 → ReadPiece ready seals p plain piece → piece ≡ piece_of p (coded_for seals p plain)
piece_is ready seals p plain piece keeps low r =
    let d = r.datagram in
    let back = reads_back ready seals p plain d (coded-length seals p plain keeps) low r.packed in
    let packet = packet_for p plain (length d) in
    let same : packet ≡ r.packet = data_is packet r.packet (sym back.reading ∙ r.reading) in
    let part : part_of packet.start packet.end d ≡ Some piece = subst (λ a. part_of a.start a.end d ≡ Some piece) (sym same) r.part in
    same-piece (part_of packet.start packet.end d) piece (piece_of p (coded_for seals p plain)) part back.piece

pub fragments_join : FragmentsJoin
fragments_join ready opens seals p plain pieces law bytes some low able number each =
    let size = p.piece_size in
    let total = total_for size (length plain) in
    let coded = coded_for seals p plain in
    let piece : ℕ → List ℕ = λ number. piece_at size number coded in
    let at : (k : ℕ) → k < length pieces → get_or pieces k [] ≡ get_or (pieces_of size total coded) k [] =
    λ k h.
    piece_is ready seals (fragment_at (k + 1) p) plain (get_or pieces k []) law.lengths low (each k h)
    ∙ piece-of_cut (fragment_at (k + 1) p) coded (is_cut_lem p some)
    ∙ sym (get_or-map-range_with_len piece 1 total k (k + 1) [] (omega arith) (omega arith)) in
    let same : pieces ≡ pieces_of size total coded = ext_get_or [] pieces (pieces_of size total coded) (number ∙ sym (length-map-range_with_len piece 1 total)) at in
    subst (λ l. JoinedBack opens seals p plain (joined_pieces l)) (sym same) (pieces-join_back ready opens seals p plain law bytes some able)
