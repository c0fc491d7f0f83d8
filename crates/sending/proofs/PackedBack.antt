-- What the packer wrote into its buffer is read back.
use Rattle.std.proofs.Common.{◌≡◌, ℕ, ◌-◌, ◌^◌, ◌<◌, Bool, List, ◌++◌, length, take, replicate, Ok, Result, sym, ap, ◌∙◌, subst}
use Rattle.std.proofs.lemmas.List.{take_at}
use Rattle.base.specs.declared.refusal.Refusal.{Refusal}
use Rattle.wire.specs.Reading.{and_then}
use Rattle.sending.specs.Packing.{coded_for, datagram_for, tested_of, packed_of}
use Rattle.sending.specs.Round.{ReadBack}
use Rattle.sending.specs.declared.packing.Packing.{Packing}
use Rattle.sending.proofs.ReadingBack.{reads_back}
use Rattle.sending.proofs.Tested.{packed_tested}

pub packed_back : (ready : ℕ → Bool) (seals : ℕ → List ℕ → List ℕ) (p : Packing) (plain after : List ℕ) (n : ℕ) → p.channel < 2 ^ 16
    → tested_of ready p plain ≡ Ok (tt {0})
    → length (coded_for seals p plain) ≡ length plain
    → n ≡ length (datagram_for seals p plain)
    → after ≡ datagram_for seals p plain ++ replicate (1472 - n) 0
    → ReadBack p plain (coded_for seals p plain) (take n after)
packed_back ready seals p plain after n low tested same size whole =
    let d = datagram_for seals p plain in
    let step : Unit {0} → Result (List ℕ) Refusal = λ _. Ok d in
    let packed : packed_of ready seals p plain ≡ Ok d = packed_tested ready seals p plain ∙ ap (λ r. and_then r step) tested in
    let front : take n after ≡ d = ap (take n) whole ∙ take_at d (replicate (1472 - n) 0) n (sym size) in
    subst (ReadBack p plain (coded_for seals p plain)) (sym front) (reads_back ready seals p plain d same low packed)
