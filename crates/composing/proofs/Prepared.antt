-- What a data line is packed from.
use Rattle.std.proofs.Common.{◌≡◌, ℕ, Bool, List, length, take, Some, None, Ok, Err, Option, Result, sym, refl, ap, ◌∙◌, arith}
use Rattle.std.specs.Result.{result_ok}
use Rattle.base.specs.declared.refusal.Refusal.{Refusal}
use Rattle.words.specs.Words.{fitting}
use Rattle.sending.specs.Packing.{packed_of}
use Rattle.sending.specs.declared.packing.Packing.{Packing}
use Rattle.composing.specs.Composing.{sized, datagram_record}
use Rattle.composing.specs.Data.{then_on, packed_record, packed_in, prepared_of, prepared_sized, data_of}
use Rattle.composing.proofs.Loops.{sized-none, sized-some}

module _ (plain : Option (List ℕ)) (count : Option ℕ) (packed : ℕ → Option Packing) where
  abbrev counted : Option ℕ → List ℕ → Option (Packing × List ℕ)
  counted n bytes = then_on n (λ k. then_on (packed k) (λ p. Some (p, bytes)))

  abbrev prepared : Option (List ℕ) → Option (Packing × (ℕ × List ℕ))
  prepared x = prepared_sized (then_on x (counted count))

  pub prepared_none : None ≡ sized plain → None ≡ prepared plain
  prepared_none e = sym (ap prepared (sized-none plain e))

  module _ (size : ℕ) (bytes : List ℕ) (e : Some (size, bytes) ≡ sized plain) where
    turn : prepared plain ≡ prepared_sized (counted count bytes)
    turn = ap prepared (sized-some plain size bytes e).0

    pub prepared_many : None ≡ count → None ≡ prepared plain
    prepared_many f = ap (λ n. prepared_sized (counted n bytes)) f ∙ sym turn

    module _ (k : ℕ) (f : Some k ≡ count) where
      pub prepared_bad : None ≡ packed k → None ≡ prepared plain
      prepared_bad g = ap (λ q. prepared_sized (then_on q (λ p. Some (p, bytes)))) g ∙ ap (λ n. prepared_sized (counted n bytes)) f ∙ sym turn

      pub prepared_whole : (p : Packing) → Some p ≡ packed k → Some (p, (size, bytes)) ≡ prepared plain
      prepared_whole p g =
          ap (λ n. Some (p, (n, bytes))) (sym (sized-some plain size bytes e).1)
          ∙ ap (λ q. prepared_sized (then_on q (λ v. Some (v, bytes)))) g ∙ ap (λ n. prepared_sized (counted n bytes)) f ∙ sym turn

sized-back : (x : Option (Packing × List ℕ)) (p : Packing) (size : ℕ) (l : List ℕ) → Some (p, (size, l)) ≡ prepared_sized x → (x ≡ Some (p, l)) × (length l ≡ size)
sized-back None p size l e = absurd (let z : ◌≡◌ {A = ℕ} 0 1 = cc in omega arith)
sized-back (Some q) p size l e =
    let same : ◌≡◌ {A = Packing × (ℕ × List ℕ)} (p, (size, l)) (q.0, (length q.1, q.1)) = cc in
    let bytes : l ≡ q.1 = ap (λ (t : Packing × (ℕ × List ℕ)). t.1.1) same in
    let first : p ≡ q.0 = ap (λ (t : Packing × (ℕ × List ℕ)). t.0) same in
    let both : ◌≡◌ {A = Packing × List ℕ} (q.0, q.1) (p, l) =
    ap (λ v. (v, q.1)) (sym first) ∙ ap (λ v. (p, v)) (sym bytes) in
    (ap Some both, ap length bytes ∙ sym (ap (λ (t : Packing × (ℕ × List ℕ)). t.1.0) same))

sized-back_none : (x : Option (Packing × List ℕ)) → None ≡ prepared_sized x → x ≡ None
sized-back_none None e = refl
sized-back_none (Some q) e = absurd (let z : ◌≡◌ {A = ℕ} 0 1 = cc in omega arith)

module _ (ready : ℕ → Bool) (seals : ℕ → List ℕ → List ℕ) (room channel : ℕ) (rest : List ℕ) where
  pub data_none : None ≡ prepared_sized (prepared_of 4096 channel rest) → None ≡ sized (fitting room (data_of ready seals channel rest))
  unfolding data_of
  data_none e = sym (ap (λ x. sized (fitting room (then_on x (λ p. packed_record (packed_of ready seals p.0 p.1))))) (sized-back_none (prepared_of 4096 channel rest) e))

  module _ (p : Packing) (size : ℕ) (l : List ℕ) (e : Some (p, (size, l)) ≡ prepared_sized (prepared_of 4096 channel rest)) where
    data_is : data_of ready seals channel rest ≡ packed_record (packed_of ready seals p l)
    unfolding data_of
    data_is = ap (λ x. then_on x (λ q. packed_record (packed_of ready seals q.0 q.1))) (sized-back (prepared_of 4096 channel rest) p size l e).0

    pub data_refused : (r : Result ℕ Refusal) (buffer : List ℕ) → None ≡ result_ok r → packed_in r buffer ≡ packed_of ready seals p l
        → None ≡ sized (fitting room (data_of ready seals channel rest))
    data_refused (Ok n) buffer h f = absurd (let z : ◌≡◌ {A = ℕ} 0 1 = cc in omega arith)
    data_refused (Err refusal) buffer h f = sym (ap (λ x. sized (fitting room x)) (data_is ∙ ap packed_record (sym f)))

    pub data_put : (n : ℕ) (buffer : List ℕ) → Ok (take n buffer) ≡ packed_of ready seals p l
        → sized (fitting room (Some (datagram_record (take n buffer)))) ≡ sized (fitting room (data_of ready seals channel rest))
    data_put n buffer f = sym (ap (λ x. sized (fitting room x)) (data_is ∙ ap packed_record (sym f)))
