-- What the packer answered is its datagram at the front of the buffer, or its refusal.
use Rattle.std.proofs.Common.{◌≡◌, ℕ, ◌-◌, ◌≤◌, Bool, cond, not, eqb, List, length, take, replicate, IfOk, Ok, Err, Result, refl, ap, ◌∙◌, arith, length-append}
use lib.ListN.{length-replicate}
use Rattle.std.proofs.lemmas.List.{take_at}
use Rattle.std.proofs.lemmas.Bool.Decides.{nat_tests}
use Rattle.base.specs.declared.refusal.Cause.TheVariants.{BufferSize}
use Rattle.base.specs.declared.refusal.Refusal.{Refusal}
use Rattle.sending.specs.Packing.{refused_by, packed_of, packed_into, length_in, buffer_after}
use Rattle.sending.specs.declared.packing.Packing.{Packing}
use Rattle.composing.specs.Data.{packed_in}

sized-buffer : (n : ℕ) (x y : Result (List ℕ) Refusal) → n ≡ 1472 → cond (not (eqb n 1472)) x y ≡ y
sized-buffer n x y e = grind (arith, nat_tests)

front_of_lem : (x : Result (List ℕ) Refusal) (r : Result ℕ Refusal) (buffer after : List ℕ) → r ≡ length_in x → after ≡ buffer_after buffer x → packed_in r after ≡ x
front_of_lem (Ok d) r buffer after a b =
    ap (λ q. packed_in q after) a ∙ ap Ok (ap (take (length d)) b ∙ take_at d (replicate (1472 - length d) 0) (length d) refl)
front_of_lem (Err e) r buffer after a b = ap (λ q. packed_in q after) a

within_of : (x : Result (List ℕ) Refusal) (r : Result ℕ Refusal) (buffer after : List ℕ) → r ≡ length_in x → after ≡ buffer_after buffer x → length after ≡ 1472
    → IfOk r (λ n. n ≤ 1472)
within_of x (Err e) buffer after a b l = tt
within_of (Err e) (Ok n) buffer after a b l = absurd (let z : ◌≡◌ {A = ℕ} 0 1 = cc in omega arith)
within_of (Ok d) (Ok n) buffer after a b l =
    let size : n ≡ length d = cc in
    omega (arith, ap length b, length-append d (replicate (1472 - length d) 0), length-replicate {A = ℕ} (1472 - length d) 0)

module _ (ready : ℕ → Bool) (seals : ℕ → List ℕ → List ℕ) (p : Packing) (plain buffer after : List ℕ) (r : Result ℕ Refusal)
    (a : r ≡ length_in (packed_into ready seals p plain buffer)) (b : after ≡ buffer_after buffer (packed_into ready seals p plain buffer)) where
  pub packed-front : length buffer ≡ 1472 → packed_in r after ≡ packed_of ready seals p plain
  packed-front l =
      front_of_lem (packed_into ready seals p plain buffer) r buffer after a b
      ∙ sized-buffer (length buffer) (Err (refused_by BufferSize)) (packed_of ready seals p plain) l

  pub packed-within : length after ≡ 1472 → IfOk r (λ n. n ≤ 1472)
  packed-within l = within_of (packed_into ready seals p plain buffer) r buffer after a b l
