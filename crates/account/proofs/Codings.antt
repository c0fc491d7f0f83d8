-- What the coding layer did.
use Rattle.std.proofs.Common.{◌≡◌, ℕ, Bool, true, false, cond, List, Ok, Err, Result, refl}
use Rattle.base.specs.declared.refusal.Refusal.{Refusal}
use Rattle.wire.specs.Bodies.{checked_of}
use Rattle.wire.specs.Reading.{and_then}
use Rattle.wire.specs.declared.datagram.Packet.{Packet}
use Rattle.account.specs.Arriving.{Coder, opened_by, plain_of}
use Rattle.account.specs.Opened.{unit_of}

then_ok : (b : Bool) (e : Refusal) (checked : Result (Unit {0}) Refusal) (x : List ℕ)
    → Ok tt ≡ unit_of (cond b (Err e) (and_then checked (λ _. Ok x))) → cond b (Err e) (and_then checked (λ _. Ok x)) ≡ Ok x
then_ok true e checked x is = absurd (cc)
then_ok false e (Ok u) x is = refl
then_ok false e (Err f) x is = absurd (cc)

pub plain_ok : (c : Coder) (p : Packet) (coded : List ℕ) → Ok tt ≡ unit_of (plain_of c p coded) → plain_of c p coded ≡ Ok (opened_by c p coded)
unfolding plain_of
plain_ok c p coded is = then_ok _ _ (checked_of p (opened_by c p coded)) (opened_by c p coded) is
