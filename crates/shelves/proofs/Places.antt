-- Places in the lent bytes: what a body that is written into one leaves.
use Rattle.std.proofs.Common.{◌≡◌, ℕ, ◌+◌, ◌*◌, ◌≤◌, List, ◌++◌, length, take, drop, refl, ap, ◌∙◌, ⊎_elim, arith}
use Rattle.std.proofs.lemmas.Bool.{cases_lt}
use Rattle.std.proofs.lemmas.List.{take_at, drop_at, length-take-le, length-drop, take-take}
use Rattle.base.specs.Areas.{written_at}
use Rattle.base.specs.Limits.{body_room}
use Rattle.base.proofs.Areas.{part-below, drop-above}
use Rattle.shelves.specs.Racks.{bytes_at}

-- the body that was written, and the bytes of another place
pub body-written : (bytes body : List ℕ) (p : ℕ) → length body ≤ body_room → body_room * (p + 1) ≤ length bytes
    → take (length body) (bytes_at (written_at bytes (body_room * p) body) p) ≡ body
body-written bytes body p short inside =
    take-take (length body) body_room (drop (body_room * p) (written_at bytes (body_room * p) body)) short
    ∙ ap (take (length body)) (drop_at (take (body_room * p) bytes) (body ++ drop (body_room * p + length body) bytes) (body_room * p) (length-take-le (body_room * p) bytes (omega arith)))
    ∙ take_at body (drop (body_room * p + length body) bytes) (length body) refl

pub other_place : (bytes body : List ℕ) (p q : ℕ) → length body ≤ body_room → body_room * (p + 1) ≤ length bytes → (q ≡ p → ⊥)
    → bytes_at (written_at bytes (body_room * p) body) q ≡ bytes_at bytes q
other_place bytes body p q short inside ne =
    ⊎_elim (λ l. part-below bytes body (body_room * p) (body_room * q) body_room (omega arith) (omega arith))
    (λ l. ap (take body_room) (drop-above bytes body (body_room * p) (body_room * q) (omega arith) (omega arith))) (cases_lt q p)

-- the front of a place has its size
pub length_front : (bytes : List ℕ) (p size : ℕ) → body_room * (p + 1) ≤ length bytes → size ≤ body_room → length (take size (bytes_at bytes p)) ≡ size
length_front bytes p size inside short =
    let whole = length-take-le body_room (drop (body_room * p) bytes) (omega (arith, length-drop (body_room * p) bytes)) in
    length-take-le size (bytes_at bytes p) (omega arith)
