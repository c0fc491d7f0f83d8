-- Both working buffers.
use Rattle.std.proofs.Common.{◌≡◌, ◌≢◌, ℕ, true, false, List, length}
use Rattle.std.proofs.lemmas.Bool.{eq-eqb, ne_eqb, and_from, and_right}
use Rattle.base.specs.Limits.{body_room}
use Rattle.account.specs.Releasing.{buffers_fit}

pub both_fit : (joining plain : List ℕ) → length joining ≡ body_room → length plain ≡ body_room → buffers_fit joining plain ≡ true
both_fit joining plain j p = and_from _ _ (eq-eqb _ _ j) (eq-eqb _ _ p)

pub second_unfit : (joining plain : List ℕ) → length plain ≢ body_room → buffers_fit joining plain ≡ false
second_unfit joining plain n = and_right _ _ (ne_eqb _ _ n)
