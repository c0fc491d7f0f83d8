-- The token of a coder.
use Rattle.std.specs.Prelude.{◌≡◌, ℕ, ◌<◌, ◌≤◌, List, length, Ok, Err, Result}
use Rattle.base.specs.Limits.{max_token}
use Rattle.base.specs.declared.refusal.Cause.TheVariants.{PartSize}
use Rattle.base.specs.declared.refusal.Refusal.{Refusal}
use Rattle.stores.specs.declared.token.TokenCoder.{TokenCoder}

-- The bytes of the token.
abbrev pub token_of : TokenCoder → List ℕ
token_of c = c.token.items

-- A token has 1 to 64 bytes.
abbrev pub Allowed : List ℕ → Type 0
Allowed token = (0 < length token) × (length token ≤ max_token)

-- What comes of making a coder: one with just this token where the token is allowed, else a refusal.
abbrev pub Made : List ℕ → Result TokenCoder Refusal → Type 0
Made token (Ok c) = Allowed token × (token_of c ≡ token)
Made token (Err e) = (Allowed token → ⊥) × (e ≡ record { cause = PartSize; value = 0 })
