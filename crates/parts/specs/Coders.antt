-- The laws of coders. A number is that of a packet's first message; a body is the list of its bytes.
use Rattle.std.specs.Prelude.{◌≡◌, ℕ, Bool, true, false, List, length}
use Rattle.base.specs.Areas.{Bytes}

-- Opening keeps the length, and changes nothing where the coder is not ready.
pub record Opening (ready : ℕ → Bool) (opens : ℕ → List ℕ → List ℕ) : Type 0 where
  pub lengths : (n : ℕ) (b : List ℕ) → length (opens n b) ≡ length b
  pub idle : (n : ℕ) (b : List ℕ) → ready n ≡ false → opens n b ≡ b

-- Where the coder is ready, opening and sealing undo each other. Sealing too keeps the length, and changes nothing where the coder is not ready.
pub record Inverse (ready : ℕ → Bool) (opens seals : ℕ → List ℕ → List ℕ) : Type 0 where
  pub unseals : (n : ℕ) (b : List ℕ) → Bytes b → ready n ≡ true → opens n (seals n b) ≡ b
  pub reseals : (n : ℕ) (b : List ℕ) → Bytes b → ready n ≡ true → seals n (opens n b) ≡ b
  pub lengths : (n : ℕ) (b : List ℕ) → length (seals n b) ≡ length b
  pub idle : (n : ℕ) (b : List ℕ) → ready n ≡ false → seals n b ≡ b
