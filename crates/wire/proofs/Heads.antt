-- The head read behind the first four bytes is the datagram's.
use Rattle.std.proofs.Common.{◌≡◌, ℕ, ◌-◌, ◌≤◌, List, [], ◌∷◌, length, get_or, take, drop, refl, ap, ◌∙◌, arith}
use Rattle.std.proofs.lemmas.List.{take_rest}
use Rattle.wire.specs.Header.{head_of}

head_of_drop : (d : List ℕ) → 4 ≤ length d → head_of (0 ∷ (0 ∷ (get_or d 2 0 ∷ (get_or d 3 0 ∷ drop 4 d)))) ≡ head_of d
head_of_drop [] h = absurd (omega arith)
head_of_drop (a ∷ []) h = absurd (omega arith)
head_of_drop (a ∷ (b ∷ [])) h = absurd (omega arith)
head_of_drop (a ∷ (b ∷ (c ∷ []))) h = absurd (omega arith)
head_of_drop (a ∷ (b ∷ (c ∷ (e ∷ rest)))) h = refl

pub head_of_rest : (d : List ℕ) → 4 ≤ length d → head_of (0 ∷ (0 ∷ (get_or d 2 0 ∷ (get_or d 3 0 ∷ take (length d - 4) (drop 4 d))))) ≡ head_of d
head_of_rest d h = ap (λ rest. head_of (0 ∷ (0 ∷ (get_or d 2 0 ∷ (get_or d 3 0 ∷ rest))))) (take_rest d 4) ∙ head_of_drop d h
