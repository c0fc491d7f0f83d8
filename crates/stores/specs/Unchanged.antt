-- A body that stays as it is.
use Rattle.std.specs.Prelude.{false, refl}
use Rattle.parts.specs.Coders.{Opening}

pub unchanged_opening : Opening (λ _. false) (λ _ b. b)
unchanged_opening = record { lengths = λ _ _. refl; idle = λ _ _ _. refl }
