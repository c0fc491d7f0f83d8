-- What the coding layer did.
use Rattle.std.specs.Prelude.{ℕ, List, Ok, Err, Result}
use Rattle.base.specs.declared.refusal.Refusal.{Refusal}
use Rattle.account.specs.declared.body.Body.{Body}

abbrev pub unit_of : Result (List ℕ) Refusal → Result (Unit {0}) Refusal
unit_of (Ok plain) = Ok tt
unit_of (Err refusal) = Err refusal

-- the bytes of a body that was opened
abbrev pub opened_to : Result Body Refusal → Result (List ℕ) Refusal
opened_to (Ok body) = Ok body.bytes.now
opened_to (Err refusal) = Err refusal
