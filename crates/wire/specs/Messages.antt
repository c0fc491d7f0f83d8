-- What a split body holds.
use Rattle.std.specs.Prelude.{ℕ, List, map, Ok, Err, Result}
use Rattle.base.specs.Fields.{be}
use Rattle.base.specs.declared.refusal.Refusal.{Refusal}
use Rattle.wire.specs.Splitting.{cut}
use Rattle.wire.specs.declared.messages.Messages.{Messages}

abbrev pub lengths_in : Messages → List ℕ
lengths_in m = map (λ four. be 4 four 0) m.lengths.now

abbrev pub messages_in : Messages → List (List ℕ)
messages_in m = cut (lengths_in m) m.bytes.now

abbrev pub split_in : Result Messages Refusal → Result (List (List ℕ)) Refusal
split_in (Ok m) = Ok (messages_in m)
split_in (Err e) = Err e
