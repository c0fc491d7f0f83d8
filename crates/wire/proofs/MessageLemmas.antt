-- What the type of split messages says of them.
use Rattle.std.proofs.Common.{◌≡◌, map, length, sum, sym, arith, ◌∙◌}
use Rattle.std.proofs.lemmas.List.Sums.{sum-map}
use Rattle.base.specs.Fields.{be}
use Rattle.wire.specs.Messages.{lengths_in, messages_in}
use Rattle.wire.specs.Splitting.{joined}
use Rattle.wire.specs.declared.messages.Messages.{Messages}
use Rattle.wire.proofs.Exactly.{joined-cut, lengths_of_cut}

-- the lengths add up to the bytes
pub sum-lengths_in : (m : Messages) → sum (lengths_in m) ≡ length m.bytes.now
sum-lengths_in m = sum-map (λ four. be 4 four 0) m.lengths.now ∙ m.whole

-- they are those of the messages
pub lengths_in_lem : (m : Messages) → lengths_in m ≡ map length (messages_in m)
lengths_in_lem m = sym (lengths_of_cut (lengths_in m) m.bytes.now (omega (arith, sum-lengths_in m)))

-- the messages are all the bytes
pub joined-messages_in : (m : Messages) → joined (messages_in m) ≡ m.bytes.now
joined-messages_in m = joined-cut (lengths_in m) m.bytes.now (sum-lengths_in m)
