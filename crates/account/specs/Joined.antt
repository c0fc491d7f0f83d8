-- What the joining layer did.
use Rattle.std.specs.Prelude.{◌≡◌, ℕ, List, length, Some, Result}
use Rattle.base.specs.declared.refusal.Refusal.{Refusal}
use Rattle.partials.specs.Joining.{Partial, Outcome, refused, again, kept, whole, answer_of, after_of}
use Rattle.partials.specs.declared.head.Joined.{Joined}
use Rattle.wire.specs.Bodies.{coded_of}
use Rattle.wire.specs.declared.datagram.Packet.{Packet}

-- A coded body stands where the packet's reading says: in the datagram or in the joining buffer.
abbrev pub CodedIn : Outcome → Packet → List ℕ → List ℕ → Type 0
CodedIn (refused refusal) p datagram joining = Unit {0}
CodedIn again p datagram joining = Unit {0}
CodedIn (kept ps bytes) p datagram joining = Unit {0}
CodedIn (whole coded) p datagram joining = coded_of p datagram (length coded) joining ≡ Some coded

pub record JoinedTo (o : Outcome) (p : Packet) (datagram : List ℕ) (ps : List Partial) (r : Result Joined Refusal) (qs : List Partial) (joining : List ℕ) : Type 0 where
  pub answer : r ≡ answer_of o
  pub after : qs ≡ after_of o ps
  pub coded : CodedIn o p datagram joining
