-- The body of a packet: coded as it came, and plain.
use Rattle.std.specs.Prelude.{ℕ, ◌-◌, ◌*◌, cond, ◌&&◌, List, length, take, drop, Some, None, Ok, Err, Option, Result, ◌==◌, nat_le}
use Rattle.base.specs.Adler.{adler_of}
use Rattle.base.specs.declared.refusal.Cause.TheVariants.{BodyChecksum}
use Rattle.base.specs.declared.refusal.Refusal.{Refusal}
use Rattle.wire.specs.declared.datagram.Fragment.{Fragment}
use Rattle.wire.specs.declared.datagram.Packet.{Packet}

-- the bytes from one place to another, where they are there
abbrev pub part_of : ℕ → ℕ → List ℕ → Option (List ℕ)
part_of from to bytes = cond (nat_le from to && nat_le to (length bytes)) (Some (take (to - from) (drop from bytes))) None

-- A coded body is a part of the datagram; that of fragments, the front of what they were joined to.
abbrev pub coded_in : Option Fragment → ℕ → ℕ → List ℕ → ℕ → List ℕ → Option (List ℕ)
coded_in None start end datagram filled joined = part_of start end datagram
coded_in (Some f) start end datagram filled joined = part_of 0 filled joined

abbrev pub coded_of : Packet → List ℕ → ℕ → List ℕ → Option (List ℕ)
coded_of p datagram filled joined = coded_in p.fragment p.start p.end datagram filled joined

-- A plain body has the checksum that its packet names, if it names one; the checksum is the header's last word.
abbrev pub checked_by : Option ℕ → ℕ → List ℕ → Result (Unit {0}) Refusal
checked_by None place plain = Ok tt
checked_by (Some sum) place plain = cond (adler_of plain == sum) (Ok tt) (Err (record { cause = BodyChecksum; value = place }))

abbrev pub checked_of : Packet → List ℕ → Result (Unit {0}) Refusal
checked_of p plain = checked_by p.checksum (4 * p.header_size - 4) plain
