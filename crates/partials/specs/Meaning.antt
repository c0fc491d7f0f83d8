-- What the lent memory means.
use Rattle.std.specs.Prelude.{List, map}
use Rattle.std.proofs.Common.{arith, length-take}
use Rattle.partials.specs.Joining.{Partial}
use Rattle.partials.specs.Known.{Known}
use Rattle.partials.specs.Places.{partial_for}
use Rattle.partials.specs.Tables.{partials_in}
use Rattle.partials.specs.declared.reassembly.Partials.{Partials}

-- The packets in reassembly, the one begun first at the head.
abbrev pub partials_of : Partials → List Partial
partials_of p = partials_in p.table

pub partials-known : (p : Partials) → Known (partials_of p)
partials-known p =
    record {
      few = omega (arith, length-take p.table.len (map (partial_for p.table.memory.now) p.table.rows), p.table.few);
      apart = p.apart;
      each = p.each;
    }
