-- What the rows and the memory of a table mean.
use Rattle.std.specs.Prelude.{List}
use Rattle.partials.specs.Joining.{Partial}
use Rattle.partials.specs.Places.{partials_at}
use Rattle.partials.specs.declared.table.Table.{Table}

abbrev pub partials_in : Table → List Partial
partials_in t = partials_at t.memory.now t.rows t.len
