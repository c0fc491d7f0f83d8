-- What a heap means: its rows in number order, and the spare rows.
use Rattle.std.specs.Prelude.{List, take, drop}
use Rattle.rows.specs.declared.row.Row.{Row}
use Rattle.shelves.specs.Sifting.{sort_by}
use Rattle.shelves.specs.declared.heaping.Heap.{Heap}
use Rattle.shelves.specs.declared.held.Held.{Held}

abbrev pub heap_rows : Heap → List (Row Held)
heap_rows h = sort_by (take h.len h.rows.now)

abbrev pub heap_spares : Heap → List (Row Held)
heap_spares h = drop h.len h.rows.now
