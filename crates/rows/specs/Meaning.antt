-- What an ordered list means: its rows in order, the spare rows behind them, and how many it has room for.
use Rattle.std.specs.Prelude.{ℕ, cond, List, length, take, drop, Ok, Err, Result, nat_lt}
use Rattle.rows.specs.Order.{insert_by}
use Rattle.rows.specs.declared.row.Row.{Row}
use Rattle.rows.specs.declared.list.OrderedList.{OrderedList}
use Rattle.rows.specs.declared.list.Full.{Full}

abbrev pub rows_of : {P : Type 0} → OrderedList P → List (Row P)
rows_of l = take l.len l.rows.now

abbrev pub spares_of : {P : Type 0} → OrderedList P → List (Row P)
spares_of l = drop l.len l.rows.now

abbrev pub room_of : {P : Type 0} → OrderedList P → ℕ
room_of l = length l.rows.now

-- An insertion is refused only where no row is free, and then nothing changes.
abbrev pub insert_answer : {P : Type 0} → ℕ → List (Row P) → Result (Unit {0}) Full
insert_answer room rows = cond (nat_lt (length rows) room) (Ok tt) (Err (record {}))

abbrev pub insert_leaves : {P : Type 0} → ℕ → Row P → List (Row P) → List (Row P)
insert_leaves room r rows = cond (nat_lt (length rows) room) (insert_by r rows) rows
