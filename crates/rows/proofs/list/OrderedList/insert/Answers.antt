use Rattle.std.proofs.Common.{◌≡◌, ◌+◌, true, false, leb, ltb, length, take, sym, ◌∙◌, arith, rules}
use Rattle.std.specs.List.Sorted.{IsPartitionPoint}
use Rattle.std.proofs.lemmas.Bool.{lt-ltb, cond-true}
use Rattle.std.proofs.lemmas.List.{drop-drop, length-take-le}
use Rattle.std.proofs.lemmas.List.Sorted.{IsPartitionPoint-from_clause, IsPartitionedBy-leb}
use Rattle.rows.specs.Order.{ascends, insert_by}
use Rattle.rows.specs.Meaning.{rows_of, room_of}
use Rattle.rows.specs.declared.row.Row.{Row}
use Rattle.rows.proofs.Orders.{ascends_non_decreasing, insert_is, ascends-insert}
use Rattle.rows.proofs.list.OrderedList.insert.Goals as goal

pub invariant_of-self : goal.invariant_of-self
invariant_of-self g c =
    let P = g.row.P.Denot in
    let xs = c.used.result.now in
    let order : ascends xs ≡ true = rw c.used.ensures c.args.self.now.sorted in
    let point : IsPartitionPoint (λ (x : Row P). leb x.number c.args.row.number ≡ true) (λ (x : Row P). leb x.number c.args.row.number ≡ false) xs c.partition_point-i.result =
    IsPartitionPoint-from_clause (λ (x : Row P). leb x.number c.args.row.number) xs c.partition_point-i.result c.partition_point-i.ensures.partitioned
    (IsPartitionedBy-leb (λ (r : Row P). r.number) xs c.args.row.number (ascends_non_decreasing xs order)) (λ a r q k. search rules) in
    let put : take (c.args.self.now.len + 1) c.open_rows.new.rows ≡ insert_by c.args.row (rows_of c.args.self.now) =
    c.open_rows.ensures.after ∙ sym (insert_is c.args.row (rows_of c.args.self.now) c.partition_point-i.result
    (rw c.used.ensures at c.partition_point-i.ensures.bound) (rw c.used.ensures at point)) in
    record { fits = omega arith; sorted = rw put (ascends-insert c.args.row (rows_of c.args.self.now) c.args.self.now.sorted) }

pub returns-clause-after : goal.returns-clause-after
returns-clause-after g c =
    let P = g.row.P.Denot in
    let xs = c.used.result.now in
    let order : ascends xs ≡ true = rw c.used.ensures c.args.self.now.sorted in
    let point : IsPartitionPoint (λ (x : Row P). leb x.number c.args.row.number ≡ true) (λ (x : Row P). leb x.number c.args.row.number ≡ false) xs c.partition_point-i.result =
    IsPartitionPoint-from_clause (λ (x : Row P). leb x.number c.args.row.number) xs c.partition_point-i.result c.partition_point-i.ensures.partitioned
    (IsPartitionedBy-leb (λ (r : Row P). r.number) xs c.args.row.number (ascends_non_decreasing xs order)) (λ a r q k. search rules) in
    let put : take (c.args.self.now.len + 1) c.open_rows.new.rows ≡ insert_by c.args.row (rows_of c.args.self.now) =
    c.open_rows.ensures.after ∙ sym (insert_is c.args.row (rows_of c.args.self.now) c.partition_point-i.result
    (rw c.used.ensures at c.partition_point-i.ensures.bound) (rw c.used.ensures at point)) in
    let n = length-take-le c.args.self.now.len c.args.self.now.rows.now c.args.self.now.fits in
    let free : ltb (length (rows_of c.args.self.now)) (room_of c.args.self.now) ≡ true = lt-ltb _ _ (omega arith) in
    put ∙ sym (cond-true _ _ _ free)

pub returns-clause-spares : goal.returns-clause-spares
returns-clause-spares g c = c.open_rows.ensures.spares ∙ sym (drop-drop 1 c.args.self.now.len c.args.self.now.rows.now)
