use Rattle.std.proofs.Common.{◌≡◌, true, false, ltb, sym, ◌∙◌, rules}
use Rattle.std.specs.List.Sorted.{IsPartitionPoint}
use Rattle.std.proofs.lemmas.List.Sorted.{IsPartitionPoint-from_clause, IsPartitionedBy-ltb}
use Rattle.rows.specs.Order.{ascends}
use Rattle.rows.specs.Meaning.{rows_of}
use Rattle.rows.specs.declared.row.Row.{Row}
use Rattle.rows.proofs.Orders.{ascends_non_decreasing, missed, told}
use Rattle.rows.proofs.list.OrderedList.index.Goals as goal

pub returns-in_err-row-clause-value : goal.returns-in_err-row-clause-value
returns-in_err-row-clause-value g c =
    let P = g.row.P.Denot in
    let xs = c.used.result.now in
    let order : ascends xs ≡ true = rw c.used.ensures c.args.self.now.sorted in
    let point : IsPartitionPoint (λ (x : Row P). ltb x.number c.args.number ≡ true) (λ (x : Row P). ltb x.number c.args.number ≡ false) xs c.partition_point-i.result =
    IsPartitionPoint-from_clause (λ (x : Row P). ltb x.number c.args.number) xs c.partition_point-i.result c.partition_point-i.ensures.partitioned
    (IsPartitionedBy-ltb (λ (r : Row P). r.number) xs c.args.number (ascends_non_decreasing xs order)) (λ a r q k. search rules) in
    c.from_residual.ensures ∙ sym (missed c.args.number (rows_of c.args.self.now) c.partition_point-i.result (rw c.used.ensures at point) (sym c.get.ensures ∙ c.in_err-row.was))

pub returns-clause-value : goal.returns-clause-value
returns-clause-value g c =
    let P = g.row.P.Denot in
    let xs = c.used.result.now in
    let order : ascends xs ≡ true = rw c.used.ensures c.args.self.now.sorted in
    let point : IsPartitionPoint (λ (x : Row P). ltb x.number c.args.number ≡ true) (λ (x : Row P). ltb x.number c.args.number ≡ false) xs c.partition_point-i.result =
    IsPartitionPoint-from_clause (λ (x : Row P). ltb x.number c.args.number) xs c.partition_point-i.result c.partition_point-i.ensures.partitioned
    (IsPartitionedBy-ltb (λ (r : Row P). r.number) xs c.args.number (ascends_non_decreasing xs order)) (λ a r q k. search rules) in
    c.then_some.ensures ∙ sym (told c.args.number (rows_of c.args.self.now) c.partition_point-i.result (rw c.used.ensures at point) c.args.self.now.sorted c.in_ok-row.row (sym c.get.ensures ∙ c.in_ok-row.was))
