use Rattle.std.proofs.Common.{◌+◌, drop}
use Rattle.wire.specs.Messages.{lengths_in, messages_in}
use Rattle.account.specs.Delivering.{entries_from, with_all}
use Rattle.account.proofs.Deliveries.{Left}
use Rattle.account.proofs.delivering.deliver.Given as goal

abbrev pub invariant-messages : goal.invariant-messages
invariant-messages g l =
    Left (with_all (g.O.Outlet.listing l.initial.outlet) (entries_from l.first (messages_in l.messages))) (g.O.Outlet.listing l.outlet)
    (l.first + l.i) (drop l.i (lengths_in l.messages)) l.rest
