use Rattle.std.proofs.Common.{sym, arith}
use Rattle.wire.specs.Messages.{messages_in}
use Rattle.account.proofs.Deliveries.{as_many}
use Rattle.account.proofs.account.Account.release_next.Goals as goal

pub deliver_all-requires : goal.deliver_all-requires
deliver_all-requires g c =
    let m = c.in_ok-messages.messages in
    let e = c.in_ok-messages.ensures in
    omega (arith, as_many m, (e.exact.only (messages_in m) (sym e.value)).number, c.args.self.now.expects)
