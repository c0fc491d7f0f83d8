use Rattle.std.proofs.Common.{sym, ◌∙◌}
use Rattle.wire.specs.Messages.{messages_in}
use Rattle.account.proofs.Deliveries.{as_many}
use Rattle.account.proofs.account.Account.take_whole.Goals as goal

pub place-requires : goal.place-requires
place-requires g c =
    let m = c.in-Ok-cut.messages in
    let e = c.in-Ok-cut.ensures in
    sym (as_many m) ∙ (e.exact.only (messages_in m) (sym e.value)).number
