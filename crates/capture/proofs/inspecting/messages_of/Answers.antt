use Rattle.std.proofs.Common.{◌≡◌, ℕ, ◌*◌, ◌≤◌, List, map, length, IfOk, Ok, Err, Result, sym, ap, arith}
use Rattle.std.proofs.lemmas.List.{length-map}
use Rattle.base.specs.declared.refusal.Refusal.{Refusal}
use Rattle.wire.specs.Messages.{split_in, lengths_in, messages_in}
use Rattle.wire.specs.Splitting.{split_of, Exact}
use Rattle.wire.specs.declared.messages.Messages.{Messages}
use Rattle.wire.proofs.Exactly.{table_fits_lem}
use Rattle.capture.proofs.inspecting.messages_of.Goals as goal

few : (count : ℕ) (plain : List ℕ) (r : Result Messages Refusal) → Exact count plain → split_in r ≡ split_of count plain
    → IfOk r (λ m. lengths_in m ≡ map length (messages_in m)) → IfOk r (λ m. 4 * length (lengths_in m) ≤ length plain)
few count plain (Ok m) exact e l =
    let fits = table_fits_lem count plain (messages_in m) (exact.only (messages_in m) (sym e)) in
    omega (arith, fits, ap length l, length-map (messages_in m) length)
few count plain (Err e) exact _ l = tt

pub returns-clause-few : goal.returns-clause-few
returns-clause-few c =
    few c.args.packet.count c.args.plain.now c.split.result c.split.ensures.exact c.split.ensures.value c.split.ensures.lengths
