use Rattle.std.proofs.Common.{◌≡◌, is_some, Ok, Err, sym, ap, ◌∙◌, subst, arith}
use Rattle.partials.specs.Joining.{again, kept, whole, refused, bytes_of}
use Rattle.partials.specs.Meaning.{partials_of}
use Rattle.account.specs.Arriving.{Coder, coder_of, with_partials, comes_to, ended_by, ends_if_ok, whole_of}
use Rattle.account.specs.Joined.{JoinedTo}
use Rattle.account.specs.States.{numbers_of, state_of, done}
use Rattle.account.specs.declared.answer.Answer.TheVariants as answers
use Rattle.account.proofs.Datas.{came_refused, came_again, came_kept, came_whole, coded-there, data_by, err_is}
use Rattle.account.proofs.account.Account.take_data.Goals as goal

pub returns-in_default : goal.returns-in_default
returns-in_default g c gaps =
    let s = state_of (numbers_of c.args.self.now) (g.S.Shelf.holding c.args.shelf.now) (partials_of c.args.partials.now) gaps (g.O.Outlet.listing c.args.outlet.now) in
    let p = c.args.arrival.packet in
    let d = c.args.arrival.datagram.now in
    let o = comes_to s.partials p d in
    let came = came_refused p d c.join-joined.new.joining s.partials (partials_of c.join-joined.new.partials) o c.unwrap_err.result
    (subst (λ r. JoinedTo o p d s.partials r (partials_of c.join-joined.new.partials) c.join-joined.new.joining) c.unwrap_err.ensures c.join-joined.ensures) in
    ap (λ ps. done (Err c.unwrap_err.result) (with_partials s ps)) came.1 ∙ data_by _ s p d (omega arith) (refused c.unwrap_err.result) came.0

pub returns-in-Again : goal.returns-in-Again
returns-in-Again g c gaps =
    let s = state_of (numbers_of c.args.self.now) (g.S.Shelf.holding c.args.shelf.now) (partials_of c.args.partials.now) gaps (g.O.Outlet.listing c.args.outlet.now) in
    let p = c.args.arrival.packet in
    let d = c.args.arrival.datagram.now in
    let o = comes_to s.partials p d in
    let came = came_again p d c.join-joined.new.joining s.partials (partials_of c.join-joined.new.partials) o
    (subst (λ r. JoinedTo o p d s.partials r (partials_of c.join-joined.new.partials) c.join-joined.new.joining) (c.in-Ok.is ∙ ap Ok c.in-Again.is) c.join-joined.ensures) in
    ap (λ ps. done (Ok answers.FragmentAgain) (with_partials s ps)) came.1 ∙ data_by _ s p d (omega arith) again came.0

pub returns-in-Kept : goal.returns-in-Kept
returns-in-Kept g c gaps =
    let s = state_of (numbers_of c.args.self.now) (g.S.Shelf.holding c.args.shelf.now) (partials_of c.args.partials.now) gaps (g.O.Outlet.listing c.args.outlet.now) in
    let p = c.args.arrival.packet in
    let d = c.args.arrival.datagram.now in
    let o = comes_to s.partials p d in
    let qs = partials_of c.join-joined.new.partials in
    data_by _ s p d (omega arith) (kept qs (bytes_of o))
    (came_kept p d c.join-joined.new.joining s.partials qs o
    (subst (λ r. JoinedTo o p d s.partials r qs c.join-joined.new.joining) (c.in-Ok.is ∙ ap Ok c.in-Kept.is) c.join-joined.ensures))

pub whole_body-coded-requires : goal.whole_body-coded-requires
whole_body-coded-requires g c =
    let p = c.args.arrival.packet in
    let d = c.args.arrival.datagram.now in
    let ps = partials_of c.args.partials.now in
    let qs = partials_of c.join-joined.new.partials in
    ap is_some (coded-there p d c.join-joined.new.joining ps qs (comes_to ps p d) c.in-Whole.size
    (subst (λ r. JoinedTo (comes_to ps p d) p d ps r qs c.join-joined.new.joining) (c.in-Ok.is ∙ ap Ok c.in-Whole.is) c.join-joined.ensures))

pub returns-in_err-taken : goal.returns-in_err-taken
returns-in_err-taken g c gaps =
    let s = state_of (numbers_of c.args.self.now) (g.S.Shelf.holding c.args.shelf.now) (partials_of c.args.partials.now) gaps (g.O.Outlet.listing c.args.outlet.now) in
    let p = c.args.arrival.packet in
    let d = c.args.arrival.datagram.now in
    let o = comes_to s.partials p d in
    let qs = partials_of c.join-joined.new.partials in
    let coder : Coder = coder_of (g.C.OpeningCoder.ready c.args.coder.now) (g.C.OpeningCoder.opens c.args.coder.now) in
    let coded = c.whole_body-coded.result.bytes.now in
    let came = came_whole p d c.join-joined.new.joining s.partials qs o c.in-Whole.size coded
    (subst (λ r. JoinedTo o p d s.partials r qs c.join-joined.new.joining) (c.in-Ok.is ∙ ap Ok c.in-Whole.is) c.join-joined.ensures) c.whole_body-coded.ensures in
    let refusal = c.in_err-taken.field-0.0 in
    let t = state_of (numbers_of c.take_whole.new.self) (g.S.Shelf.holding c.take_whole.new.shelf) s.partials gaps (g.O.Outlet.listing c.take_whole.new.outlet) in
    let taken : done (Err refusal) t ≡ whole_of coder s p coded = ap (λ r. done r t) (sym c.in_err-taken.was) ∙ c.take_whole.ensures s.partials gaps in
    let same : c.from_residual.result ≡ Err refusal = err_is c.from_residual.result refusal c.from_residual.ensures.1 in
    (λ i. done (same i) (with_partials t (came.1 i))) ∙ ap (λ x. ends_if_ok x p) taken ∙ data_by coder s p d (omega arith) (whole coded) came.0

pub returns : goal.returns
returns g c gaps =
    let s = state_of (numbers_of c.args.self.now) (g.S.Shelf.holding c.args.shelf.now) (partials_of c.args.partials.now) gaps (g.O.Outlet.listing c.args.outlet.now) in
    let p = c.args.arrival.packet in
    let d = c.args.arrival.datagram.now in
    let o = comes_to s.partials p d in
    let qs = partials_of c.join-joined.new.partials in
    let coder : Coder = coder_of (g.C.OpeningCoder.ready c.args.coder.now) (g.C.OpeningCoder.opens c.args.coder.now) in
    let coded = c.whole_body-coded.result.bytes.now in
    let came = came_whole p d c.join-joined.new.joining s.partials qs o c.in-Whole.size coded
    (subst (λ r. JoinedTo o p d s.partials r qs c.join-joined.new.joining) (c.in-Ok.is ∙ ap Ok c.in-Whole.is) c.join-joined.ensures) c.whole_body-coded.ensures in
    let t = state_of (numbers_of c.take_whole.new.self) (g.S.Shelf.holding c.take_whole.new.shelf) s.partials gaps (g.O.Outlet.listing c.take_whole.new.outlet) in
    let taken : done (Ok c.in_ok-taken.taken) t ≡ whole_of coder s p coded = ap (λ r. done r t) (sym c.in_ok-taken.was) ∙ c.take_whole.ensures s.partials gaps in
    ap (λ ps. done (Ok c.in_ok-taken.taken) (with_partials t ps)) (c.end_joined.ensures ∙ ap (ended_by p.fragment p) came.1)
    ∙ ap (λ x. ends_if_ok x p) taken
    ∙ data_by coder s p d (omega arith) (whole coded) came.0
