use Rattle.std.proofs.Common.{◌≡◌, ◌+◌, take, is_ok, Err, false, true, sym, ap, ◌∙◌, arith}
use Rattle.std.proofs.lemmas.Bool.{cond-true, cond-false, le-leb, lt-leb, and_from, and_left, and_right}
use Rattle.parts.specs.Entries.{delivered}
use Rattle.parts.specs.Given.{entry_of}
use Rattle.parts.specs.Listings.{fits, with_entry}
use Rattle.wire.specs.Messages.{messages_in}
use Rattle.wire.proofs.Cuts.{lengths-all}
use Rattle.account.specs.Delivering.{entries_from, all_fit}
use Rattle.account.proofs.Deliveries.{turn_at, left_is, all_left, all_put, fit_by}
use Rattle.account.proofs.delivering.deliver.Goals as goal
use Rattle.account.proofs.delivering.deliver.Goals.{then-entries_left-messages-via-then-entries_left-messages, then-entries_left-messages-via-else-entries_left-messages+then-bytes_left-messages}

pub returns-then-entries_left-messages : goal.returns-then-entries_left-messages
returns-then-entries_left-messages g c =
    let l = g.O.Outlet.listing c.args.outlet.now in
    let unfit = elim c.then-entries_left-messages.branch as (λ _. all_fit l (entries_from c.args.first (messages_in c.args.messages)) ≡ false) [
      | then-entries_left-messages-via-then-entries_left-messages w ↦
          fit_by l c.args.first c.args.messages ∙ and_left _ _ (lt-leb _ l.entries_left (omega (arith, w.if-entries_left-messages.true, c.entries_left.ensures)))
      | then-entries_left-messages-via-else-entries_left-messages+then-bytes_left-messages w ↦
          fit_by l c.args.first c.args.messages ∙ and_right _ _ (lt-leb _ l.bytes_left (omega (arith, w.if-bytes_left-messages.true, w.bytes_left.ensures)))
    ] in
    record { answer = ap Err c.new.ensures ∙ sym (cond-false _ _ _ unfit); after = sym (cond-false _ _ _ unfit) }

pub messages-init : goal.messages-init
messages-init g c = all_left _ c.args.first c.args.messages (omega (arith, c.entries_left.ensures)) (omega (arith, c.bytes_left.ensures))

pub split_at-requires : goal.split_at-requires
split_at-requires g c =
    (turn_at _ _ (c.args.first + c.messages.i) c.messages.i c.from_be_bytes.result c.args.messages.lengths.now c.messages.rest.now c.messages-test.true (omega arith)
    c.messages.invariant).ends

pub unwrap-requires : goal.unwrap-requires
unwrap-requires g c =
    let l = g.O.Outlet.listing c.messages.outlet in
    let n = c.from_be_bytes.result in
    let t = turn_at _ l (c.args.first + c.messages.i) c.messages.i n c.args.messages.lengths.now c.messages.rest.now c.messages-test.true (omega arith) c.messages.invariant in
    let entry : entry_of c.delivered.result ≡ delivered (c.args.first + c.messages.i) (take n c.messages.rest.now) =
    c.delivered.ensures ∙ ap (delivered (c.args.first + c.messages.i)) c.split_at.ensures.front in
    ap is_ok (c.put.ensures.answer ∙ cond-true _ _ _ (ap (fits l) entry ∙ t.fits_one))

pub messages-preserved : goal.messages-preserved
messages-preserved g c =
    let l = g.O.Outlet.listing c.messages.outlet in
    let n = c.from_be_bytes.result in
    let t = turn_at _ l (c.args.first + c.messages.i) c.messages.i n c.args.messages.lengths.now c.messages.rest.now c.messages-test.true (omega arith) c.messages.invariant in
    let entry : entry_of c.delivered.result ≡ delivered (c.args.first + c.messages.i) (take n c.messages.rest.now) =
    c.delivered.ensures ∙ ap (delivered (c.args.first + c.messages.i)) c.split_at.ensures.front in
    left_is _ _ _ _ _ _ _ _ (c.put.ensures.after ∙ cond-true _ _ _ (ap (fits l) entry ∙ t.fits_one) ∙ ap (with_entry l) entry) (omega arith) c.split_at.ensures.back t.left

pub returns : goal.returns
returns g c =
    let l = g.O.Outlet.listing c.args.outlet.now in
    let fit : all_fit l (entries_from c.args.first (messages_in c.args.messages)) ≡ true =
    fit_by l c.args.first c.args.messages ∙ and_from _ _ (le-leb _ l.entries_left (omega (arith, c.entries_left.ensures))) (le-leb _ l.bytes_left (omega (arith, c.bytes_left.ensures))) in
    record {
      answer = sym (cond-true _ _ _ fit);
      after = all_put _ _ (c.args.first + c.messages.i) _ c.messages.rest.now
          (lengths-all (λ ns. ns) c.args.messages.lengths.now c.messages.i c.messages-test.false) c.messages.invariant ∙ sym (cond-true _ _ _ fit);
    }
