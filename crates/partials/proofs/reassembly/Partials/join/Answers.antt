use Rattle.std.proofs.Common.{◌≡◌, length, Err, sym, ap, ◌∙◌, rules}
use Rattle.base.specs.Areas.{written_at}
use Rattle.base.specs.Limits.{body_room}
use Rattle.base.specs.declared.refusal.Cause.TheVariants.{Fragment}
use Rattle.partials.specs.Joining.{answer_of, after_of, bytes_of, join_in, join_at}
use Rattle.partials.specs.Known.{distinct, all_unfinished}
use Rattle.partials.specs.Meaning.{partials_of}
use Rattle.partials.proofs.Keeps.{join_misplaced, join_placed}
use Rattle.partials.proofs.Standing.{join_lasts, answer-short}
use Rattle.partials.proofs.reassembly.Partials.join.Goals as goal

pub returns-in_err-new : goal.returns-in_err-new
returns-in_err-new c =
    let ps = partials_of c.args.self.now in
    let was = c.args.joining.now in
    let same : c.in_ok-joining.joining.now ≡ was = search rules in
    let size : length was ≡ body_room = search rules in
    let o = sym (join_misplaced was ps c.args.head c.args.number c.args.piece.now size c.in_err-new.ensures.misplaced) in
    let r : c.from_residual-in_err-new.result ≡ Err (record { cause = Fragment; value = 20 }) = search rules in
    record {
      answer = r ∙ ap answer_of o;
      after = ap (λ x. after_of x ps) o;
      buffer = same ∙ ap (λ x. written_at was 0 (bytes_of x)) o;
      short = rw r tt;
    }

pub invariant_of-self-2 : goal.invariant_of-self-2
invariant_of-self-2 c =
    let p = c.args.self.now in
    let placed = c.in_ok-new.field-0 in
    let m = c.join.ensures in
    let l = join_lasts (partials_of p) placed.head placed.index placed.bytes.now p.apart p.each in
    record { apart = ap distinct m.after ∙ l.0; each = ap all_unfinished m.after ∙ l.1 }

pub returns : goal.returns
returns c =
    let ps = partials_of c.args.self.now in
    let placed = c.in_ok-new.field-0 in
    let was = c.args.joining.now in
    let same : c.in_ok-joining.joining.now ≡ was = search rules in
    let size : length was ≡ body_room = search rules in
    let m = c.join.ensures in
    let e = c.in_ok-new.ensures in
    let o : join_at ps placed.head placed.index placed.bytes.now ≡ join_in was ps c.args.head c.args.number c.args.piece.now =
    rw (e.head, e.index, e.bytes) (sym (join_placed was ps c.args.head c.args.number c.args.piece.now size e.placed)) in
    let answer = m.answer ∙ ap answer_of o in
    record {
      answer = answer;
      after = m.after ∙ ap (λ x. after_of x ps) o;
      buffer = m.buffer ∙ ap (λ xs. written_at xs 0 (bytes_of (join_at ps placed.head placed.index placed.bytes.now))) same
          ∙ ap (λ x. written_at was 0 (bytes_of x)) o;
      short = answer-short c.join.result was ps c.args.head c.args.number c.args.piece.now answer;
    }
