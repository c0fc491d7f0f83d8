use Rattle.std.proofs.Common.{◌≡◌, take, Some, Ok, Err, sym, refl, ap, ◌∙◌, rules}
use Rattle.parts.specs.Entries.{delivered}
use Rattle.parts.specs.Given.{entry_of}
use Rattle.parts.specs.Holdings.{read_answer}
use Rattle.parts.specs.Listings.{fits, with_entry}
use Rattle.parts.proofs.Listed.{put_by, refused-by}
use Rattle.parts.proofs.Lowest.{lowest_is, read_ok}
use Rattle.combinations.specs.Passing.{Passed}
use Rattle.combinations.proofs.Passes.{after_read, message, full, done}
use Rattle.combinations.proofs.passing.pass_lowest.Goals as goal

pub unwrap-sizes-requires : goal.unwrap-sizes-requires
unwrap-sizes-requires g c =
    let h = g.S.Shelf.holding c.args.shelf.now in
    let low = lowest_is h c.in-Some.first (g.S.Shelf.sound c.args.shelf.now) c.in-Some.ensures in
    rw (read_ok h c.in-Some.first low c.args.buffer.now c.in_ok-read.field-0 c.in_ok-read.ensures.answer).1 refl

pub returns-in_err-put : goal.returns-in_err-put
returns-in_err-put g c =
    let h = g.S.Shelf.holding c.args.shelf.now in
    let l = g.O.Outlet.listing c.args.outlet.now in
    let buffer = c.args.buffer.now in
    let first = c.in-Some.first in
    let sizes = c.unwrap-sizes.result in
    let low = lowest_is h first (g.S.Shelf.sound c.args.shelf.now) c.in-Some.ensures in
    let read : Ok (Some sizes) ≡ read_answer h first buffer = ap Ok (sym c.unwrap-sizes.ensures) ∙ c.in_ok-read.ensures.answer in
    let entry : entry_of c.delivered.result ≡ delivered first low.pair.part.body =
    c.delivered.ensures ∙ ap (λ b. delivered first (take sizes.length b)) c.read.ensures.after ∙ ap (delivered first) (message h l buffer first sizes low read) in
    let kept = refused-by l (entry_of c.delivered.result) c.in_err-put.field-0.0 c.in_err-put.ensures.answer in
    let is = full h l buffer first sizes low read (ap (fits l) (sym entry) ∙ kept.unfit) in
    let handed_on : c.from_residual-in_err-put.result ≡ Err c.in_err-put.field-0.0 = search rules in
    record {
      answer = handed_on ∙ ap Err kept.why ∙ sym (ap (λ (p : Passed). p.answer) is);
      shelf = sym (ap (λ (p : Passed). p.holding) is);
      outlet = c.put.ensures.after ∙ kept.after ∙ sym (ap (λ (p : Passed). p.listing) is);
      buffer = c.read.ensures.after ∙ after_read h l buffer first sizes low read ∙ sym (ap (λ (p : Passed). p.buffer) is);
    }

pub returns : goal.returns
returns g c =
    let h = g.S.Shelf.holding c.args.shelf.now in
    let l = g.O.Outlet.listing c.args.outlet.now in
    let buffer = c.args.buffer.now in
    let first = c.in-Some.first in
    let sizes = c.unwrap-sizes.result in
    let low = lowest_is h first (g.S.Shelf.sound c.args.shelf.now) c.in-Some.ensures in
    let read : Ok (Some sizes) ≡ read_answer h first buffer = ap Ok (sym c.unwrap-sizes.ensures) ∙ c.in_ok-read.ensures.answer in
    let entry : entry_of c.delivered.result ≡ delivered first low.pair.part.body =
    c.delivered.ensures ∙ ap (λ b. delivered first (take sizes.length b)) c.read.ensures.after ∙ ap (delivered first) (message h l buffer first sizes low read) in
    let put = put_by l (entry_of c.delivered.result) c.in_ok-put.field-0 c.in_ok-put.ensures.answer in
    let is = done h l buffer first sizes low read (ap (fits l) (sym entry) ∙ put.fit) in
    record {
      answer = sym (ap (λ (p : Passed). p.answer) is);
      shelf = c.take.ensures.after ∙ sym (ap (λ (p : Passed). p.holding) is);
      outlet = c.put.ensures.after ∙ put.after ∙ ap (with_entry l) entry ∙ sym (ap (λ (p : Passed). p.listing) is);
      buffer = c.read.ensures.after ∙ after_read h l buffer first sizes low read ∙ sym (ap (λ (p : Passed). p.buffer) is);
    }
