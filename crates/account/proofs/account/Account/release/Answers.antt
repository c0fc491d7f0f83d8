use Rattle.std.proofs.Common.{◌≡◌, false, is_ok, length, sym, ap, ◌∙◌, rules}
use Rattle.std.proofs.lemmas.Bool.{true≢false, cond-true}
use Rattle.account.specs.Releasing.{buffers_fit, release_of}
use Rattle.account.proofs.BothBuffers.{both_fit, second_unfit}
use Rattle.account.proofs.account.Account.release.Goals as goal

pub returns-in_err-plain-clause-does : goal.returns-in_err-plain-clause-does
unfolding release_of
returns-in_err-plain-clause-does g c ps gaps =
    let unfit : buffers_fit c.args.joining.now c.args.plain.now ≡ false =
    second_unfit c.args.joining.now c.args.plain.now
    (λ long. true≢false (sym (c.as_mut_array-2.ensures.variant.1 long) ∙ sym c.ok_or-2.ensures.variant ∙ ap is_ok c.in_err-plain.was)) in
    search rules

pub returns-clause-does : goal.returns-clause-does
unfolding release_of
returns-clause-does g c ps gaps =
    let first : length c.args.joining.now ≡ 4096 = c.as_mut_array.ensures.variant.0 (sym c.ok_or.ensures.variant ∙ ap is_ok c.in_ok-joining.was) in
    let second : length c.args.plain.now ≡ 4096 = c.as_mut_array-2.ensures.variant.0 (sym c.ok_or-2.ensures.variant ∙ ap is_ok c.in_ok-plain.was) in
    c.release_lowest-answer.ensures ps gaps ∙ sym (cond-true _ _ _ (both_fit c.args.joining.now c.args.plain.now first second))
