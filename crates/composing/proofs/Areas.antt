-- A capture in its area, with zeros behind it.
use Rattle.std.proofs.Common.{◌≡◌, ℕ, ◌-◌, ◌≤◌, IfOk, List, ◌++◌, length, take, replicate, Ok, Err, Result, sym, ap, ◌∙◌}
use Rattle.std.specs.Result.{result_unwrap_or}
use Rattle.std.proofs.lemmas.List.{length-take-le}
use Rattle.composing.specs.Lines.{capture_in, size_in, area_after}
use Rattle.composing.specs.declared.text.BadLine.{BadLine}

pub size-answered : (r : Result ℕ BadLine) (x : Result (List ℕ) BadLine) (area : List ℕ) → capture_in r area ≡ x → IfOk r (λ n. n ≤ length area) → r ≡ size_in x
size-answered (Ok n) x area e h = ap Ok (sym (length-take-le n area h)) ∙ ap size_in e
size-answered (Err bad) x area e h = ap size_in e

pub area_zeroed : (r : Result ℕ BadLine) (x : Result (List ℕ) BadLine) (area : List ℕ) → capture_in r area ≡ x → IfOk r (λ n. n ≤ length area)
    → take (result_unwrap_or r 0) area ++ replicate (65536 - result_unwrap_or r 0) 0 ≡ area_after x
area_zeroed (Ok n) x area e h = ap (λ k. take n area ++ replicate (65536 - k) 0) (sym (length-take-le n area h)) ∙ ap area_after e
area_zeroed (Err bad) x area e h = ap area_after e
