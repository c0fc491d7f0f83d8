-- A page with enough room has the whole text.
use Rattle.std.proofs.Common.{◌≡◌, ℕ, ◌+◌, ◌≤◌, List, ◌++◌, length, Some, ap, ◌∙◌, arith, length-drop}
use Rattle.std.proofs.lemmas.Bool.Decides.{nat_tests}
use Rattle.std.specs.List.{concat}
use Rattle.page.specs.Text.{Sheet, wrote_all}
use Rattle.page.proofs.Pieces.{wrote_all-fits}
use Rattle.capture.specs.Inspecting.{Pieces}
use Rattle.capture.specs.Records.{Contents, contents_of}

pub all_written : (s t : Sheet) (lines pieces : Pieces) (room : ℕ) → t ≡ wrote_all s lines → lines ≡ pieces → length (concat lines) ≤ room
    → length s.text + room ≤ s.room → t.text ≡ s.text ++ concat pieces
all_written s t lines pieces room e is h k =
    ap (λ u. u.text) (e ∙ wrote_all-fits s lines (omega arith)) ∙ ap (λ p. s.text ++ concat p) is

-- the records of a capture that is not too long
pub records-fit : (xs : List ℕ) (c : Contents) → Some c ≡ contents_of xs → length c.records ≤ 65521
records-fit xs c e = grind (arith, nat_tests, length-drop 15 xs)
