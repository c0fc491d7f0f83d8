use Rattle.std.proofs.Common.{◌≡◌, ℕ, ◌+◌, ◌≤◌, cond, List, [], ◌∷◌, ◌++◌, length, refl, ap, ◌∙◌, append_assoc, append-nil, arith, length-append, le-leb}
use Rattle.std.specs.List.{concat}
use Rattle.page.specs.Text.{Sheet, extended, wrote, wrote_all}

pub wrote-fits : (s : Sheet) (piece : List ℕ) → length s.text + length piece ≤ s.room → wrote s piece ≡ extended s piece
unfolding wrote
wrote-fits s piece h = ap (λ b. cond b (extended s piece) s) (le-leb _ _ h)

-- where all pieces fit the room together, the text has all of them
pub wrote_all-fits :
    (s : Sheet) (pieces : List (List ℕ)) → length s.text + length (concat pieces) ≤ s.room → wrote_all s pieces ≡ extended s (concat pieces)
wrote_all-fits s [] h = rw append-nil
wrote_all-fits s (p ∷ ps) h =
    let both = length-append p (concat ps) in
    let grown = length-append s.text p in
    ap (λ t. wrote_all t ps) (wrote-fits s p (omega arith)) ∙ wrote_all-fits (extended s p) ps (omega arith) ∙ rw append_assoc

pub wrote_all-append : (s : Sheet) (ps qs : List (List ℕ)) → wrote_all s (ps ++ qs) ≡ wrote_all (wrote_all s ps) qs
wrote_all-append s [] qs = refl
wrote_all-append s (p ∷ ps) qs = wrote_all-append (wrote s p) ps qs

pub joined-append : (ps qs : List (List ℕ)) → concat (ps ++ qs) ≡ concat ps ++ concat qs
joined-append [] qs = refl
joined-append (p ∷ ps) qs = rw (joined-append ps qs, append_assoc)
