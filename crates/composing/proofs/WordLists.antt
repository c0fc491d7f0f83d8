-- The loop over the words of a line.
use Rattle.std.proofs.Common.{◌≡◌, ℕ, ◌+◌, ◌-◌, ◌<◌, ◌≤◌, true, false, cond, leb, List, [], ◌∷◌, ◌++◌, length, take, Some, None, Option, sym, refl, ap, ◌∙◌, append_assoc, append-nil, arith, length-append}
use borrow.Rule.Slice.PartMut.{put_mid}
use Rattle.std.proofs.lemmas.List.{length-take-le}
use Rattle.std.proofs.lemmas.Bool.Decides.{nat_tests}
use Rattle.words.specs.Words.{fitting}
use Rattle.composing.specs.Composing.{sized}
use Rattle.composing.specs.Data.{part_of, joined, all_of}
use Rattle.composing.specs.declared.data.Part.{Part}
use Rattle.composing.proofs.Loops.{sized-none, sized-some, fitting-within, grown}

-- bytes so far, in front of what is left
pub joined-nil : (x : Option (List ℕ)) → joined (Some []) x ≡ x
joined-nil None = refl
joined-nil (Some bytes) = refl

joined-assoc : (done l : List ℕ) (y : Option (List ℕ)) → joined (Some done) (joined (Some l) y) ≡ joined (Some (done ++ l)) y
joined-assoc done l None = refl
joined-assoc done l (Some bytes) = ap Some (sym (append_assoc done l bytes))

fits : (m n : ℕ) (bytes : List ℕ) → m ≤ n → cond (leb m n) (Some bytes) None ≡ Some bytes
fits m n bytes h = grind (arith, nat_tests)

fits_not : (m n : ℕ) (bytes : List ℕ) → n < m → cond (leb m n) (Some bytes) None ≡ None
fits_not m n bytes h = grind (arith, nat_tests)

misfit : (m n : ℕ) (bytes : List ℕ) → cond (leb m n) (Some bytes) None ≡ None → n < m
misfit m n bytes e = grind (arith, nat_tests)

is_fit : (m : ℕ) (x : Option (List ℕ)) (l : List ℕ) → fitting m x ≡ Some l → x ≡ Some l
is_fit m None l e = e
is_fit m (Some bytes) l e =
    elim (leb (length bytes) m) as (λ b. cond b (Some bytes) None ≡ Some l → Some bytes ≡ Some l)
    [ true ↦ λ f. f | false ↦ λ f. absurd (let z : ◌≡◌ {A = ℕ} 0 1 = cc in omega arith) ] e

no_fit : (room less : ℕ) (done : List ℕ) (x y : Option (List ℕ)) → length done + less ≡ room → fitting less x ≡ None → None ≡ fitting room (joined (Some done) (joined x y))
no_fit room less done None y h e = refl
no_fit room less done (Some l) None h e = refl
no_fit room less done (Some l) (Some bytes) h e =
    let long = misfit (length l) less l e in
    let all : length (done ++ (l ++ bytes)) ≡ length done + (length l + length bytes) =
    length-append done (l ++ bytes) ∙ ap (λ n. length done + n) (length-append l bytes) in
    sym (fits_not (length (done ++ (l ++ bytes))) room (done ++ (l ++ bytes)) (omega arith))

module _ (part : Part) (room at : ℕ) (area : List ℕ) (words : List (List ℕ)) (whole : Option (List ℕ))
    (so_far : joined (Some (take at area)) (all_of part words) ≡ whole) (long : length area ≡ room) (within : at ≤ room) where
  done-long : length (take at area) ≡ at
  done-long = length-take-le at area (omega arith)

  pub words_all : words ≡ [] → Some (at, take at area) ≡ sized (fitting room whole)
  words_all e =
      let is : whole ≡ Some (take at area) =
      sym so_far ∙ ap (λ l. joined (Some (take at area)) (all_of part l)) e ∙ ap Some (append-nil (take at area)) in
      ap (λ n. Some (n, take at area)) (sym done-long)
      ∙ sym (ap sized (ap (fitting room) is ∙ fits (length (take at area)) room (take at area) (omega (arith, done-long))))

  module _ (word : List ℕ) (more : List (List ℕ)) (e : words ≡ word ∷ more) (out : List ℕ) (less : length out ≡ room - at) where
    turn : joined (Some (take at area)) (joined (part_of part word) (all_of part more)) ≡ whole
    turn = ap (λ l. joined (Some (take at area)) (all_of part l)) (sym e) ∙ so_far

    pub word_bad : None ≡ sized (fitting (length out) (part_of part word)) → None ≡ sized (fitting room whole)
    word_bad n =
        ap sized (no_fit room (length out) (take at area) (part_of part word) (all_of part more) (omega (arith, done-long))
        (sized-none (fitting (length out) (part_of part word)) n) ∙ ap (fitting room) turn)

    module _ (size : ℕ) (exit : List ℕ) (put : Some (size, take size exit) ≡ sized (fitting (length out) (part_of part word))) where
      pub word_within : at + size ≤ room
      word_within =
          let s = sized-some (fitting (length out) (part_of part word)) size (take size exit) put in
          omega (arith, fitting-within (length out) (part_of part word) (take size exit) s.0, s.1)

      pub word_more : length exit ≡ length area - at
          → joined (Some (take (at + size) (put_mid at (length area - at) area exit))) (all_of part more) ≡ whole
      word_more l =
          let s = sized-some (fitting (length out) (part_of part word)) size (take size exit) put in
          let k = word_within in
          ap (λ d. joined (Some d) (all_of part more)) (grown area exit at (length area - at) size (omega arith) l (omega arith))
          ∙ sym (joined-assoc (take at area) (take size exit) (all_of part more))
          ∙ sym (ap (λ x. joined (Some (take at area)) (joined x (all_of part more))) (is_fit (length out) (part_of part word) (take size exit) s.0))
          ∙ turn

-- two runs of parts, one behind the other
pub plain_none : (room : ℕ) (x y : Option (List ℕ)) → None ≡ sized (fitting room x) → None ≡ sized (fitting room (joined x y))
plain_none room x y n =
    ap sized (no_fit room room [] x y (omega arith) (sized-none (fitting room x) n) ∙ ap (fitting room) (joined-nil (joined x y)))

behind : (room less : ℕ) (done : List ℕ) (y : Option (List ℕ)) → length done + less ≡ room → fitting less y ≡ None → None ≡ fitting room (joined (Some done) y)
behind room less done None h e = refl
behind room less done (Some bytes) h e =
    let long = misfit (length bytes) less bytes e in
    sym (fits_not (length (done ++ bytes)) room (done ++ bytes) (omega (arith, length-append done bytes)))

module _ (room sizes : ℕ) (one : List ℕ) (x y : Option (List ℕ)) (first : Some (sizes, take sizes one) ≡ sized (fitting room x)) (long : length one ≡ room)
    (out : List ℕ) (less : length out ≡ length one - sizes) where
  first-is : (x ≡ Some (take sizes one)) × (length (take sizes one) ≡ sizes) × (sizes ≤ room)
  first-is =
      let s = sized-some (fitting room x) sizes (take sizes one) first in
      (is_fit room x (take sizes one) s.0, s.1, omega (arith, fitting-within room x (take sizes one) s.0, s.1))

  pub plain_bad : None ≡ sized (fitting (length out) y) → None ≡ sized (fitting room (joined x y))
  plain_bad n =
      let s = first-is in
      ap sized (behind room (length out) (take sizes one) y (omega (arith, s.1, s.2)) (sized-none (fitting (length out) y) n)
      ∙ ap (λ v. fitting room (joined v y)) (sym s.0))

  pub plain_put : (contents : ℕ) (exit : List ℕ) → Some (contents, take contents exit) ≡ sized (fitting (length out) y) → length exit ≡ length one - sizes
      → Some (sizes + contents, take (sizes + contents) (put_mid sizes (length one - sizes) one exit)) ≡ sized (fitting room (joined x y))
  plain_put contents exit p l =
      let s = first-is in
      let t = sized-some (fitting (length out) y) contents (take contents exit) p in
      let k = fitting-within (length out) y (take contents exit) t.0 in
      let all = take sizes one ++ take contents exit in
      let size : length all ≡ sizes + contents = omega (arith, length-append (take sizes one) (take contents exit), s.1, t.1) in
      ap (λ d. Some (sizes + contents, d)) (grown one exit sizes (length one - sizes) contents (omega (arith, s.2)) l (omega (arith, t.1)))
      ∙ ap (λ n. Some (n, all)) (sym size) ∙ ap sized (sym (fits (length all) room all (omega (arith, s.2, t.1))))
      ∙ sym (ap (λ v. sized (fitting room (joined v y))) s.0 ∙ ap (λ v. sized (fitting room (joined (Some (take sizes one)) v))) (is_fit (length out) y (take contents exit) t.0))
