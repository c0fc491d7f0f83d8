-- The loop over the lines of a text.
use Rattle.std.proofs.Common.{◌≡◌, ℕ, ◌+◌, ◌-◌, ◌≤◌, Bool, true, false, cond, leb, List, [], ◌∷◌, ◌++◌, length, take, drop, Some, None, Err, Option, Result, sym, refl, ap, ◌∙◌, append_assoc, arith, length-append}
use borrow.Rule.Slice.PartMut.{put_mid}
use Rattle.std.proofs.lemmas.List.{take_at, take-append-drop, length-take-le}
use Rattle.std.proofs.lemmas.Bool.Decides.{nat_tests}
use Rattle.base.proofs.Areas.{put_mid-written}
use Rattle.words.specs.Words.{fitting}
use Rattle.composing.specs.Composing.{sized}
use Rattle.composing.specs.Lines.{added_by, stage_after, afterwards, ended, composed_from}
use Rattle.composing.specs.declared.text.BadLine.{BadLine}

pub sized-none : (x : Option (List ℕ)) → None ≡ sized x → x ≡ None
sized-none None e = refl
sized-none (Some bytes) e = absurd (let z : ◌≡◌ {A = ℕ} 0 1 = cc in omega arith)

pub sized-some : (x : Option (List ℕ)) (n : ℕ) (l : List ℕ) → Some (n, l) ≡ sized x → (x ≡ Some l) × (length l ≡ n)
sized-some None n l e = absurd (let z : ◌≡◌ {A = ℕ} 0 1 = cc in omega arith)
sized-some (Some bytes) n l e =
    let same : ◌≡◌ {A = ℕ × List ℕ} (n, l) (length bytes, bytes) = cc in
    let bytes-is : l ≡ bytes = ap (λ (p : ℕ × List ℕ). p.1) same in
    (ap Some (sym bytes-is), ap length bytes-is ∙ sym (ap (λ (p : ℕ × List ℕ). p.0) same))

within : (m n : ℕ) (bytes l : List ℕ) → cond (leb n m) (Some bytes) None ≡ Some l → n ≤ m
within m n bytes l e = grind (arith, nat_tests)

pub fitting-within : (m : ℕ) (x : Option (List ℕ)) (l : List ℕ) → fitting m x ≡ Some l → length l ≤ m
fitting-within m None l e = absurd (let z : ◌≡◌ {A = ℕ} 0 1 = cc in omega arith)
fitting-within m (Some bytes) l e =
    elim (leb (length bytes) m) as (λ b. leb (length bytes) m ≡ b → cond b (Some bytes) None ≡ Some l → length l ≤ m) [
      | true ↦ λ t f. let same : l ≡ bytes = cc in let long = ap length same in omega (arith, within m (length bytes) bytes l e)
      | false ↦ λ t f. absurd (let z : ◌≡◌ {A = ℕ} 0 1 = cc in omega arith)
    ] refl e

-- a line's bytes behind those of the lines before it
pub grown : (area part : List ℕ) (at n size : ℕ) → at ≤ length area → length part ≡ n → size ≤ length part
    → take (at + size) (put_mid at n area part) ≡ take at area ++ take size part
grown area part at n size h l k =
    let tail = drop (at + length part) area in
    let long : length (take at area ++ take size part) ≡ at + size =
    length-append (take at area) (take size part) ∙ ap (λ n. n + length (take size part)) (length-take-le at area h) ∙ ap (λ n. at + n) (length-take-le size part k) in
    let split : take at area ++ (part ++ tail) ≡ (take at area ++ take size part) ++ (drop size part ++ tail) =
    ap (λ p. take at area ++ (p ++ tail)) (sym (take-append-drop size part))
    ∙ ap (λ p. take at area ++ p) (append_assoc (take size part) (drop size part) tail) ∙ sym (append_assoc (take at area) (take size part) (drop size part ++ tail)) in
    ap (take (at + size)) (put_mid-written at n area part part refl l ∙ split)
    ∙ take_at (take at area ++ take size part) (drop size part ++ tail) (at + size) long

module _ (ready : ℕ → Bool) (seals : ℕ → List ℕ → List ℕ) (room number at : ℕ) (stage : Option ℕ) (area line : List ℕ) (lines more : List (List ℕ)) (out : List ℕ)
    (whole : Result (List ℕ) BadLine) (so_far : composed_from ready seals room stage number (take at area) lines ≡ whole) (e : lines ≡ line ∷ more)
    (long : length area ≡ room) (fits : at ≤ room) (out-is : length out ≡ room - at) where
  step : afterwards (fitting (length out) (added_by ready seals stage line)) (Err (record { line = number }))
      (λ bytes. composed_from ready seals room (stage_after stage line) (number + 1) (take at area ++ bytes) more)
      ≡ whole
  unfolding composed_from
  step =
      let room-is : length out ≡ room - length (take at area) = omega (arith, length-take-le at area (omega arith)) in
      ap (λ n. afterwards (fitting n (added_by ready seals stage line)) (Err (record { line = number }))
      (λ bytes. composed_from ready seals room (stage_after stage line) (number + 1) (take at area ++ bytes) more)) room-is
      ∙ ap (composed_from ready seals room stage number (take at area)) (sym e) ∙ so_far

  pub line_bad : None ≡ sized (fitting (length out) (added_by ready seals stage line)) → Err (record { line = number }) ≡ whole
  line_bad e =
      sym (ap (λ x. afterwards x (Err (record { line = number }))
      (λ bytes. composed_from ready seals room (stage_after stage line) (number + 1) (take at area ++ bytes) more))
      (sized-none (fitting (length out) (added_by ready seals stage line)) e)) ∙ step

  module _ (size : ℕ) (part : List ℕ) (put : Some (size, take size part) ≡ sized (fitting (length out) (added_by ready seals stage line))) where
    pub line_within : at + size ≤ room
    line_within =
        let s = sized-some (fitting (length out) (added_by ready seals stage line)) size (take size part) put in
        omega (arith, fitting-within (length out) (added_by ready seals stage line) (take size part) s.0, s.1)

    pub line_more : length part ≡ room - at → (next : Option ℕ) → next ≡ stage_after stage line
        → composed_from ready seals room next (number + 1) (take (at + size) (put_mid at (room - at) area part)) more ≡ whole
    line_more l next e =
        let s = sized-some (fitting (length out) (added_by ready seals stage line)) size (take size part) put in
        let k = line_within in
        ap (λ d. composed_from ready seals room next (number + 1) d more) (grown area part at (room - at) size (omega arith) l (omega arith))
        ∙ ap (λ st. composed_from ready seals room st (number + 1) (take at area ++ take size part) more) e
        ∙ sym (ap (λ x. afterwards x (Err (record { line = number }))
        (λ bytes. composed_from ready seals room (stage_after stage line) (number + 1) (take at area ++ bytes) more)) s.0) ∙ step

pub lines_end : (ready : ℕ → Bool) (seals : ℕ → List ℕ → List ℕ) (room number : ℕ) (stage : Option ℕ) (done : List ℕ) (lines : List (List ℕ)) (whole : Result (List ℕ) BadLine) → lines ≡ []
    → composed_from ready seals room stage number done lines ≡ whole → ended stage number done ≡ whole
unfolding composed_from
lines_end ready seals room number stage done lines whole h e = sym (ap (composed_from ready seals room stage number done) h) ∙ e
