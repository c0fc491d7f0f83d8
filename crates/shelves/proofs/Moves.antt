-- What is left of the lent rows when the first of them moved about.
use Rattle.std.proofs.Common.{◌≡◌, ℕ, ◌+◌, ◌-◌, ◌<◌, ◌≤◌, true, List, [], ◌∷◌, ◌++◌, length, get_or, take, drop, set, sym, ap, ◌∙◌, subst, arith}
use Rattle.std.specs.List.Sorted.{IsPermutation}
use Rattle.std.proofs.lemmas.List.{take_at, take_more, take_more_set, length-take-le, length-set, length-append, length-drop, get_or-take, get_or_append_left}
use Rattle.std.proofs.lemmas.List.Edits.{swap_is}
use Rattle.std.proofs.lemmas.Slice.{drop-append-drop}
use Rattle.std.proofs.lemmas.List.Sorted.{IsPermutation-sym, IsPermutation-trans, IsPermutation-cons, IsPermutation-to_front, IsPermutation-swap, length_permutation}
use Rattle.shelves.specs.Sifting.{number_at, heaped, Lower, Near}
use Rattle.rows.specs.declared.row.Row.{Row}
use Rattle.shelves.proofs.HeapOrders.{Exchanged, number-at, push_lower, near_from}
use Rattle.rows.proofs.Shifts.{closed_spares}
use Rattle.std.proofs.Math.Seq.{take-set-lt}

-- The first n of the rows ws are now ys.
pub record Fronted {X : Type 0} (n : ℕ) (ws ys zs : List X) : Type 0 where
  pub front : take n zs ≡ ys
  pub behind : drop n zs ≡ drop n ws
  pub room : length zs ≡ length ws

pub fronted : {X : Type 0} (n k : ℕ) (ws ys : List X) → k ≡ n → n ≤ length ws → IsPermutation (take k ws) ys → Fronted n ws ys (ys ++ drop k ws)
fronted n k ws ys is fits moved =
    let long : length ys ≡ n = length_permutation _ _ moved ∙ length-take-le k ws (omega arith) ∙ is in
    record {
      front = take_at ys (drop k ws) n long;
      behind = drop-append-drop k ws ys n (omega arith) (long ∙ sym is);
      room = omega (arith, length-append ys (drop k ws), length-drop k ws);
    }

module _ {P : Type 0} where
  number_same : (xs ys : List (Row P)) (i : ℕ) (d : Row P) → i < length xs → i < length ys → get_or xs i d ≡ get_or ys i d → number_at xs i ≡ number_at ys i
  number_same xs ys i d p q e = number-at xs i d p ∙ ap (λ (r : Row P). r.number) e ∙ sym (number-at ys i d q)

  -- A row put behind the first len.
  module _ (xs : List (Row P)) (len k : ℕ) (row : Row P) (is : k ≡ len + 1) (fits : len < length xs) where
    push_part : take k (set xs len row) ≡ take len xs ++ row ∷ []
    push_part = ap (λ n. take n (set xs len row)) is ∙ take_more_set xs len row fits

    pub pushed_lower : heaped (take len xs) ≡ true → Lower (number_at (take k (set xs len row))) (length (take k (set xs len row))) len
    pushed_lower h =
        let short : length (take len xs) ≡ len = length-take-le len xs (omega arith) in
        let long : length (take k (set xs len row)) ≡ len + 1 = length-take-le k (set xs len row) (omega (arith, length-set xs len row)) ∙ is in
        rw long (push_lower (number_at (take len xs)) (number_at (take k (set xs len row))) len (rw short at h)
        (λ i q. number_same (take k (set xs len row)) (take len xs) i row (omega arith) (omega arith)
        (ap (λ l. get_or l i row) push_part ∙ get_or_append_left (take len xs) (row ∷ []) row i (omega arith))))

    pub pushed_shuffled : (ys : List (Row P)) → IsPermutation (take k (set xs len row)) ys → IsPermutation (row ∷ take len xs) ys
    pushed_shuffled ys moved =
        IsPermutation-trans (row ∷ take len xs) (take len xs ++ row ∷ []) ys (IsPermutation-sym _ _ (IsPermutation-to_front (take len xs) row)) (subst (λ l. IsPermutation l ys) push_part moved)

  -- The row at a place exchanged with the last of the first len, and those before it then moved about.
  pub record Pulled (xs zs : List (Row P)) (len k at : ℕ) (d : Row P) : Type 0 where
    pub near : heaped (take len xs) ≡ true → Near (number_at (take k zs)) (length (take k zs)) at
    pub shuffled : (ys : List (Row P)) → IsPermutation (take k zs) ys → IsPermutation (take len xs) (get_or xs at d ∷ ys)
    pub spares : drop (len - 1) zs ≡ get_or xs at d ∷ drop len xs

  module _ (xs zs : List (Row P)) (len k at : ℕ) (d : Row P) (is : k ≡ len - 1) (lt : at < len) (fits : len ≤ length xs) (same : length zs ≡ length xs) (p : Exchanged xs zs at (len - 1)) where
    pulled_near : heaped (take len xs) ≡ true → Near (number_at (take k zs)) (length (take k zs)) at
    pulled_near h =
        let short : length (take k zs) ≡ len - 1 = length-take-le k zs (omega arith) ∙ is in
        let long : length (take len xs) ≡ len = length-take-le len xs fits in
        near_from (number_at (take len xs)) (number_at (take k zs)) (length (take k zs)) at (length (take len xs)) (omega arith) h
        (λ i q ne. number_same (take k zs) (take len xs) i d q (omega arith)
        (get_or-take k zs i d (omega arith) ∙ p.2 i d ne (λ w. omega arith) ∙ sym (get_or-take len xs i d (omega arith))))

    exchanged_upto : IsPermutation (take len xs) (take len zs)
    exchanged_upto =
        let n = length-take-le len xs fits in
        IsPermutation-swap (take len xs) (take len zs) at (len - 1) (omega arith) (omega arith)
        (ap (take len) (p.3 d) ∙ take-set-lt len (set xs at (get_or xs (len - 1) d)) (len - 1) (get_or xs at d) (omega arith)
        ∙ ap (λ l. set l (len - 1) (get_or xs at d)) (take-set-lt len xs at (get_or xs (len - 1) d) lt)
        ∙ ap (λ y. set (set (take len xs) at y) (len - 1) (get_or xs at d)) (sym (get_or-take len xs (len - 1) d (omega arith)))
        ∙ ap (λ y. set (set (take len xs) at (get_or (take len xs) (len - 1) d)) (len - 1) y) (sym (get_or-take len xs at d lt))
        ∙ swap_is (take len xs) at (len - 1) d (omega arith) (omega arith))

    pulled_last : take len zs ≡ take k zs ++ get_or xs at d ∷ []
    pulled_last =
        let back : len - 1 + 1 ≡ len = omega arith in
        ap (λ n. take n zs) (sym back) ∙ take_more zs (len - 1) d (omega arith) ∙ ap (λ n. take n zs ++ get_or zs (len - 1) d ∷ []) (sym is)
        ∙ ap (λ y. take k zs ++ y ∷ []) (p.1 d)

    pub pulled : Pulled xs zs len k at d
    pulled =
        record {
          near = pulled_near;
          shuffled = λ ys moved. IsPermutation-trans _ _ _
              (IsPermutation-trans _ _ _ (subst (λ l. IsPermutation (take len xs) l) pulled_last exchanged_upto) (IsPermutation-to_front (take k zs) (get_or xs at d)))
              (IsPermutation-cons (get_or xs at d) (take k zs) ys moved);
          spares = closed_spares xs zs len at lt fits same p.1 (λ m e a b. p.2 m e (λ w. omega arith) (λ w. omega arith)) d;
        }
