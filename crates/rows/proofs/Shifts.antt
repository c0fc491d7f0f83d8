-- How rows move for one that is put in or taken out.
use Rattle.std.proofs.Common.{◌≡◌, ℕ, ◌+◌, ◌-◌, ◌<◌, ◌≤◌, ◌≢◌, List, ◌∷◌, length, get_or, take, drop, set, sym, ap, ◌∙◌, ⊎_elim, arith}
use Rattle.std.specs.List.{insert, remove}
use Rattle.std.proofs.lemmas.List.{same_lists, length-take-le, length-set, length-drop, get_or-take, get_or-drop, get_or-set_same, get_or-set_other, drop_more}
use Rattle.std.proofs.lemmas.List.Edits.{length-insert, length-remove, get_or-insert_below, get_or-insert_at, get_or-insert_above, get_or-remove_below, get_or-remove_above}
use Rattle.std.proofs.lemmas.Bool.{cases_order, cases_lt}

-- What a row that is put at a place leaves, by places.
pub opened : {X : Type 0} (xs zs : List X) (len i : ℕ) (r : X) → i ≤ len → len < length xs → length zs ≡ length xs
    → ((k : ℕ) (d : X) → k < i → get_or zs k d ≡ get_or xs k d)
    → ((k : ℕ) (d : X) → i ≤ k → k < len → get_or zs (k + 1) d ≡ get_or xs k d)
    → take (len + 1) (set zs i r) ≡ insert (take len xs) i r
opened {X} xs zs len i r a b same below above =
    let short : length (take len xs) ≡ len = length-take-le len xs (omega arith) in
    let long : length (take (len + 1) (set zs i r)) ≡ len + 1 = length-take-le (len + 1) (set zs i r) (omega (arith, length-set zs i r)) in
    let high : (m : ℕ) (d : X) → i ≤ m → m < len → get_or (set zs i r) (m + 1) d ≡ get_or (insert (take len xs) i r) (m + 1) d =
    λ m d p q. let ne : m + 1 ≢ i = omega arith in
    get_or-set_other zs i (m + 1) r d ne ∙ above m d p q ∙ sym (get_or-insert_above (take len xs) i r d m p (omega arith) ∙ get_or-take len xs m d q) in
    same_lists _ _ (long ∙ sym (length-insert (take len xs) i r (omega arith) ∙ ap (λ n. n + 1) short))
    (λ k d h.
    get_or-take (len + 1) (set zs i r) k d (omega arith) ∙ ⊎_elim
    (λ eq. rw eq (get_or-set_same zs i r d (omega arith) ∙ sym (get_or-insert_at (take len xs) i r d (omega arith))))
    (⊎_elim
    (λ lt. let ne : k ≢ i = omega arith in
    get_or-set_other zs i k r d ne ∙ below k d lt ∙ sym (get_or-insert_below (take len xs) i r d k lt (omega arith) ∙ get_or-take len xs k d (omega arith)))
    (λ gt. let back : (k - 1) + 1 ≡ k = omega arith in rw back at (high (k - 1) d (omega arith) (omega arith))))
    (cases_order k i))

-- What a row that is taken from a place leaves, by places.
pub closed : {X : Type 0} (xs zs : List X) (len i : ℕ) → i < len → len ≤ length xs → length zs ≡ length xs
    → ((k : ℕ) (d : X) → k < i → get_or zs k d ≡ get_or xs k d)
    → ((k : ℕ) (d : X) → i ≤ k → k + 1 < len → get_or zs k d ≡ get_or xs (k + 1) d)
    → take (len - 1) zs ≡ remove (take len xs) i
closed xs zs len i a b same below above =
    let short : length (take len xs) ≡ len = length-take-le len xs b in
    let long : length (take (len - 1) zs) ≡ len - 1 = length-take-le (len - 1) zs (omega arith) in
    same_lists _ _ (omega (arith, length-remove (take len xs) i (omega arith)))
    (λ k d h.
    get_or-take (len - 1) zs k d (omega arith) ∙ ⊎_elim
    (λ lt. below k d lt ∙ sym (get_or-remove_below (take len xs) i d k lt (omega arith) ∙ get_or-take len xs k d (omega arith)))
    (λ ge. above k d ge (omega arith) ∙ sym (get_or-remove_above (take len xs) i d k ge (omega arith) ∙ get_or-take len xs (k + 1) d (omega arith)))
    (cases_lt k i))

-- The spare rows are as they were, but for the first, which was written over.
pub opened_spares : {X : Type 0} (xs zs : List X) (len i : ℕ) (r : X) → i ≤ len → length zs ≡ length xs
    → ((k : ℕ) (d : X) → len < k → k < length xs → get_or zs k d ≡ get_or xs k d)
    → drop (len + 1) (set zs i r) ≡ drop (len + 1) xs
opened_spares xs zs len i r a same above =
    let n = length-drop (len + 1) (set zs i r) in
    let m = length-set zs i r in
    same_lists _ _ (omega (arith, length-drop (len + 1) xs))
    (λ k d h. let ne : len + 1 + k ≢ i = omega arith in
    get_or-drop (len + 1) (set zs i r) k d ∙ get_or-set_other zs i (len + 1 + k) r d ne ∙ above (len + 1 + k) d (omega arith) (omega arith) ∙ sym (get_or-drop (len + 1) xs k d))

-- The row that is taken out becomes the first spare one.
pub closed_spares : {X : Type 0} (xs zs : List X) (len i : ℕ) → i < len → len ≤ length xs → length zs ≡ length xs
    → ((d : X) → get_or zs (len - 1) d ≡ get_or xs i d)
    → ((k : ℕ) (d : X) → len ≤ k → k < length xs → get_or zs k d ≡ get_or xs k d)
    → (d : X) → drop (len - 1) zs ≡ get_or xs i d ∷ drop len xs
closed_spares xs zs len i a b same at above d =
    let back : len - 1 + 1 ≡ len = omega arith in
    let n = length-drop len zs in
    let rest : drop len zs ≡ drop len xs =
    same_lists _ _ (omega (arith, length-drop len xs))
    (λ k d h. get_or-drop len zs k d ∙ above (len + k) d (omega arith) (omega arith) ∙ sym (get_or-drop len xs k d)) in
    drop_more zs (len - 1) d (omega arith) ∙ ap (λ n. get_or zs (len - 1) d ∷ drop n zs) back
    ∙ (ap (λ y. y ∷ drop len zs) (at d) ∙ ap (λ l. get_or xs i d ∷ l) rest)
