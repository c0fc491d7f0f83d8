-- The heap order over numbers, and what an exchange does to it.
use Rattle.std.proofs.Common.{◌≡◌, ℕ, zero, suc, ◌+◌, ◌*◌, ◌/◌, ◌<◌, ◌≤◌, true, leb, List, [], ◌∷◌, length, get_or, set, Some, sym, refl, ap, ◌∙◌, inl, inr, ⊎_elim, arith}
use Rattle.std.specs.List.{slice_get}
use Rattle.std.proofs.lemmas.List.{get_or_read}
use Rattle.std.proofs.lemmas.List.Edits.{Swapped}
use Rattle.std.proofs.lemmas.Bool.{cases_eq, cases_lt, leb-true, le-leb, and_parts, and_from}
use Rattle.rows.specs.Order.{rises}
use Rattle.shelves.specs.Sifting.{sort_by, above, number_at, heap_to, heaped, Lower, Higher, Near, Least}
use Rattle.rows.specs.declared.row.Row.{Row}
use Rattle.shelves.proofs.Sorts.{sort_first}

-- What an exchange leaves, by places.
abbrev pub Exchanged : {X : Type 0} → List X → List X → ℕ → ℕ → Type 0
Exchanged {X} xs zs a b =
    ((d : X) → get_or zs a d ≡ get_or xs b d) × ((d : X) → get_or zs b d ≡ get_or xs a d) × ((k : ℕ) (d : X) → (k ≡ a → ⊥) → (k ≡ b → ⊥) → get_or zs k d ≡ get_or xs k d)
    × ((d : X) → zs ≡ set (set xs a (get_or xs b d)) b (get_or xs a d))

module _ (f : ℕ → ℕ) where
  -- The test and the order.
  pub heap_by : (n : ℕ) → ((i : ℕ) → 0 < i → i < n → f (above i) ≤ f i) → heap_to f n ≡ true
  heap_by zero h = refl
  heap_by (suc n) h =
      and_from _ _ (le-leb _ _ (⊎_elim (λ z. rw z (omega arith)) (λ p. h n (omega arith) (omega arith)) (cases_eq n 0)))
      (heap_by n (λ i p q. h i p (omega arith)))

  pub heap_at : (n : ℕ) → heap_to f n ≡ true → (i : ℕ) → i < n → f (above i) ≤ f i
  heap_at zero e i q = absurd (omega arith)
  heap_at (suc n) e i q =
      let h = and_parts (leb (f (above n)) (f n)) (heap_to f n) e in
      ⊎_elim (λ w. heap_at n h.1 i w) (λ w. let z : i ≡ n = omega arith in rw z (leb-true _ _ h.0)) (cases_lt i n)

  -- The root is the smallest.
  pub root_least : (n : ℕ) → heap_to f n ≡ true → (m i : ℕ) → i ≤ m → i < n → f 0 ≤ f i
  root_least n h zero i le lt = let z : i ≡ 0 = omega arith in rw z (omega arith)
  root_least n h (suc m) i le lt =
      ⊎_elim (λ z. rw z (omega arith)) (λ p. omega (arith, root_least n h m (above i) (omega arith) (omega arith), heap_at n h i lt)) (cases_eq i 0)

module _ (f : ℕ → ℕ) (n : ℕ) where
  -- Where a sift ends.
  pub lower_top : Lower f n 0 → heap_to f n ≡ true
  lower_top h = heap_by f n (λ i p q. h.rest i p q (λ e. omega arith))

  pub lower_done : (at : ℕ) → Lower f n at → f (above at) ≤ f at → heap_to f n ≡ true
  lower_done at h l = heap_by f n (λ i p q. ⊎_elim (λ e. rw e l) (λ ne. h.rest i p q ne) (cases_eq i at))

  pub higher_leaf : (at : ℕ) → Higher f n at → n / 2 ≤ at → heap_to f n ≡ true
  higher_leaf at h l = heap_by f n (λ i p q. h.rest i p q (λ e. omega arith))

  pub higher_done : (at r : ℕ) → Higher f n at → Least f n at r → f at ≤ f r → heap_to f n ≡ true
  higher_done at r h m l =
      heap_by f n (λ i p q. ⊎_elim (λ e. rw e (omega (arith, m.least i p q e))) (λ ne. h.rest i p q ne) (cases_eq (above i) at))

  -- The smaller of the two right below a place.
  pub least-of : (at r s : ℕ) → r < n → 0 < r → above r ≡ at → r + s ≡ 4 * at + 3 → (s < n → f r ≤ f s) → Least f n at r
  least-of at r s within after under both le =
      record {
        within = within;
        after = after;
        under = under;
        least = λ i p q e. ⊎_elim (λ z. rw z (omega arith)) (λ nz. let z : i ≡ s = omega arith in rw z (le (omega arith))) (cases_eq i r);
      }

  -- Which way a row is to go.
  pub near_lower : (at : ℕ) → Near f n at → 0 < at → f at < f (above at) → Lower f n at
  near_lower at h z l =
      record {
        rest = λ i p q ne. ⊎_elim (λ e. rw e (omega (arith, h.over i p q e z))) (λ m. h.rest i p q (⊎_elim ne m)) (cases_eq (above i) at);
        over = h.over;
      }

  pub near_higher : (at : ℕ) → Near f n at → (0 < at → at < n → f (above at) ≤ f at) → Higher f n at
  near_higher at h l =
      record {
        rest = λ i p q ne. ⊎_elim (λ e. rw e (l (omega arith) (omega arith))) (λ m. h.rest i p q (⊎_elim m ne)) (cases_eq i at);
        over = h.over;
      }

module _ (f g : ℕ → ℕ) (n : ℕ) where
  pub lower_step : (at : ℕ) → 0 < at → at < n → Swapped f g (above at) at → f at < f (above at) → Lower f n at → Lower g n (above at)
  lower_step at z k s l h =
      let u = above at in
      let lt : u < at = omega arith in
      let gu = s.0 in
      let ga = s.1 in
      record {
        rest = λ i p q ne. ⊎_elim
            (λ e. rw e (omega (arith, gu, ga)))
            (λ na. let gi = s.2 i ne na in
            ⊎_elim (λ e. rw e (omega (arith, gu, gi, rw e at (h.rest i p q na))))
            (λ (nu : above i ≡ u → ⊥). ⊎_elim (λ e. rw e (omega (arith, ga, gi, h.over i p q e z)))
            (λ nx. omega (arith, gi, s.2 (above i) nu nx, h.rest i p q na))
            (cases_eq (above i) at))
            (cases_eq (above i) u))
            (cases_eq i at);
        over = λ i p q e zu.
            let gg = s.2 (above u) (λ w. omega arith) (λ w. omega arith) in
            let hu = h.rest u zu (omega arith) (λ w. omega arith) in
            ⊎_elim (λ w. rw w (omega (arith, ga, gg, hu)))
            (λ na. let gi = s.2 i (λ w. omega arith) na in omega (arith, gi, gg, hu, rw e at (h.rest i p q na)))
            (cases_eq i at);
      }

  pub higher_step : (at r : ℕ) → Least f n at r → Swapped f g at r → f r < f at → Higher f n at → Higher g n r
  higher_step at r m s l h =
      let lt : at < r = omega (arith, m.under, m.after) in
      let ga = s.0 in
      let gr = s.1 in
      record {
        rest = λ i p q ne. ⊎_elim
            (λ e. rw e (let z : 0 < at = omega arith in
            omega (arith, ga, s.2 (above at) (λ w. omega arith) (λ w. omega arith), h.over r m.after m.within m.under z)))
            (λ na. ⊎_elim
            (λ e. rw e (rw m.under (omega (arith, ga, gr))))
            (λ nr. let gi = s.2 i na nr in
            ⊎_elim (λ e. rw e (omega (arith, ga, gi, m.least i p q e)))
            (λ nu. omega (arith, gi, s.2 (above i) nu ne, h.rest i p q nu))
            (cases_eq (above i) at))
            (cases_eq i r))
            (cases_eq i at);
        over = λ i p q e zr.
            let gi = s.2 i (λ w. omega arith) (λ w. omega arith) in
            rw m.under (omega (arith, ga, gi, rw e at (h.rest i p q (λ w. omega arith))));
      }

  -- Another row at a place.
  pub near_from : (at N : ℕ) → n ≤ N → heap_to f N ≡ true → ((i : ℕ) → i < n → (i ≡ at → ⊥) → g i ≡ f i) → Near g n at
  near_from at N le h same =
      record {
        rest = λ i p q far. omega (arith, same i q (λ w. far (inl w)), same (above i) (omega arith) (λ w. far (inr w)), heap_at f N h i (omega arith));
        over = λ i p q e z.
            let gi = same i q (λ w. omega arith) in
            let gu = same (above at) (omega arith) (λ w. omega arith) in
            omega (arith, gi, gu, rw e at (heap_at f N h i (omega arith)), heap_at f N h at (omega arith));
      }

  -- One more at the end.
  pub push_lower : heap_to f n ≡ true → ((i : ℕ) → i < n → g i ≡ f i) → Lower g (n + 1) n
  push_lower h same =
      record {
        rest = λ i p q ne. omega (arith, same i (omega arith), same (above i) (omega arith), heap_at f n h i (omega arith));
        over = λ i p q e z. absurd (omega arith);
      }

module _ {P : Type 0} where
  pub number-at : (xs : List (Row P)) (i : ℕ) (d : Row P) → i < length xs → number_at xs i ≡ (get_or xs i d).number
  number-at [] i d lt = absurd (omega arith)
  number-at (x ∷ xs) zero d lt = refl
  number-at (x ∷ xs) (suc i) d lt = number-at xs i d (omega arith)

  number_past : (xs : List (Row P)) (i : ℕ) → length xs ≤ i → number_at xs i ≡ 0
  number_past [] i le = refl
  number_past (x ∷ xs) zero le = absurd (omega arith)
  number_past (x ∷ xs) (suc i) le = number_past xs i (omega arith)

  -- Rows exchanged are numbers exchanged.
  pub swapped_numbers : (xs zs : List (Row P)) (a b : ℕ) (d : Row P) → length zs ≡ length xs → a < length xs → b < length xs → Exchanged xs zs a b
      → Swapped (number_at xs) (number_at zs) a b
  swapped_numbers xs zs a b d same la lb (ea, eb, em, one) =
      let at : (i j : ℕ) → i < length zs → j < length xs → get_or zs i d ≡ get_or xs j d → number_at zs i ≡ number_at xs j =
      λ i j p q e. number-at zs i d p ∙ ap (λ (r : Row P). r.number) e ∙ sym (number-at xs j d q) in (
        at a b (omega arith) lb (ea d),
        at b a (omega arith) la (eb d),
        λ m na nb.
            ⊎_elim (λ lt. at m m (omega arith) lt (em m d na nb)) (λ ge. number_past zs m (omega arith) ∙ sym (number_past xs m ge)) (cases_lt m (length xs)),
      )

  -- The row at the root comes first in order.
  pub root_first : (xs : List (Row P)) (x : Row P) → heaped xs ≡ true → rises (sort_by xs) ≡ true → 0 < length xs → x ≡ get_or xs 0 x → slice_get (sort_by xs) 0 ≡ Some x
  root_first xs x h s lt e =
      sort_first x xs s (0, lt, λ d. sym (get_or_read xs 0 x lt e d))
      (λ z m. omega (
        arith,
        root_least (number_at xs) (length xs) h m.0 m.0 (omega arith) m.1,
        number-at xs 0 x lt,
        ap (λ (r : Row P). r.number) e,
        number-at xs m.0 z m.1,
        ap (λ (r : Row P). r.number) (m.2 z),
      ))

  pub heap_first : (xs : List (Row P)) → heaped xs ≡ true → rises (sort_by xs) ≡ true → slice_get xs 0 ≡ slice_get (sort_by xs) 0
  heap_first [] h s = refl
  heap_first (x ∷ xs) h s = sym (root_first (x ∷ xs) x h s (omega arith) refl)
