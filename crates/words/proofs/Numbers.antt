-- Reading a number digit by digit.
use Rattle.std.proofs.Common.{◌≡◌, ℕ, ◌+◌, ◌-◌, ◌*◌, ◌^◌, ◌<◌, ◌≤◌, Bool, true, false, cond, eqb, List, [], ◌∷◌, length, get_or, drop, Some, None, Option, sym, refl, ap, ◌∙◌, arith}
use Rattle.std.proofs.lemmas.List.{at_drop_more, at_drop_all}
use Rattle.std.proofs.lemmas.Bool.Decides.{nat_tests}
use Rattle.words.specs.Words.{is_digit, value_from, under, number_of}

under_some : (limit n : ℕ) → n < limit → under limit (Some n) ≡ Some n
under_some limit n h = grind (arith, nat_tests)

under_none : (limit n : ℕ) → None ≡ under limit (Some n) → limit ≤ n
under_none limit n e = grind (arith, nat_tests)

under-is : (limit n m : ℕ) → Some m ≡ under limit (Some n) → m ≡ n
under-is limit n m e = grind (arith, nat_tests)

pub under-less : (limit n m : ℕ) → Some m ≡ under limit (Some n) → m < limit
under-less limit n m e = grind (arith, nat_tests)

not_digit : (b : Bool) (d : ℕ) (x y : Option ℕ) → None ≡ cond b (Some d) None → cond b x y ≡ y
not_digit true d x y e = absurd (let z : ◌≡◌ {A = ℕ} 0 1 = cc in omega arith)
not_digit false d x y e = refl

a_digit : (b : Bool) (d e : ℕ) (x y : Option ℕ) → Some e ≡ cond b (Some d) None → (cond b x y ≡ x) × (e ≡ d)
a_digit true d e x y h = (refl, cc)
a_digit false d e x y h = absurd (let z : ◌≡◌ {A = ℕ} 0 1 = cc in omega arith)

-- digits make a value no smaller
too_large : (limit n : ℕ) (word : List ℕ) → limit ≤ n → None ≡ under limit (value_from n word)
too_large limit n [] h = grind (arith, nat_tests)
too_large limit n (b ∷ bs) h =
    elim (is_digit b) as (λ t. None ≡ under limit (cond t (value_from (n * 10 + (b - 48)) bs) None))
    [ true ↦ too_large limit (n * 10 + (b - 48)) bs (omega arith) | false ↦ refl ]

some : (n : ℕ) (x : Option ℕ) → 0 < n → cond (eqb n 0) None x ≡ x
some n x h = grind (arith, nat_tests)

some_word : (word : List ℕ) → 0 < length word → number_of word ≡ under (2 ^ 64) (value_from 0 word)
some_word word h = some (length word) (under (2 ^ 64) (value_from 0 word)) h

module _ (word : List ℕ) (value i : ℕ) (so_far : under (2 ^ 64) (value_from value (drop i word)) ≡ under (2 ^ 64) (value_from 0 word)) where
  pub number-all : 0 < length word → length word ≤ i → value < 2 ^ 64 → Some value ≡ number_of word
  number-all some h small =
      sym (under_some (2 ^ 64) value small) ∙ sym (ap (under (2 ^ 64)) (at_drop_all (value_from value) word i h)) ∙ so_far ∙ sym (some_word word some)

  module _ (h : i < length word) where
    abbrev digit : ℕ
    digit = get_or word i 0 - 48

    abbrev more : Option ℕ
    more = value_from (value * 10 + digit) (drop (i + 1) word)

    turn : under (2 ^ 64) (cond (is_digit (get_or word i 0)) more None) ≡ number_of word
    turn = sym (ap (under (2 ^ 64)) (at_drop_more (value_from value) word i 0 h)) ∙ so_far ∙ sym (some_word word (omega arith))

    pub number-other : None ≡ cond (is_digit (get_or word i 0)) (Some digit) None → None ≡ number_of word
    number-other e = sym (ap (under (2 ^ 64)) (not_digit (is_digit (get_or word i 0)) digit more None e)) ∙ turn

    module _ (d : ℕ) (e : Some d ≡ cond (is_digit (get_or word i 0)) (Some digit) None) where
      goes_on : under (2 ^ 64) more ≡ number_of word
      goes_on = sym (ap (under (2 ^ 64)) (a_digit (is_digit (get_or word i 0)) digit d more None e).0) ∙ turn

      same : d ≡ digit
      same = (a_digit (is_digit (get_or word i 0)) digit d more None e).1

      pub number-long : None ≡ under (2 ^ 64) (Some (value * 10 + d)) → None ≡ number_of word
      number-long f = too_large (2 ^ 64) (value * 10 + digit) (drop (i + 1) word) (omega (arith, under_none (2 ^ 64) (value * 10 + d) f, same)) ∙ goes_on

      pub number_more : (v : ℕ) → Some v ≡ under (2 ^ 64) (Some (value * 10 + d)) → under (2 ^ 64) (value_from v (drop (i + 1) word)) ≡ under (2 ^ 64) (value_from 0 word)
      number_more v f =
          ap (λ n. under (2 ^ 64) (value_from n (drop (i + 1) word))) (under-is (2 ^ 64) (value * 10 + d) v f ∙ ap (λ n. value * 10 + n) same)
          ∙ goes_on ∙ some_word word (omega arith)
