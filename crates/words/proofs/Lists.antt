-- The lines of a text and the words of a line.
use Rattle.std.specs.List.{list_all}
use Rattle.std.proofs.Common.{◌≡◌, ℕ, zero, suc, ◌+◌, ◌<◌, ◌≤◌, Bool, true, false, cond, not, eqb, ◌&&◌, List, [], ◌∷◌, length, take, drop, sym, refl, ap, ◌∙◌, arith, length-drop, length-take, eq-eqb, ne_eqb}
use borrow.Author.Tests.{eqb-false}
use Rattle.std.proofs.lemmas.List.{nil_from_length}
use Rattle.words.specs.Words.{place_of, spaces_of, line_of, after_line, with_first, lines_of, trimmed, word_of, after_word, is_blank, words_from, words_of}

-- the first line, and those behind it
lines_last : (t : Bool) (b : ℕ) → cond t ([] ∷ []) ((b ∷ []) ∷ []) ≡ take (cond (not t) (1 + 0) 0) (b ∷ []) ∷ lines_of (drop (cond (not t) (1 + 0) 0 + 1) (b ∷ []))
lines_last true b = refl
lines_last false b = refl

lines_by : (t : Bool) (b : ℕ) (bs : List ℕ) → lines_of bs ≡ line_of bs ∷ lines_of (after_line bs)
    → cond t ([] ∷ lines_of bs) (with_first b (lines_of bs))
    ≡ take (cond (not t) (1 + place_of 10 bs) 0) (b ∷ bs) ∷ lines_of (drop (cond (not t) (1 + place_of 10 bs) 0 + 1) (b ∷ bs))
lines_by true b bs e = refl
lines_by false b bs e =
    let one : suc (place_of 10 bs) ≡ 1 + place_of 10 bs = omega arith in
    let two : suc (place_of 10 bs + 1) ≡ 1 + place_of 10 bs + 1 = omega arith in
    ap (with_first b) e ∙ ap (λ n. take n (b ∷ bs) ∷ lines_of (after_line bs)) one ∙ ap (λ n. take (1 + place_of 10 bs) (b ∷ bs) ∷ lines_of (drop n (b ∷ bs))) two

lines_first : (xs : List ℕ) → 0 < length xs → lines_of xs ≡ line_of xs ∷ lines_of (after_line xs)
lines_first [] h = absurd (omega arith)
lines_first (b ∷ []) h = lines_last (eqb b 10) b
lines_first (b ∷ (x ∷ xs)) h = lines_by (eqb b 10) b (x ∷ xs) (lines_first (x ∷ xs) (omega arith))

pub lines_next : (rest line more : List ℕ) → 0 < length rest → line ≡ line_of rest → more ≡ after_line rest → lines_of rest ≡ line ∷ lines_of more
lines_next rest line more h e f = lines_first rest h ∙ ap (λ l. l ∷ lines_of (after_line rest)) (sym e) ∙ ap (λ l. line ∷ lines_of l) (sym f)

-- a blank line has only spaces
abbrev blank_by : List ℕ → Bool
blank_by trimmed = eqb (length (take (place_of 32 trimmed) trimmed)) 0

pub all_spaces : (line : List ℕ) → list_all (λ b. eqb b 32) line ≡ is_blank line
all_spaces [] = refl
all_spaces (b ∷ bs) =
    elim (eqb b 32) as (λ t. eqb b 32 ≡ t → (t && list_all (λ b. eqb b 32) bs) ≡ is_blank (b ∷ bs)) [
      | true ↦ λ e.
          let one : 1 + spaces_of bs ≡ suc (spaces_of bs) = omega arith in
          all_spaces bs ∙ sym (ap (λ t. blank_by (drop (cond (not (not t)) (1 + spaces_of bs) 0) (b ∷ bs))) e ∙ ap (λ n. blank_by (drop n (b ∷ bs))) one)
      | false ↦ λ e.
          let one : 1 + place_of 32 bs ≡ suc (place_of 32 bs) = omega arith in
          sym (
          ap (λ t. blank_by (drop (cond (not (not t)) (1 + spaces_of bs) 0) (b ∷ bs))) e
          ∙ ap (λ t. eqb (length (take (cond (not t) (1 + place_of 32 bs) 0) (b ∷ bs))) 0) e
          ∙ ap (λ n. eqb (length (take n (b ∷ bs))) 0) one
          ∙ ne_eqb (suc (length (take (place_of 32 bs) bs))) 0 (omega arith)
          )
    ] refl

-- a word takes at least a byte
word_takes : (line : List ℕ) → is_blank line ≡ false → length (after_word line) < length line
word_takes line e =
    let some = eqb-false (length (word_of line)) 0 e in
    let word = length-take (place_of 32 (trimmed line)) (trimmed line) in
    let after = length-drop (place_of 32 (trimmed line)) (trimmed line) in
    let before = length-drop (spaces_of line) line in
    grind arith

words_same : (n m : ℕ) (line : List ℕ) → length line ≤ n → length line ≤ m → words_from n line ≡ words_from m line
unfolding words_from
words_same zero zero line h k = refl
words_same zero (suc m) line h k = sym (ap (words_from (suc m)) (nil_from_length line (omega arith)))
words_same (suc n) zero line h k = ap (words_from (suc n)) (nil_from_length line (omega arith))
words_same (suc n) (suc m) line h k =
    elim (is_blank line) as (λ b. is_blank line ≡ b → cond b [] (word_of line ∷ words_from n (after_word line)) ≡ cond b [] (word_of line ∷ words_from m (after_word line))) [
      | true ↦ λ e. refl
      | false ↦ λ e. let less = word_takes line e in ap (λ l. word_of line ∷ l) (words_same n m (after_word line) (omega arith) (omega arith))
    ] refl

words_by : (n : ℕ) (line : List ℕ) → length line ≤ n → words_of line ≡ cond (is_blank line) [] (word_of line ∷ words_from n (after_word line))
unfolding words_from
words_by n line h = words_same (length line) (suc n) line (omega arith) (omega arith)

words_none : (line : List ℕ) → is_blank line ≡ true → words_of line ≡ []
words_none line e = words_by (length line) line (omega arith) ∙ ap (λ b. cond b [] (word_of line ∷ words_from (length line) (after_word line))) e

words_more : (line : List ℕ) → is_blank line ≡ false → words_of line ≡ word_of line ∷ words_of (after_word line)
words_more line e =
    let less = word_takes line e in
    words_by (length line) line (omega arith) ∙ ap (λ b. cond b [] (word_of line ∷ words_from (length line) (after_word line))) e
    ∙ ap (λ l. word_of line ∷ l) (words_same (length line) (length (after_word line)) (after_word line) (omega arith) (omega arith))

blank-is : (line word : List ℕ) → word ≡ word_of line → length word ≡ 0 → is_blank line ≡ true
blank-is line word e h = eq-eqb (length (word_of line)) 0 (sym (ap length e) ∙ h)

blank_not : (line word : List ℕ) → word ≡ word_of line → 0 < length word → is_blank line ≡ false
blank_not line word e h = ne_eqb (length (word_of line)) 0 (λ z. let long = ap length e in omega arith)

pub words_end : (line word : List ℕ) → word ≡ word_of line → length word ≡ 0 → words_of line ≡ []
words_end line word e h = words_none line (blank-is line word e h)

pub words_next : (line word more : List ℕ) → 0 < length word → word ≡ word_of line → more ≡ after_word line → words_of line ≡ word ∷ words_of more
words_next line word more h e f =
    words_more line (blank_not line word e h) ∙ ap (λ l. l ∷ words_of (after_word line)) (sym e) ∙ ap (λ l. word ∷ words_of l) (sym f)

-- no more words or lines than bytes
words_within : (most : ℕ) (line : List ℕ) → length (words_from most line) ≤ most
unfolding words_from
words_within zero line = omega arith
words_within (suc most) line =
    elim (is_blank line) as (λ b. length (cond b [] (word_of line ∷ words_from most (after_word line))) ≤ suc most) [
      | true ↦ omega arith
      | false ↦ let more = words_within most (after_word line) in omega arith
    ]

pub words_count : (line : List ℕ) → length (words_of line) ≤ length line
words_count line = words_within (length line) line

length-with_first : (b : ℕ) (lines : List (List ℕ)) → length (with_first b lines) ≤ 1 + length lines
length-with_first b [] = omega arith
length-with_first b (line ∷ lines) = omega arith

pub lines_count : (text : List ℕ) → length (lines_of text) ≤ length text
lines_count [] = omega arith
lines_count (b ∷ bs) =
    elim (eqb b 10) as (λ t. length (cond t ([] ∷ lines_of bs) (with_first b (lines_of bs))) ≤ suc (length bs)) [
      | true ↦ let more = lines_count bs in omega arith
      | false ↦ let more = lines_count bs in omega (arith, length-with_first b (lines_of bs))
    ]
