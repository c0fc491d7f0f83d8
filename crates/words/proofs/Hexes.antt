-- Reading a word two hexadecimal digits at a time.
use Rattle.std.proofs.Common.{◌≡◌, ℕ, zero, suc, ◌+◌, ◌*◌, ◌/◌, ◌%◌, ◌<◌, ◌≤◌, Bool, true, false, cond, ◌&&◌, leb, List, [], ◌∷◌, length, get_or, set, below_more, is_some, Some, None, Option, sym, refl, ap, ◌∙◌, arith}
use Rattle.std.specs.Bool.{then_some}
use Rattle.std.specs.List.{list_all}
use Rattle.std.specs.Simd.{first_chunks}
use Rattle.std.proofs.lemmas.Bool.Decides.{nat_tests}
use Rattle.std.proofs.lemmas.Grind.{elements}
use Rattle.std.proofs.lemmas.List.Recursion.{and_at}
use Rattle.words.specs.Words.{hex_byte_of, with_byte, hex_of, fitting, size_of}

-- the byte of a pair of digits, and the pairs of a word
abbrev pub byte_of : List ℕ → Option ℕ
byte_of pair = hex_byte_of (get_or pair 0 0) (get_or pair 1 0)

abbrev pub pairs_of : List ℕ → List (List ℕ)
pairs_of word = first_chunks 2 (length word / 2) word

some_byte : (b : Option ℕ) (more : Option (List ℕ)) → is_some (with_byte b more) ≡ (is_some b && is_some more)
some_byte None more = refl
some_byte (Some b) None = refl
some_byte (Some b) (Some bytes) = refl

and_false : (b : Bool) → (b && false) ≡ false
and_false true = refl
and_false false = refl

even : (k : ℕ) (word : List ℕ) → length word ≡ 2 * k → list_all (λ p. is_some (byte_of p)) (first_chunks 2 k word) ≡ is_some (hex_of word)
even zero [] h = refl
even zero (a ∷ word) h = absurd (omega arith)
even (suc k) [] h = absurd (omega arith)
even (suc k) (a ∷ []) h = absurd (omega arith)
even (suc k) (a ∷ (b ∷ word)) h =
    ap (λ t. is_some (hex_byte_of a b) && t) (even k word (omega arith)) ∙ sym (some_byte (hex_byte_of a b) (hex_of word))

odd : (k : ℕ) (word : List ℕ) → length word ≡ 2 * k + 1 → is_some (hex_of word) ≡ false
odd k [] h = absurd (omega arith)
odd k (a ∷ []) h = refl
odd zero (a ∷ (b ∷ word)) h = absurd (omega arith)
odd (suc k) (a ∷ (b ∷ word)) h =
    some_byte (hex_byte_of a b) (hex_of word) ∙ ap (λ t. is_some (hex_byte_of a b) && t) (odd k word (omega arith)) ∙ and_false (is_some (hex_byte_of a b))

pub hex_even : (word : List ℕ) → length word % 2 ≡ 0 → list_all (λ p. is_some (byte_of p)) (pairs_of word) ≡ is_some (hex_of word)
hex_even word h = even (length word / 2) word (omega arith)

pub hex_odd : (word : List ℕ) → 0 < length word % 2 → is_some (hex_of word) ≡ false
hex_odd word h = odd (length word / 2) word (omega arith)

-- each pair of a hexadecimal word spells a byte
pub pair_some : (word : List ℕ) (i : ℕ) → is_some (hex_of word) ≡ true → length word % 2 ≡ 0 → i < length (pairs_of word) → is_some (byte_of (get_or (pairs_of word) i [])) ≡ true
pair_some word i h e l =
    and_at (list_all (λ p. is_some (byte_of p))) (λ p. is_some (byte_of p)) refl (λ x xs. refl) (pairs_of word) i [] l (hex_even word e ∙ h)

bytes : (k : ℕ) (word out : List ℕ) → length word ≡ 2 * k → length out ≡ k
    → ((i : ℕ) → i < k → byte_of (get_or (first_chunks 2 k word) i []) ≡ Some (get_or out i 0)) → Some out ≡ hex_of word
bytes zero [] [] h l each = refl
bytes zero [] (b ∷ out) h l each = absurd (omega arith)
bytes zero (a ∷ word) out h l each = absurd (omega arith)
bytes (suc k) word [] h l each = absurd (omega arith)
bytes (suc k) [] (c ∷ out) h l each = absurd (omega arith)
bytes (suc k) (a ∷ []) (c ∷ out) h l each = absurd (omega arith)
bytes (suc k) (a ∷ (b ∷ word)) (c ∷ out) h l each =
    ap (λ x. with_byte (Some c) x) (bytes k word out (omega arith) (omega arith) (λ i m. each (suc i) (omega arith)))
    ∙ ap (λ x. with_byte x (hex_of word)) (sym (each 0 (omega arith)))

pub hex_bytes : (word out : List ℕ) → length word ≡ 2 * length out → ((i : ℕ) → i < length out → byte_of (get_or (pairs_of word) i []) ≡ Some (get_or out i 0))
    → Some out ≡ hex_of word
hex_bytes word out h each =
    let half : length out ≡ length word / 2 = omega arith in
    bytes (length word / 2) word out (omega arith) half (λ i m. each i (omega arith))

-- one more byte of an area is what f says
pub said_more : (f : ℕ → Option ℕ) (out : List ℕ) (i b : ℕ) → i < length out → ((k : ℕ) → k < i → f k ≡ Some (get_or out k 0)) → f i ≡ Some b
    → (k : ℕ) → k < i + 1 → f k ≡ Some (get_or (set out i b) k 0)
said_more f out i b l each e =
    below_more (λ k. f k ≡ Some (get_or (set out i b) k 0)) i (λ k h. let same = each k h in grind (arith, elements)) (grind (arith, elements))

-- two digits to a byte
added : (b : Option ℕ) (more : Option (List ℕ)) (l : List ℕ) → with_byte b more ≡ Some l → (rest : List ℕ) × (more ≡ Some rest) × (length l ≡ 1 + length rest)
added (Some b) (Some rest) l e = (rest, refl, let same : l ≡ b ∷ rest = cc in let long = ap length same in omega arith)
added (Some b) None l e = absurd (let z : ◌≡◌ {A = ℕ} 0 1 = cc in omega arith)
added None more l e = absurd (let z : ◌≡◌ {A = ℕ} 0 1 = cc in omega arith)

hex_length : (word l : List ℕ) → hex_of word ≡ Some l → length word ≡ 2 * length l
hex_length [] l e = let none : l ≡ [] = cc in let long = ap length none in omega arith
hex_length (a ∷ []) l e = absurd (let z : ◌≡◌ {A = ℕ} 0 1 = cc in omega arith)
hex_length (a ∷ (b ∷ word)) l e = let s = added (hex_byte_of a b) (hex_of word) l e in let more = hex_length word s.0 s.1 in omega (arith, s.2)

sized : (n : ℕ) (x : Option (List ℕ)) → ((l : List ℕ) → x ≡ Some l → n ≡ 2 * length l) → then_some (is_some x) (n / 2) ≡ size_of x
sized n None h = refl
sized n (Some l) h = let k = h l refl in let half : n / 2 ≡ length l = omega arith in ap Some half

pub hex_sized : (word : List ℕ) → then_some (is_some (hex_of word)) (length word / 2) ≡ size_of (hex_of word)
hex_sized word = sized (length word) (hex_of word) (hex_length word)

some_sized : (n : ℕ) (x : Option (List ℕ)) → Some n ≡ size_of x → (l : List ℕ) × (x ≡ Some l) × (length l ≡ n)
some_sized n None e = absurd (let z : ◌≡◌ {A = ℕ} 0 1 = cc in omega arith)
some_sized n (Some l) e = (l, refl, cc)

pub hex_some : (word : List ℕ) (n : ℕ) → Some n ≡ size_of (hex_of word) → (is_some (hex_of word) ≡ true) × (length word ≡ 2 * n)
hex_some word n e = let s = some_sized n (hex_of word) e in (ap is_some s.1, omega (arith, hex_length word s.0 s.1, s.2))

-- the bytes of a word in an area
fits : (m n : ℕ) (l : List ℕ) → m ≤ n → cond (leb m n) (Some l) None ≡ Some l
fits m n l h = grind (arith, nat_tests)

fits_not : (m n : ℕ) (l : List ℕ) → n < m → cond (leb m n) (Some l) None ≡ None
fits_not m n l h = grind (arith, nat_tests)

pub fitting-other : (room : ℕ) (word : List ℕ) → None ≡ size_of (hex_of word) → fitting room (hex_of word) ≡ None
fitting-other room word e = other (hex_of word) e
  where
    other : (x : Option (List ℕ)) → None ≡ size_of x → fitting room x ≡ None
    other None e = refl
    other (Some l) e = absurd (let z : ◌≡◌ {A = ℕ} 0 1 = cc in omega arith)

pub fitting-long : (room : ℕ) (word : List ℕ) → 2 * room < length word → fitting room (hex_of word) ≡ None
fitting-long room word h =
    elim (hex_of word) as (λ x. hex_of word ≡ x → fitting room x ≡ None)
    [ None ↦ λ e. refl | Some l ↦ λ e. fits_not (length l) room l (let long = hex_length word l e in omega arith) ] refl

pub fitting-bytes : (room : ℕ) (word l : List ℕ) → Some l ≡ hex_of word → length l ≤ room → fitting room (hex_of word) ≡ Some l
fitting-bytes room word l e h = ap (fitting room) (sym e) ∙ fits (length l) room l h
