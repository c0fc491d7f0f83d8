-- The messages of a data line.
use Rattle.std.proofs.Common.{◌≡◌, ℕ, ◌<◌, ◌≤◌, cond, leb, List, [], ◌∷◌, length, get_or, drop, Some, None, Option, sym, refl, ap, ◌∙◌, arith}
use Rattle.std.proofs.lemmas.List.{take_at}
use Rattle.std.proofs.lemmas.Bool.Decides.{nat_tests}
use Rattle.base.specs.Fields.{be_bytes}
use Rattle.base.specs.Limits.{max_message}
use Rattle.words.specs.Words.{hex_of, fitting, size_of, over_front}
use Rattle.composing.specs.Composing.{front_in, sized, mapped}
use Rattle.composing.specs.Data.{message_of, part_of}
use Rattle.composing.specs.declared.data.Part.TheVariants.{Size}

pub message_hex : (word : List ℕ) → 2 ≤ length word → get_or word 0 0 ≡ 120 → get_or word 1 0 ≡ 58 → message_of word ≡ hex_of (drop 2 word)
unfolding message_of
message_hex [] h e f = absurd (omega arith)
message_hex (a ∷ []) h e f = absurd (omega arith)
message_hex (a ∷ (b ∷ word)) h e f = ap (λ x. message_of (x ∷ (b ∷ word))) e ∙ ap (λ y. message_of (120 ∷ (y ∷ word))) f

pub front_over : (x : Option (List ℕ)) (area exit : List ℕ) (r : Option ℕ) → r ≡ size_of x → exit ≡ over_front area x → front_in r exit ≡ sized x
front_over x area exit r e f = ap (λ y. front_in y exit) e ∙ ap (front_in (size_of x)) f ∙ over x
  where
    over : (x : Option (List ℕ)) → front_in (size_of x) (over_front area x) ≡ sized x
    over None = refl
    over (Some bytes) = ap (λ l. Some (length bytes, l)) (take_at bytes (drop (length bytes) area) (length bytes) refl)

fits : (m n : ℕ) (bytes : List ℕ) → m ≤ n → cond (leb m n) (Some bytes) None ≡ Some bytes
fits m n bytes h = grind (arith, nat_tests)

fits_not : (m n : ℕ) (bytes : List ℕ) → n < m → cond (leb m n) (Some bytes) None ≡ None
fits_not m n bytes h = grind (arith, nat_tests)

abbrev size_field : Option (List ℕ) → Option (List ℕ)
size_field x = mapped (λ m. be_bytes 4 (length m)) (fitting max_message x)

pub part_none : (room : ℕ) (word : List ℕ) → None ≡ size_of (message_of word) → None ≡ sized (fitting room (part_of Size word))
unfolding part_of
part_none room word e = none (message_of word) e
  where
    none : (x : Option (List ℕ)) → None ≡ size_of x → None ≡ sized (fitting room (size_field x))
    none None e = refl
    none (Some bytes) e = absurd (let z : ◌≡◌ {A = ℕ} 0 1 = cc in omega arith)

pub part-long : (room size : ℕ) (word : List ℕ) → Some size ≡ size_of (message_of word) → 4092 < size → None ≡ sized (fitting room (part_of Size word))
unfolding part_of
part-long room size word e h = long (message_of word) e
  where
    long : (x : Option (List ℕ)) → Some size ≡ size_of x → None ≡ sized (fitting room (size_field x))
    long None e = refl
    long (Some bytes) e =
        let same : size ≡ length bytes = cc in
        ap (λ y. sized (fitting room (mapped (λ m. be_bytes 4 (length m)) y))) (sym (fits_not (length bytes) 4092 bytes (omega arith)))

pub part-size : (size : ℕ) (word : List ℕ) → Some size ≡ size_of (message_of word) → size ≤ 4092 → part_of Size word ≡ Some (be_bytes 4 size)
unfolding part_of
part-size size word e h = put (message_of word) e
  where
    put : (x : Option (List ℕ)) → Some size ≡ size_of x → size_field x ≡ Some (be_bytes 4 size)
    put None e = absurd (let z : ◌≡◌ {A = ℕ} 0 1 = cc in omega arith)
    put (Some bytes) e =
        let same : size ≡ length bytes = cc in
        ap (mapped (λ m. be_bytes 4 (length m))) (fits (length bytes) 4092 bytes (omega arith)) ∙ ap (λ n. Some (be_bytes 4 n)) (sym same)
