-- A file image: its entries read back, and one entry more.
use Rattle.std.proofs.Common.{◌≡◌, ℕ, ◌+◌, ◌-◌, ◌*◌, ◌^◌, ◌<◌, ◌≤◌, Bool, true, false, cond, ◌&&◌, ltb, leb, List, [], ◌∷◌, ◌++◌, length, drop, is_ok, Ok, sym, refl, ap, ◌∙◌, append_assoc, arith, length-append}
use lib.ListN.{length-replicate}
use Rattle.std.proofs.lemmas.List.{take_at, drop_at, append-nil, replicate-append-replicate, length_push}
use Rattle.std.proofs.lemmas.Bool.{ltb-true, leb-true, and_parts, and_from}
use Rattle.base.specs.Areas.{written_at}
use Rattle.base.specs.Limits.{max_entries}
use Rattle.base.specs.Fields.{be, be_bytes}
use Rattle.base.proofs.Fields.{be-be_bytes}
use Rattle.parts.specs.Entries.{Entry, delivered, missing, made_up, written_off, closed, letter_of, message_of, numbers_of, cost_of, costs_of, numbers_fit, head_of}
use Rattle.parts.specs.Listings.{fits, with_entry}
use Rattle.outlets.specs.Images.{mark, version, zeros, heads_of, messages_of, messages_at, image_of}
use Rattle.outlets.specs.Looks.{look_answer, allowed, image_fits}
use Rattle.outlets.specs.Reading.{entry_by, first_in, entries_from, entries_in, listing_of, all_fit, Holds, Within}
use Rattle.parts.proofs.Listed.{costs_push, room_space}
use Rattle.base.proofs.Areas.{written, length-written, written_over}

heads_push : (es : List Entry) (e : Entry) → heads_of (es ++ (e ∷ [])) ≡ heads_of es ++ head_of e
unfolding heads_of
heads_push [] e = append-nil _
heads_push (x ∷ es) e = rw (heads_push es e) (simp append_assoc)

messages_push : (es : List Entry) (e : Entry) → messages_of (es ++ (e ∷ [])) ≡ messages_of es ++ message_of e
unfolding messages_of
messages_push [] e = append-nil _
messages_push (x ∷ es) e = rw (messages_push es e) (simp append_assoc)

length-heads : (es : List Entry) → length (heads_of es) ≡ 17 * length es
unfolding heads_of
length-heads [] = refl
length-heads (e ∷ es) = omega (arith, length-heads es)

length-messages : (es : List Entry) → length (messages_of es) ≡ costs_of es
unfolding messages_of
length-messages [] = refl
length-messages (e ∷ es) = omega (arith, length-append (message_of e) (messages_of es), length-messages es)

fit_push : (es : List Entry) (e : Entry) → all_fit es ≡ true → numbers_fit e ≡ true → all_fit (es ++ (e ∷ [])) ≡ true
fit_push [] e all fit = and_from (numbers_fit e) true fit refl
fit_push (x ∷ es) e all fit =
    let both = and_parts (numbers_fit x) (all_fit es) all in
    and_from (numbers_fit x) (all_fit (es ++ (e ∷ []))) both.0 (fit_push es e both.1 fit)

-- zeros in two parts
zeros-parts : (m n k : ℕ) → k ≡ m + n → zeros k ≡ zeros m ++ zeros n
zeros-parts m n k h = ap (λ i. zeros i) h ∙ sym (replicate-append-replicate {A = ℕ} m n 0)

-- an entry is read back from its letter, its numbers and its message
read_one : (e : Entry) (first second : ℕ) (rest : List ℕ) → first ≡ (numbers_of e).0 → second ≡ (numbers_of e).1 → entry_by (letter_of e) first second (message_of e ++ rest) ≡ e
read_one (delivered n message) first second rest p q = let t = take_at message rest second (sym q) in cc
read_one (missing a b) first second rest p q = cc
read_one (made_up n message) first second rest p q = let t = take_at message rest second (sym q) in cc
read_one (written_off a b) first second rest p q = cc
read_one (closed n) first second rest p q = cc

read_first : (e : Entry) (hs ms : List ℕ) → numbers_fit e ≡ true → first_in (head_of e ++ hs) (message_of e ++ ms) ≡ e
unfolding first_in
read_first e hs ms fit =
    let both = and_parts (ltb (numbers_of e).0 (2 ^ 64)) (ltb (numbers_of e).1 (2 ^ 64)) fit in
    let first = be_bytes 8 (numbers_of e).0 in
    let second = be_bytes 8 (numbers_of e).1 in
    read_one e (be 8 (head_of e ++ hs) 1) (be 8 (head_of e ++ hs) 9) ms
    (be-be_bytes 8 (numbers_of e).0 (second ++ hs) (ltb-true _ _ both.0))
    (be-be_bytes 8 (numbers_of e).1 hs (ltb-true _ _ both.1))

read_all : (es : List Entry) (hs ms : List ℕ) → all_fit es ≡ true → entries_from (length es) (heads_of es ++ hs) (messages_of es ++ ms) ≡ es
unfolding entries_from heads_of messages_of
read_all [] hs ms all = refl
read_all (e ∷ es) hs ms all =
    let both = and_parts (numbers_fit e) (all_fit es) all in
    let heads = heads_of es ++ hs in
    let messages = messages_of es ++ ms in
    let here : (message_of e ++ messages_of es) ++ ms ≡ message_of e ++ messages = append_assoc (message_of e) (messages_of es) ms in
    let first : first_in (head_of e ++ heads) (message_of e ++ messages) ≡ e = read_first e heads messages both.0 in
    let rest : drop (cost_of (first_in (head_of e ++ heads) (message_of e ++ messages))) (message_of e ++ messages) ≡ messages =
    ap (λ x. drop (cost_of x) (message_of e ++ messages)) first ∙ drop_at (message_of e) messages (cost_of e) refl in
    ap (λ l. first_in (head_of e ++ heads) l ∷ entries_from (length es) heads (drop (cost_of (first_in (head_of e ++ heads) l)) l)) here
    ∙ (λ i. first i ∷ entries_from (length es) heads (rest i))
    ∙ ap (λ l. e ∷ l) (read_all es hs ms both.1)

-- an image holds the entries that it is the image of
pub entries-image : (capacity size : ℕ) (es : List Entry) → length es ≤ capacity → all_fit es ≡ true → entries_in (image_of capacity size es) capacity (length es) ≡ es
unfolding entries_in image_of
entries-image capacity size es few all =
    let free = zeros (17 * (capacity - length es)) in
    let left = zeros (size - (messages_at capacity + costs_of es)) in
    let front = mark ++ (be_bytes 2 version ++ (be_bytes 2 (length es) ++ (heads_of es ++ free))) in
    let split : image_of capacity size es ≡ front ++ (messages_of es ++ left) = simp append_assoc in
    let long : length front ≡ messages_at capacity = simp length-append (omega (arith, length-heads es, length-replicate {A = ℕ} (17 * (capacity - length es)) 0)) in
    let messages : drop (messages_at capacity) (image_of capacity size es) ≡ messages_of es ++ left =
    ap (drop (messages_at capacity)) split ∙ drop_at front (messages_of es ++ left) (messages_at capacity) long in
    ap (λ l. entries_from (length es) (heads_of es ++ (free ++ (messages_of es ++ left))) l) messages ∙ read_all es (free ++ (messages_of es ++ left)) left all

-- the three writes of an entry, over any parts of their lengths
three_writes : (f c c' hs q h z b q₂ y z₂ : List ℕ) (at at₂ : ℕ)
    → length f ≡ 5 → length c' ≡ length c → length h ≡ length q → length y ≡ length q₂
    → length f + length c + length hs ≡ at → at + length h + length z + length b ≡ at₂
    → written_at (written_at (written_at (f ++ (c ++ (hs ++ ((q ++ z) ++ (b ++ (q₂ ++ z₂)))))) at h) at₂ y) 5 c'
    ≡ f ++ (c' ++ ((hs ++ h) ++ (z ++ ((b ++ y) ++ z₂))))
three_writes f c c' hs q h z b q₂ y z₂ at at₂ lf lc lh ly la la₂ =
    let n₁ : length (f ++ (c ++ hs)) ≡ at = simp length-append (omega arith) in
    let n₂ : length (f ++ (c ++ (hs ++ (h ++ (z ++ b))))) ≡ at₂ = simp length-append (omega arith) in
    let e₁ : f ++ (c ++ (hs ++ ((q ++ z) ++ (b ++ (q₂ ++ z₂))))) ≡ (f ++ (c ++ hs)) ++ (q ++ (z ++ (b ++ (q₂ ++ z₂)))) = simp append_assoc in
    let w₁ = written_over (f ++ (c ++ hs)) q (z ++ (b ++ (q₂ ++ z₂))) h at n₁ lh in
    let e₂ : (f ++ (c ++ hs)) ++ (h ++ (z ++ (b ++ (q₂ ++ z₂)))) ≡ (f ++ (c ++ (hs ++ (h ++ (z ++ b))))) ++ (q₂ ++ z₂) = simp append_assoc in
    let w₂ = written_over (f ++ (c ++ (hs ++ (h ++ (z ++ b))))) q₂ z₂ y at₂ n₂ ly in
    let e₃ : (f ++ (c ++ (hs ++ (h ++ (z ++ b))))) ++ (y ++ z₂) ≡ f ++ (c ++ ((hs ++ h) ++ (z ++ ((b ++ y) ++ z₂)))) = simp append_assoc in
    let w₃ = written_over f c ((hs ++ h) ++ (z ++ ((b ++ y) ++ z₂))) c' 5 lf lc in
    ap (λ l. written_at (written_at (written_at l at h) at₂ y) 5 c') e₁
    ∙ ap (λ l. written_at (written_at l at₂ y) 5 c') (w₁ ∙ e₂)
    ∙ ap (λ l. written_at l 5 c') (w₂ ∙ e₃)
    ∙ w₃

module _ (capacity size : ℕ) (es : List Entry) (e : Entry) (room : length es < capacity) (space : messages_at capacity + costs_of es + cost_of e ≤ size) where
  image_push : written_at (written_at (written_at (image_of capacity size es) (7 + 17 * length es) (head_of e)) (messages_at capacity + costs_of es) (message_of e)) 5 (be_bytes 2 (length es + 1))
      ≡ image_of capacity size (es ++ (e ∷ []))
  unfolding image_of
  image_push =
      let free = 17 * (capacity - (length es + 1)) in
      let left = size - (messages_at capacity + costs_of es + cost_of e) in
      let front = mark ++ be_bytes 2 version in
      let write = three_writes front (be_bytes 2 (length es)) (be_bytes 2 (length es + 1)) (heads_of es) (zeros 17) (head_of e) (zeros free)
      (messages_of es) (zeros (cost_of e)) (message_of e) (zeros left) (7 + 17 * length es) (messages_at capacity + costs_of es)
      refl refl refl (sym (length-replicate (cost_of e) 0)) (omega (arith, length-heads es))
      (omega (arith, length-replicate {A = ℕ} free 0, length-messages es)) in
      let before : image_of capacity size es ≡ front ++ (be_bytes 2 (length es) ++ (heads_of es ++ ((zeros 17 ++ zeros free) ++ (messages_of es ++ (zeros (cost_of e) ++ zeros left))))) =
      λ i. front ++ (be_bytes 2 (length es) ++ (heads_of es ++ (zeros-parts 17 free (17 * (capacity - length es)) (omega arith) i
      ++ (messages_of es ++ zeros-parts (cost_of e) left (size - (messages_at capacity + costs_of es)) (omega arith) i)))) in
      let count : length (es ++ (e ∷ [])) ≡ length es + 1 = length_push es e in
      let free-is : 17 * (capacity - length (es ++ (e ∷ []))) ≡ free = omega arith in
      let left_is : size - (messages_at capacity + costs_of (es ++ (e ∷ []))) ≡ left = omega (arith, costs_push es e) in
      let after : image_of capacity size (es ++ (e ∷ []))
      ≡ front ++ (be_bytes 2 (length es + 1) ++ ((heads_of es ++ head_of e) ++ (zeros free ++ ((messages_of es ++ message_of e) ++ zeros left)))) =
      λ i. front ++ (be_bytes 2 (count i) ++ (heads_push es e i ++ (zeros (free-is i) ++ (messages_push es e i ++ zeros (left_is i))))) in
      ap (λ l. written_at (written_at (written_at l (7 + 17 * length es) (head_of e)) (messages_at capacity + costs_of es) (message_of e)) 5 (be_bytes 2 (length es + 1))) before
      ∙ write ∙ sym after

-- an entry written behind the others
module _ (m : List ℕ) (capacity count used : ℕ) (e : Entry) (holds : Holds m capacity count used) (within : Within m capacity count used)
    (fit : numbers_fit e ≡ true) (fits-e : fits (listing_of m capacity count used) e ≡ true) where
  room : count < capacity
  room = omega (arith, (room_space (listing_of m capacity count used) e fits-e).0)

  space : messages_at capacity + used + cost_of e ≤ length m
  space = omega (arith, within.3, (room_space (listing_of m capacity count used) e fits-e).1)

  append_is : (m' : List ℕ) → m' ≡ written_at (written_at (written_at m (7 + 17 * count) (head_of e)) (messages_at capacity + used) (message_of e)) 5 (be_bytes 2 (count + 1))
      → length m' ≡ length m
      → (Holds m' capacity (count + 1) (used + cost_of e) × Within m' capacity (count + 1) (used + cost_of e))
      × (listing_of m' capacity (count + 1) (used + cost_of e) ≡ with_entry (listing_of m capacity count used) e)
  append_is m' is long =
      let es = entries_in m capacity count in
      let es' = es ++ (e ∷ []) in
      let count-is : length es' ≡ count + 1 = length_push es e ∙ ap (λ n. n + 1) holds.2 in
      let used-is : costs_of es' ≡ used + cost_of e = costs_push es e ∙ ap (λ n. n + cost_of e) holds.3 in
      let all : all_fit es' ≡ true = fit_push es e holds.1 fit in
      let image : m' ≡ image_of capacity (length m) es' =
      is ∙ (λ i. written_at (written_at (written_at (holds.0 i) (7 + 17 * sym holds.2 i) (head_of e)) (messages_at capacity + sym holds.3 i) (message_of e)) 5 (be_bytes 2 (sym holds.2 i + 1)))
      ∙ image_push capacity (length m) es e (omega (arith, holds.2, room)) (omega (arith, holds.3, space)) in
      let entries : entries_in m' capacity (count + 1) ≡ es' =
      (λ i. entries_in (image i) capacity (sym count-is i)) ∙ entries-image capacity (length m) es' (omega (arith, count-is, room)) all in
      let holds-image : m' ≡ image_of capacity (length m') (entries_in m' capacity (count + 1)) = image ∙ (λ i. image_of capacity (sym long i) (sym entries i)) in
      let entries_left : capacity - (count + 1) ≡ (capacity - count) - 1 = omega (arith, room) in
      let bytes_left : length m' - (messages_at capacity + (used + cost_of e)) ≡ (length m - (messages_at capacity + used)) - cost_of e = omega (arith, space) in (
        ((holds-image, ap all_fit entries ∙ all, ap length entries ∙ count-is, ap costs_of entries ∙ used-is), (omega (arith, within), omega (arith, within), omega (arith, room), omega (arith, space))),
        λ i. record { entries = entries i; entries_left = entries_left i; bytes_left = bytes_left i },
      )

  -- with the values that the code has
  pub append_leaves : (head message number m₁ m₂ m₃ : List ℕ) (start : ℕ) → head ≡ head_of e → message ≡ message_of e → number ≡ be_bytes 2 (count + 1) → start ≡ messages_at capacity
      → m₁ ≡ cond (leb (7 + 17 * count + length head) (length m)) (written_at m (7 + 17 * count) head) m
      → m₂ ≡ cond (leb (start + used + length message) (length m₁)) (written_at m₁ (start + used) message) m₁
      → m₃ ≡ cond (leb (5 + length number) (length m₂)) (written_at m₂ 5 number) m₂
      → (Holds m₃ capacity (count + 1) (used + length message) × Within m₃ capacity (count + 1) (used + length message))
      × (listing_of m₃ capacity (count + 1) (used + length message) ≡ with_entry (listing_of m capacity count used) e)
  append_leaves head message number m₁ m₂ m₃ start h msg n s e₁ e₂ e₃ =
      let fits₁ : 7 + 17 * count + length head ≤ length m = omega (arith, ap length h, within, room) in
      let w₁ = written m (7 + 17 * count) head fits₁ m₁ e₁ in
      let long₁ : length m₁ ≡ length m = ap length w₁ ∙ length-written m (7 + 17 * count) head fits₁ in
      let fits₂ : start + used + length message ≤ length m₁ = omega (arith, space, ap length msg) in
      let w₂ = written m₁ (start + used) message fits₂ m₂ e₂ in
      let long₂ : length m₂ ≡ length m₁ = ap length w₂ ∙ length-written m₁ (start + used) message fits₂ in
      let fits₃ : 5 + length number ≤ length m₂ = omega (arith, ap length n) in
      let w₃ = written m₂ 5 number fits₃ m₃ e₃ in
      let long₃ : length m₃ ≡ length m₂ = ap length w₃ ∙ length-written m₂ 5 number fits₃ in
      let all : m₃ ≡ written_at (written_at (written_at m (7 + 17 * count) (head_of e)) (messages_at capacity + used) (message_of e)) 5 (be_bytes 2 (count + 1)) =
      w₃ ∙ ap (λ l. written_at l 5 number) (w₂ ∙ ap (λ l. written_at l (start + used) message) w₁)
      ∙ (λ i. written_at (written_at (written_at m (7 + 17 * count) (h i)) (s i + used) (msg i)) 5 (n i)) in
      rw msg (append_is m₃ all (long₃ ∙ long₂ ∙ long₁))

-- an image without entries
no_entries : (m : List ℕ) (capacity : ℕ) → entries_in m capacity 0 ≡ []
unfolding entries_in entries_from
no_entries m capacity = refl

look_ok : (fits : Bool) → look_answer fits ≡ Ok tt → fits ≡ true
look_ok true h = refl
look_ok false h = ap is_ok h

image_bounds : (size capacity : ℕ) → image_fits size capacity ≡ Ok tt → (1 ≤ capacity) × (capacity ≤ max_entries) × (messages_at capacity ≤ size)
image_bounds size capacity h =
    let both = and_parts (allowed capacity) (leb (messages_at capacity) size) (look_ok (allowed capacity && leb (messages_at capacity) size) h) in
    let bounds = and_parts (leb 1 capacity) (leb capacity max_entries) both.0 in
    (leb-true _ _ bounds.0, leb-true _ _ bounds.1, leb-true _ _ both.1)

module _ (capacity size : ℕ) (m m' : List ℕ) (fits : image_fits size capacity ≡ Ok tt) (zeroed : m ≡ zeros size)
    (is : m' ≡ cond (leb 5 (length m)) (written_at m 0 (mark ++ be_bytes 2 version)) m) where
  new_bytes : m' ≡ image_of capacity size []
  unfolding image_of heads_of messages_of
  new_bytes =
      let bounds = image_bounds size capacity fits in
      let front = mark ++ be_bytes 2 version in
      let free = 17 * (capacity - 0) in
      let left = size - (messages_at capacity + 0) in
      let long : length m ≡ size = ap length zeroed ∙ length-replicate size 0 in
      let split : zeros size ≡ zeros 5 ++ (zeros 2 ++ (zeros free ++ zeros left)) =
      zeros-parts 5 (size - 5) size (omega (arith, bounds))
      ∙ ap (λ l. zeros 5 ++ l) (zeros-parts 2 (size - 7) (size - 5) (omega (arith, bounds)) ∙ ap (λ l. zeros 2 ++ l) (zeros-parts free left (size - 7) (omega (arith, bounds)))) in
      written m 0 front (omega (arith, bounds)) m' is ∙ ap (λ l. written_at l 0 front) (zeroed ∙ split) ∙ written_over [] (zeros 5) (zeros 2 ++ (zeros free ++ zeros left)) front 0 refl refl

  new_long : length m' ≡ size
  new_long =
      let bounds = image_bounds size capacity fits in
      let front = mark ++ be_bytes 2 version in
      let long : length m ≡ size = ap length zeroed ∙ length-replicate size 0 in
      ap length (written m 0 front (omega (arith, bounds)) m' is) ∙ length-written m 0 front (omega (arith, bounds)) ∙ long

  new_sound : Holds m' capacity 0 0 × Within m' capacity 0 0
  new_sound =
      let bounds = image_bounds size capacity fits in
      let long = new_long in
      let none = no_entries m' capacity in
      let image : m' ≡ image_of capacity (length m') (entries_in m' capacity 0) = new_bytes ∙ (λ i. image_of capacity (sym long i) (sym none i)) in
      ((image, ap all_fit none, ap length none, ap costs_of none), (bounds.0, bounds.1, omega arith, omega (arith, bounds)))

  new_listing : listing_of m' capacity 0 0 ≡ record { entries = []; entries_left = capacity; bytes_left = size - messages_at capacity }
  new_listing =
      let long = new_long in
      let none = no_entries m' capacity in
      let bytes_left : length m' - (messages_at capacity + 0) ≡ size - messages_at capacity = omega arith in
      let entries_left : capacity - 0 ≡ capacity = omega arith in
      λ i. record { entries = none i; entries_left = entries_left i; bytes_left = bytes_left i }

  pub new_leaves : (Holds m' capacity 0 0 × Within m' capacity 0 0)
      × (listing_of m' capacity 0 0 ≡ record { entries = []; entries_left = capacity; bytes_left = size - messages_at capacity })
      × (m' ≡ image_of capacity size [])
  new_leaves = (new_sound, new_listing, new_bytes)
