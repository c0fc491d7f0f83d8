-- One record more.
use Rattle.std.proofs.Common.{◌≡◌, ℕ, zero, suc, ◌+◌, ◌-◌, ◌<◌, ◌≤◌, true, cond, leb, List, [], ◌∷◌, ◌++◌, map, length, get_or, take, drop, set, Some, sym, refl, ap, ◌∙◌, arith, length-drop, length-set, take-append-drop}
use Rattle.std.proofs.lemmas.List.{length-take-le, take-append-le, drop-append-le, take_at, drop_at, take_more_set, map_push, get_or-map, length-map}
use Rattle.std.proofs.lemmas.Option.{slice_get-get_or}
use Rattle.std.specs.List.{slice_get}
use Rattle.std.proofs.lemmas.Bool.{leb-true, le-leb, and_parts, and_from}
use Rattle.base.specs.Areas.{written_at}
use Rattle.parts.specs.Entries.{Entry, delivered, missing, made_up, written_off, closed, cost_of, message_of}
use Rattle.parts.specs.Listings.{fits, with_entry}
use Rattle.outlets.specs.Tables.{Record, part_of, entry_by, record_of, listing_of, ends_by, all_end_by, Sound}
use Rattle.base.proofs.Areas.{length-written, written}
use Rattle.parts.proofs.Listed.{room_space}
use Rattle.outlets.specs.declared.table.records.Span.{Span}
use Rattle.parts.specs.declared.entry.Entry.TheVariants.{Delivered, Missing, MadeUp, WrittenOff, Closed}

-- a part that ends within a front does not depend on what stands behind
part-front : (front back : List ℕ) (s : Span) → s.start + s.len ≤ length front → part_of (front ++ back) s ≡ part_of front s
part-front front back s h =
    let rest : s.len ≤ length (drop s.start front) = simp length-drop (omega arith) in
    ap (take s.len) (drop-append-le s.start front back (omega arith)) ∙ take-append-le s.len (drop s.start front) back rest

-- what is written behind the used bytes changes no part in use
module _ (area : List ℕ) (filled : ℕ) (message : List ℕ) (within : filled ≤ length area) where
  part-kept : (s : Span) → leb (s.start + s.len) filled ≡ true → part_of (written_at area filled message) s ≡ part_of area s
  part-kept s h =
      let le = leb-true (s.start + s.len) filled h in
      let long = length-take-le filled area within in
      part-front (take filled area) (message ++ drop (filled + length message) area) s (omega arith)
      ∙ sym (part-front (take filled area) (drop filled area) s (omega arith)) ∙ ap (λ a. part_of a s) (take-append-drop filled area)

  entry_kept : (r : Record) → ends_by filled r ≡ true → entry_by (written_at area filled message) r ≡ entry_by area r
  entry_kept (Delivered n s) h = ap (delivered n) (part-kept s h)
  entry_kept (Missing first last) h = refl
  entry_kept (MadeUp n s) h = ap (made_up n) (part-kept s h)
  entry_kept (WrittenOff first last) h = refl
  entry_kept (Closed n) h = refl

  entries-kept : (rs : List Record) → all_end_by filled rs ≡ true → map (entry_by (written_at area filled message)) rs ≡ map (entry_by area) rs
  entries-kept [] h = refl
  entries-kept (r ∷ rs) h =
      let both = and_parts (ends_by filled r) (all_end_by filled rs) h in
      λ i. entry_kept r both.0 i ∷ entries-kept rs both.1 i

-- the new record stands for the entry
module _ (area : List ℕ) (filled : ℕ) (within : filled ≤ length area) where
  part-new : (message : List ℕ) → part_of (written_at area filled message) (record { start = filled; len = length message }) ≡ message
  part-new message =
      let rest = drop (filled + length message) area in
      ap (take (length message)) (drop_at (take filled area) (message ++ rest) filled (length-take-le filled area within)) ∙ take_at message rest (length message) refl

  entry_new : (e : Entry) → entry_by (written_at area filled (message_of e)) (record_of e (record { start = filled; len = cost_of e })) ≡ e
  entry_new (delivered n message) = ap (delivered n) (part-new message)
  entry_new (missing first last) = refl
  entry_new (made_up n message) = ap (made_up n) (part-new message)
  entry_new (written_off first last) = refl
  entry_new (closed n) = refl

-- the parts end where more bytes are used, or before
ends_later : (from to : ℕ) → from ≤ to → (r : Record) → ends_by from r ≡ true → ends_by to r ≡ true
ends_later from to le (Delivered n s) h = le-leb _ _ (let b = leb-true (s.start + s.len) from h in omega arith)
ends_later from to le (Missing first last) h = refl
ends_later from to le (MadeUp n s) h = le-leb _ _ (let b = leb-true (s.start + s.len) from h in omega arith)
ends_later from to le (WrittenOff first last) h = refl
ends_later from to le (Closed n) h = refl

ends_new : (filled : ℕ) (e : Entry) → ends_by (filled + cost_of e) (record_of e (record { start = filled; len = cost_of e })) ≡ true
ends_new filled (delivered n message) = le-leb _ _ (omega arith)
ends_new filled (missing first last) = refl
ends_new filled (made_up n message) = le-leb _ _ (omega arith)
ends_new filled (written_off first last) = refl
ends_new filled (closed n) = refl

ends_push : (from to : ℕ) → from ≤ to → (rs : List Record) (r : Record) → all_end_by from rs ≡ true → ends_by to r ≡ true → all_end_by to (rs ++ (r ∷ [])) ≡ true
ends_push from to le [] r h new = and_from (ends_by to r) true new refl
ends_push from to le (x ∷ rs) r h new =
    let both = and_parts (ends_by from x) (all_end_by from rs) h in
    and_from (ends_by to x) (all_end_by to (rs ++ (r ∷ []))) (ends_later from to le x both.0) (ends_push from to le rs r both.1 new)

-- an entry kept behind the others
module _ (records : List Record) (used : ℕ) (area : List ℕ) (filled : ℕ) (e : Entry) (sound : Sound records used area filled) (fit : fits (listing_of records used area filled) e ≡ true) where
  room : used < length records
  room = omega (arith, (room_space (listing_of records used area filled) e fit).0)

  space : filled + cost_of e ≤ length area
  space = omega (arith, sound.3, (room_space (listing_of records used area filled) e fit).1)

  append_is : Sound (set records used (record_of e (record { start = filled; len = cost_of e }))) (used + 1) (written_at area filled (message_of e)) (filled + cost_of e)
      × (listing_of (set records used (record_of e (record { start = filled; len = cost_of e }))) (used + 1) (written_at area filled (message_of e)) (filled + cost_of e)
      ≡ with_entry (listing_of records used area filled) e)
  append_is =
      let new = record_of e (record { start = filled; len = cost_of e }) in
      let area' = written_at area filled (message_of e) in
      let push : take (used + 1) (set records used new) ≡ take used records ++ (new ∷ []) = take_more_set records used new room in
      let count : length (set records used new) ≡ length records = length-set records used new in
      let size : length area' ≡ length area = length-written area filled (message_of e) space in
      let within : filled ≤ length area = sound.3 in
      let ends : all_end_by (filled + cost_of e) (take (used + 1) (set records used new)) ≡ true =
      ap (all_end_by (filled + cost_of e)) push ∙ ends_push filled (filled + cost_of e) (omega arith) (take used records) new sound.4 (ends_new filled e) in
      let entries : map (entry_by area') (take (used + 1) (set records used new)) ≡ map (entry_by area) (take used records) ++ (e ∷ []) =
      ap (map (entry_by area')) push ∙ map_push (entry_by area') (take used records) new
      ∙ (λ i. entries-kept area filled (message_of e) within (take used records) sound.4 i ++ (entry_new area filled within e i ∷ [])) in
      let entries_left : length (set records used new) - (used + 1) ≡ (length records - used) - 1 = omega (arith, room) in
      let bytes_left : length area' - (filled + cost_of e) ≡ (length area - filled) - cost_of e = omega (arith, space) in
      ((omega (arith, sound), omega (arith, sound), omega (arith, room), omega (arith, space), ends), λ i. record { entries = entries i; entries_left = entries_left i; bytes_left = bytes_left i })

  -- with the values that the code has
  pub append_leaves : (message area' : List ℕ) (new : Record) → message ≡ message_of e → new ≡ record_of e (record { start = filled; len = length message })
      → area' ≡ cond (leb (filled + length message) (length area)) (written_at area filled message) area
      → Sound (set records used new) (used + 1) area' (filled + length message)
      × (listing_of (set records used new) (used + 1) area' (filled + length message) ≡ with_entry (listing_of records used area filled) e)
  append_leaves message area' new m n a =
      rw (written area filled message (omega (arith, space, ap length m)) area' a, n, m) append_is

-- the entry at a place
all_end_at : (filled : ℕ) (rs : List Record) (k : ℕ) (d : Record) → all_end_by filled rs ≡ true → k < length rs → ends_by filled (get_or rs k d) ≡ true
all_end_at filled [] k d h lt = absurd (omega arith)
all_end_at filled (r ∷ rs) zero d h lt = (and_parts (ends_by filled r) (all_end_by filled rs) h).0
all_end_at filled (r ∷ rs) (suc k) d h lt = all_end_at filled rs k d (and_parts (ends_by filled r) (all_end_by filled rs) h).1 (omega arith)

module _ (records : List Record) (used : ℕ) (area : List ℕ) (filled : ℕ) (i : ℕ) (sound : Sound records used area filled)
    (r : Record) (lt : i < length (take used records)) (is : r ≡ get_or (take used records) i r) where
  pub ends_at : ends_by (length area) r ≡ true
  ends_at = ends_later filled (length area) sound.3 r (ap (ends_by filled) is ∙ all_end_at filled (take used records) i r sound.4 lt)

  pub entry_at : slice_get (map (entry_by area) (take used records)) i ≡ Some (entry_by area r)
  entry_at =
      slice_get-get_or (map (entry_by area) (take used records)) i (closed 0) (omega (arith, length-map (take used records) (entry_by area)))
      ∙ ap Some (get_or-map (entry_by area) (take used records) i r (closed 0) lt ∙ ap (entry_by area) (sym is))
