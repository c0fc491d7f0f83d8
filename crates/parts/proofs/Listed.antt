-- What comes of putting an entry, over plain listings.
use Rattle.std.proofs.Common.{◌≡◌, ℕ, ◌+◌, ◌-◌, ◌≤◌, Bool, true, false, cond, leb, List, [], ◌∷◌, ◌++◌, length, Ok, Err, Result, refl, arith}
use Rattle.std.proofs.lemmas.List.{length_push}
use Rattle.std.proofs.lemmas.Bool.{leb-true, and_parts}
use Rattle.base.specs.declared.refusal.Cause.TheVariants.{OutletFull}
use Rattle.base.specs.declared.refusal.Refusal.{Refusal}
use Rattle.parts.specs.Entries.{Entry, cost_of, costs_of}
use Rattle.parts.specs.Listings.{Listing, fits, with_entry, list_answer, listed, totals_of}

abbrev too_small : Refusal
too_small = record { cause = OutletFull; value = 0 }

-- put, or refused and nothing changed
pub record Put (l : Listing) (e : Entry) : Type 0 where
  pub fit : fits l e ≡ true
  pub after : listed l e ≡ with_entry l e

pub record Refused (l : Listing) (e : Entry) (r : Refusal) : Type 0 where
  pub unfit : fits l e ≡ false
  pub why : r ≡ too_small
  pub after : listed l e ≡ l

pub put_by : (l : Listing) (e : Entry) (u : Unit {0}) → Ok u ≡ list_answer l e → Put l e
put_by l e u is = of (fits l e) refl is where
  of : (b : Bool) → fits l e ≡ b → Ok u ≡ cond {A = Result (Unit {0}) Refusal} b (Ok tt) (Err too_small) → Put l e
  of true t is = record { fit = t; after = rw t refl }
  of false t is = absurd (let z : ◌≡◌ {A = ℕ} 0 1 = cc in omega arith)

pub refused-by : (l : Listing) (e : Entry) (r : Refusal) → Err r ≡ list_answer l e → Refused l e r
refused-by l e r is = of (fits l e) refl is where
  of : (b : Bool) → fits l e ≡ b → Err r ≡ cond {A = Result (Unit {0}) Refusal} b (Ok tt) (Err too_small) → Refused l e r
  of true t is = absurd (let z : ◌≡◌ {A = ℕ} 0 1 = cc in omega arith)
  of false t is = let same : r ≡ too_small = cc in record { unfit = t; why = same; after = rw t refl }

pub costs_push : (es : List Entry) (e : Entry) → costs_of (es ++ (e ∷ [])) ≡ costs_of es + cost_of e
costs_push [] e = omega arith
costs_push (x ∷ es) e = omega (arith, costs_push es e)

-- where an entry fits, there is room for it and space for its message
pub room_space : (l : Listing) (e : Entry) → fits l e ≡ true → (1 ≤ l.entries_left) × (cost_of e ≤ l.bytes_left)
room_space l e fit =
    let both = and_parts (leb 1 l.entries_left) (leb (cost_of e) l.bytes_left) fit in
    (leb-true 1 l.entries_left both.0, leb-true (cost_of e) l.bytes_left both.1)

-- what was put and what is left stay the same in all
pub with_entry_totals : (l : Listing) (e : Entry) → fits l e ≡ true → totals_of (with_entry l e) ≡ totals_of l
with_entry_totals l e fit =
    let there = room_space l e fit in
    let entries : length (l.entries ++ (e ∷ [])) + (l.entries_left - 1) ≡ length l.entries + l.entries_left = omega (arith, there.0, length_push l.entries e) in
    let bytes : costs_of (l.entries ++ (e ∷ [])) + (l.bytes_left - cost_of e) ≡ costs_of l.entries + l.bytes_left = omega (arith, there.1, costs_push l.entries e) in
    λ i. (entries i, bytes i)
