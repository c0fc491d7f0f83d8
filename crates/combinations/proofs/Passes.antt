-- The packet that is passed on, where it was read.
use Rattle.std.proofs.Common.{◌≡◌, ℕ, ◌-◌, true, false, eqb, List, length, take, replicate, Some, Ok, Err, refl, ap, ◌∙◌}
use Rattle.std.proofs.lemmas.List.{take_at}
use Rattle.std.proofs.lemmas.Bool.{cond-true, cond-false}
use Rattle.base.specs.Limits.{body_room}
use Rattle.base.specs.declared.refusal.Cause.TheVariants.{OutletFull}
use Rattle.parts.specs.Entries.{delivered}
use Rattle.parts.specs.Holdings.{Holding, read_answer, read_leaves, take_leaves, padded}
use Rattle.parts.specs.Listings.{Listing, fits, with_entry}
use Rattle.parts.specs.declared.shelf.Sizes.{Sizes}
use Rattle.parts.proofs.Lowest.{Lowest, read_buffer, read_ok}
use Rattle.combinations.specs.Passing.{passed_by, passed}

module _ (h : Holding) (l : Listing) (buffer : List ℕ) (first : ℕ) (sizes : Sizes) (low : Lowest h first) (read : Ok (Some sizes) ≡ read_answer h first buffer) where
  abbrev body : List ℕ
  body = low.pair.part.body

  whole : eqb (length buffer) body_room ≡ true
  whole = (read_ok h first low buffer (Some sizes) read).0

  pub after_read : read_leaves h first buffer ≡ padded body
  after_read = read_buffer h first low buffer whole

  pub message : take sizes.length (read_leaves h first buffer) ≡ body
  message =
      let same : sizes ≡ record { count = low.pair.part.count; length = length body } = let e = (read_ok h first low buffer (Some sizes) read).1 in cc in
      ap (take sizes.length) after_read ∙ ap (λ (z : Sizes). take z.length (padded body)) same ∙ take_at body (replicate (body_room - length body) 0) (length body) refl

  head : passed h l buffer ≡ passed_by h l buffer (Some low.pair)
  head = ap (passed_by h l buffer) low.head

  pub full : fits l (delivered first body) ≡ false → passed h l buffer ≡ record { answer = Err (record { cause = OutletFull; value = 0 }); holding = h; listing = l; buffer = padded body }
  full e = head ∙ cond-true _ _ _ whole ∙ cond-false _ _ _ (ap (λ n. fits l (delivered n body)) low.number ∙ e)

  pub done : fits l (delivered first body) ≡ true
      → passed h l buffer ≡ record { answer = Ok (Some first); holding = take_leaves h first; listing = with_entry l (delivered first body); buffer = padded body }
  done e =
      head ∙ cond-true _ _ _ whole ∙ cond-true _ _ _ (ap (λ n. fits l (delivered n body)) low.number ∙ e)
      ∙ ap (λ (n : ℕ). record { answer = Ok (Some n); holding = take_leaves h n; listing = with_entry l (delivered n body); buffer = padded body }) low.number
