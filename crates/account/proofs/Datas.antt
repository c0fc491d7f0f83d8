-- What data comes to, by what joining it came to.
use Rattle.std.proofs.Common.{◌≡◌, ℕ, ◌≤◌, List, length, Some, Ok, Err, Result, IsErrAnd, sym, refl, ap, ◌∙◌}
use Rattle.std.proofs.lemmas.Bool.{le-ltb, cond-false}
use Rattle.base.specs.declared.refusal.Refusal.{Refusal}
use Rattle.partials.specs.Joining.{Partial, Outcome, refused, again, kept, whole, bytes_of}
use Rattle.partials.specs.declared.head.Joined.TheVariants.{Again, Kept, Whole}
use Rattle.wire.specs.Bodies.{coded_of}
use Rattle.wire.specs.declared.datagram.Packet.{Packet}
use Rattle.account.specs.Arriving.{Coder, comes_to, joined_then, data_of}
use Rattle.account.specs.Joined.{JoinedTo}
use Rattle.account.specs.States.{State}

-- the outcome, from the answer, and the partials that it left
module _ (p : Packet) (d joining : List ℕ) (ps qs : List Partial) where
  pub came_refused : (o : Outcome) (e : Refusal) → JoinedTo o p d ps (Err e) qs joining → (o ≡ refused e) × (qs ≡ ps)
  came_refused (refused f) e j = (let is = j.answer in let same : e ≡ f = cc in ap refused (sym same), j.after)
  came_refused again e j = absurd (cc j.answer)
  came_refused (kept rs bytes) e j = absurd (cc j.answer)
  came_refused (whole bytes) e j = absurd (cc j.answer)

  pub came_again : (o : Outcome) → JoinedTo o p d ps (Ok Again) qs joining → (o ≡ again) × (qs ≡ ps)
  came_again (refused f) j = absurd (cc j.answer)
  came_again again j = (refl, j.after)
  came_again (kept rs bytes) j = absurd (cc j.answer)
  came_again (whole bytes) j = absurd (cc j.answer)

  pub came_kept : (o : Outcome) → JoinedTo o p d ps (Ok Kept) qs joining → o ≡ kept qs (bytes_of o)
  came_kept (refused f) j = absurd (cc j.answer)
  came_kept again j = absurd (cc j.answer)
  came_kept (kept rs bytes) j = ap (λ x. kept x bytes) (sym j.after)
  came_kept (whole bytes) j = absurd (cc j.answer)

  -- a whole packet's coded body stands where it was said to
  pub coded-there : (o : Outcome) (size : ℕ) → JoinedTo o p d ps (Ok (Whole size)) qs joining → coded_of p d size joining ≡ Some (bytes_of o)
  coded-there (refused f) size j = absurd (cc j.answer)
  coded-there again size j = absurd (cc j.answer)
  coded-there (kept rs bytes) size j = absurd (cc j.answer)
  coded-there (whole bytes) size j = let is = j.answer in let same : size ≡ length bytes = cc in ap (λ n. coded_of p d n joining) same ∙ j.coded

  came_by : (o : Outcome) (size : ℕ) → JoinedTo o p d ps (Ok (Whole size)) qs joining → (o ≡ whole (bytes_of o)) × (qs ≡ ps)
  came_by (refused f) size j = absurd (cc j.answer)
  came_by again size j = absurd (cc j.answer)
  came_by (kept rs bytes) size j = absurd (cc j.answer)
  came_by (whole bytes) size j = (refl, j.after)

  pub came_whole : (o : Outcome) (size : ℕ) (coded : List ℕ) → JoinedTo o p d ps (Ok (Whole size)) qs joining → Some coded ≡ coded_of p d size joining → (o ≡ whole coded) × (qs ≡ ps)
  came_whole o size coded j is =
      let there = is ∙ coded-there o size j in
      let same : coded ≡ bytes_of o = cc in
      let came = came_by o size j in
      (came.0 ∙ ap whole (sym same), came.1)

-- data that is not expired
pub data_by : (c : Coder) (s : State) (p : Packet) (d : List ℕ) → s.numbers.next ≤ p.first → (o : Outcome) → comes_to s.partials p d ≡ o → joined_then c s p o ≡ data_of c s p d
unfolding data_of
data_by c s p d fresh o is = ap (joined_then c s p) (sym is) ∙ sym (cond-false _ _ _ (le-ltb p.first s.numbers.next fresh))

pub err_is : {X E : Type 0} (r : Result X E) (e : E) → IsErrAnd r (λ f. f ≡ e) → r ≡ Err e
err_is (Ok x) e h = absurd h
err_is (Err f) e h = ap Err h
