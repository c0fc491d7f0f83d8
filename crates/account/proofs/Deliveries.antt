-- Messages on their way to an outlet: what is left to put.
use Rattle.std.proofs.Common.{◌≡◌, ℕ, suc, ◌+◌, ◌<◌, ◌≤◌, true, leb, List, [], ◌∷◌, ◌&&◌, map, length, sum, get_or, take, drop, refl, ap, ◌∙◌, subst, arith, length-append}
use lib.ListN.{length-map}
use Rattle.std.proofs.lemmas.List.{length-take-le, length-drop}
use Rattle.std.proofs.lemmas.List.Sums.{sum_by-cons}
use Rattle.std.proofs.lemmas.Bool.{le-leb, and_from}
use Rattle.parts.specs.Entries.{delivered, costs_of}
use Rattle.parts.specs.Listings.{Listing, fits, with_entry}
use Rattle.base.specs.Fields.{be}
use Rattle.wire.specs.Messages.{lengths_in, messages_in}
use Rattle.wire.specs.declared.messages.Messages.{Messages}
use Rattle.wire.specs.Splitting.{cut, joined}
use Rattle.wire.proofs.Cuts.{lengths-more}
use Rattle.wire.proofs.Exactly.{length_cut}
use Rattle.wire.proofs.MessageLemmas.{joined-messages_in, sum-lengths_in}
use Rattle.account.specs.Delivering.{entries_from, all_fit, with_all}

length-entries : (n : ℕ) (ms : List (List ℕ)) → length (entries_from n ms) ≡ length ms
unfolding entries_from
length-entries n [] = refl
length-entries n (m ∷ ms) = ap suc (length-entries (n + 1) ms)

costs_entries : (n : ℕ) (ms : List (List ℕ)) → costs_of (entries_from n ms) ≡ length (joined ms)
unfolding entries_from
costs_entries n [] = refl
costs_entries n (m ∷ ms) = omega (arith, costs_entries (n + 1) ms, length-append m (joined ms))

-- there are as many messages as lengths
pub as_many : (m : Messages) → length (messages_in m) ≡ length m.lengths.now
as_many m = length_cut (lengths_in m) m.bytes.now ∙ length-map m.lengths.now (λ four. be 4 four 0)

-- whether all messages fit, by their number and the bytes of all
pub fit_by : (l : Listing) (first : ℕ) (m : Messages)
    → all_fit l (entries_from first (messages_in m)) ≡ (leb (length m.lengths.now) l.entries_left && leb (length m.bytes.now) l.bytes_left)
fit_by l first m =
    ap (λ n. leb n l.entries_left && leb (costs_of (entries_from first (messages_in m))) l.bytes_left) (length-entries first (messages_in m) ∙ as_many m)
    ∙ ap (λ n. leb (length m.lengths.now) l.entries_left && leb n l.bytes_left) (costs_entries first (messages_in m) ∙ ap length (joined-messages_in m))

-- The outlet stands at l, the next message has this number, and these lengths and bytes are left of all.
pub record Left (target l : Listing) (number : ℕ) (lens bytes : List ℕ) : Type 0 where
  pub whole : sum lens ≡ length bytes
  pub room : length lens ≤ l.entries_left
  pub space : length bytes ≤ l.bytes_left
  pub rest : with_all l (entries_from number (cut lens bytes)) ≡ target

-- all are left
pub all_left : (l : Listing) (first : ℕ) (m : Messages) → length m.lengths.now ≤ l.entries_left → length m.bytes.now ≤ l.bytes_left
    → Left (with_all l (entries_from first (messages_in m))) l (first + 0) (lengths_in m) m.bytes.now
all_left l first m room space =
    record {
      whole = sum-lengths_in m;
      room = omega (arith, length-map m.lengths.now (λ four. be 4 four 0));
      space = space;
      rest = let same : first + 0 ≡ first = omega arith in ap (λ n. with_all l (entries_from n (messages_in m))) same;
    }

-- The next message.
pub record Turn (target l : Listing) (number n : ℕ) (lens bytes : List ℕ) : Type 0 where
  pub ends : n ≤ length bytes
  pub fits_one : fits l (delivered number (take n bytes)) ≡ true
  pub left : Left target (with_entry l (delivered number (take n bytes))) (number + 1) lens (drop n bytes)

turn : (target l : Listing) (number n : ℕ) (lens bytes : List ℕ) → Left target l number (n ∷ lens) bytes → Turn target l number n lens bytes
unfolding entries_from with_all
turn target l number n lens bytes h =
    let all = sum_by-cons (λ x. x) n lens in
    let ends : n ≤ length bytes = omega (arith, all, h.whole) in
    let long = length-take-le n bytes ends in
    record {
      ends = ends;
      fits_one = and_from _ _ (le-leb 1 l.entries_left (omega (arith, h.room))) (le-leb (length (take n bytes)) l.bytes_left (omega (arith, long, h.space)));
      left = record {
        whole = omega (arith, all, h.whole, length-drop n bytes);
        room = omega (arith, h.room);
        space = omega (arith, h.space, long, length-drop n bytes);
        rest = h.rest;
      };
    }

-- the message at an index among all
pub turn_at : (target l : Listing) (number i n : ℕ) (fours : List (List ℕ)) (bytes : List ℕ) → i < length fours → n ≡ be 4 (get_or fours i []) 0
    → Left target l number (drop i (map (λ four. be 4 four 0) fours)) bytes → Turn target l number n (drop (i + 1) (map (λ four. be 4 four 0) fours)) bytes
turn_at target l number i n fours bytes lt is h =
    turn target l number n (drop (i + 1) (map (λ four. be 4 four 0) fours)) bytes
    (subst (λ ns. Left target l number ns bytes) (lengths-more (λ ns. ns) fours i n lt is) h)

pub left_is : (target l l' : Listing) (number number' : ℕ) (lens bytes bytes' : List ℕ) → l' ≡ l → number' ≡ number → bytes' ≡ bytes
    → Left target l number lens bytes → Left target l' number' lens bytes'
left_is target l l' number number' lens bytes bytes' el en eb h = rw (el, en, eb) h

-- none is left
pub all_put : (target l : Listing) (number : ℕ) (lens bytes : List ℕ) → lens ≡ [] → Left target l number lens bytes → l ≡ target
unfolding entries_from with_all
all_put target l number lens bytes none h = subst (λ ns. with_all l (entries_from number (cut ns bytes)) ≡ target) none h.rest
