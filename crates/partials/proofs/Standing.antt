-- What is known of packets in reassembly stays so.
use Rattle.std.proofs.Common.{◌≡◌, ℕ, ◌-◌, ◌≤◌, true, false, not, ◌&&◌, ◌||◌, eqb, ltb, leb, List, [], ◌∷◌, ◌++◌, length, get_or, drop, IfOk, Some, None, Option, Result, sym, refl, ap, ◌∙◌, inl, inr, arith, length-set}
use Rattle.std.proofs.lemmas.Bool.{cases_Bool, cases_eq, eqb-true, eq-eqb, ne_eqb, ltb-false, le-leb, and_parts, and_from, or_parts, or_from, not-true, not_from_false, cond_both}
use Rattle.base.specs.Limits.{body_room, max_fragments}
use Rattle.base.specs.declared.refusal.Refusal.{Refusal}
use Rattle.wire.specs.Joining.{joined_pieces}
use Rattle.partials.specs.Joining.{Partial, Outcome, refused, again, kept, whole, max_partials, is_head_of, partial_with, without, replaced_by, with_room, begun, with_piece, complete, agree, settled, join_found, join_at, join_of, join_in, misplaced, answer_of, size_of, after_of, bytes_of}
use Rattle.partials.specs.Known.{stands, distinct, unfinished, all_unfinished}
use Rattle.partials.specs.declared.head.Joined.{Joined}
use Rattle.partials.specs.declared.head.PartialHead.{PartialHead}

eqb-sym : (a b : ℕ) → eqb a b ≡ eqb b a
eqb-sym a b = elim (cases_eq a b) [
  | inl e ↦ eq-eqb a b e ∙ sym (eq-eqb b a (sym e))
  | inr n ↦ ne_eqb a b n ∙ sym (ne_eqb b a (λ e. n (sym e)))
]

-- two heads are of one packet, whichever comes first
head-sym : (a b : PartialHead) → is_head_of a.sender a.first b ≡ is_head_of b.sender b.first a
head-sym a b = ap (λ x. x && eqb b.first a.first) (eqb-sym b.sender a.sender) ∙ ap (λ x. eqb a.sender b.sender && x) (eqb-sym b.first a.first)

head-same : {X : Type 0} (f : ℕ → ℕ → X) (a b : PartialHead) → is_head_of a.sender a.first b ≡ true → f a.sender a.first ≡ f b.sender b.first
head-same f a b e =
    let x = and_parts (eqb b.sender a.sender) (eqb b.first a.first) e in
    ap (λ n. f n a.first) (sym (eqb-true b.sender a.sender x.0)) ∙ ap (f b.sender) (sym (eqb-true b.first a.first x.1))

module _ (sender first : ℕ) where
  pub none_stands : (ps : List Partial) → partial_with sender first ps ≡ None → stands sender first ps ≡ false
  none_stands [] e = refl
  none_stands (p ∷ ps) e = elim (cases_Bool (is_head_of sender first p.head)) [
    | inl t ↦ absurd (let f : ◌≡◌ {A = Option Partial} (Some p) None = rw t at e in let z : ◌≡◌ {A = ℕ} 0 1 = cc in omega arith)
    | inr n ↦ or_from (is_head_of sender first p.head) (stands sender first ps) n (none_stands ps (rw n at e))
  ]

  stands-drop : (ps : List Partial) → stands sender first ps ≡ false → stands sender first (drop 1 ps) ≡ false
  stands-drop [] e = e
  stands-drop (p ∷ ps) e = (or_parts (is_head_of sender first p.head) (stands sender first ps) e).1

  stands-more : (ps : List Partial) (q : Partial) → stands sender first ps ≡ false → is_head_of sender first q.head ≡ false → stands sender first (ps ++ q ∷ []) ≡ false
  stands-more [] q e n = or_from (is_head_of sender first q.head) false n refl
  stands-more (p ∷ ps) q e n =
      let x = or_parts (is_head_of sender first p.head) (stands sender first ps) e in
      or_from (is_head_of sender first p.head) (stands sender first (ps ++ q ∷ [])) x.0 (stands-more ps q x.1 n)

  stands-without : (s f : ℕ) (ps : List Partial) → stands sender first ps ≡ false → stands sender first (without s f ps) ≡ false
  stands-without s f [] e = refl
  stands-without s f (p ∷ ps) e =
      let x = or_parts (is_head_of sender first p.head) (stands sender first ps) e in
      cond_both (is_head_of s f p.head) ps (p ∷ without s f ps) (λ qs. stands sender first qs ≡ false) (λ t. x.1)
      (λ n. or_from (is_head_of sender first p.head) (stands sender first (without s f ps)) x.0 (stands-without s f ps x.1))

  stands-replaced : (new : Partial) (ps : List Partial) → stands sender first (replaced_by new ps) ≡ stands sender first ps
  stands-replaced new [] = refl
  stands-replaced new (p ∷ ps) =
      cond_both (is_head_of new.head.sender new.head.first p.head) (new ∷ ps) (p ∷ replaced_by new ps) (λ qs. stands sender first qs ≡ stands sender first (p ∷ ps))
      (λ t. head-same (λ s f. (eqb s sender && eqb f first) || stands sender first ps) new.head p.head t)
      (λ n. ap (λ b. is_head_of sender first p.head || b) (stands-replaced new ps))

-- all are of different packets
distinct_from : (p : Partial) (ps : List Partial) → stands p.head.sender p.head.first ps ≡ false → distinct ps ≡ true → distinct (p ∷ ps) ≡ true
distinct_from p ps n d = and_from (not (stands p.head.sender p.head.first ps)) (distinct ps) (not_from_false (stands p.head.sender p.head.first ps) n) d

distinct-parts : (p : Partial) (ps : List Partial) → distinct (p ∷ ps) ≡ true → (stands p.head.sender p.head.first ps ≡ false) × (distinct ps ≡ true)
distinct-parts p ps e =
    let x = and_parts (not (stands p.head.sender p.head.first ps)) (distinct ps) e in
    (not-true (stands p.head.sender p.head.first ps) x.0, x.1)

distinct-drop : (ps : List Partial) → distinct ps ≡ true → distinct (drop 1 ps) ≡ true
distinct-drop [] d = d
distinct-drop (p ∷ ps) d = (distinct-parts p ps d).1

distinct_more : (ps : List Partial) (q : Partial) → distinct ps ≡ true → stands q.head.sender q.head.first ps ≡ false → distinct (ps ++ q ∷ []) ≡ true
distinct_more [] q d n = refl
distinct_more (p ∷ ps) q d n =
    let x = distinct-parts p ps d in
    let y = or_parts (is_head_of q.head.sender q.head.first p.head) (stands q.head.sender q.head.first ps) n in
    distinct_from p (ps ++ q ∷ []) (stands-more p.head.sender p.head.first ps q x.0 (head-sym p.head q.head ∙ y.0)) (distinct_more ps q x.1 y.1)

pub distinct_without : (s f : ℕ) (ps : List Partial) → distinct ps ≡ true → distinct (without s f ps) ≡ true
distinct_without s f [] d = d
distinct_without s f (p ∷ ps) d =
    let x = distinct-parts p ps d in
    cond_both (is_head_of s f p.head) ps (p ∷ without s f ps) (λ qs. distinct qs ≡ true) (λ t. x.1)
    (λ n. distinct_from p (without s f ps) (stands-without p.head.sender p.head.first s f ps x.0) (distinct_without s f ps x.1))

distinct-replaced : (new : Partial) (ps : List Partial) → distinct ps ≡ true → distinct (replaced_by new ps) ≡ true
distinct-replaced new [] d = d
distinct-replaced new (p ∷ ps) d =
    let x = distinct-parts p ps d in
    cond_both (is_head_of new.head.sender new.head.first p.head) (new ∷ ps) (p ∷ replaced_by new ps) (λ qs. distinct qs ≡ true)
    (λ t. distinct_from new ps (head-same (λ s f. stands s f ps) new.head p.head t ∙ x.0) x.1)
    (λ n. distinct_from p (replaced_by new ps) (stands-replaced p.head.sender p.head.first new ps ∙ x.0) (distinct-replaced new ps x.1))

-- each is unfinished
each-parts : (p : Partial) (ps : List Partial) → all_unfinished (p ∷ ps) ≡ true → (unfinished p ≡ true) × (all_unfinished ps ≡ true)
each-parts p ps e = and_parts (unfinished p) (all_unfinished ps) e

each-drop : (ps : List Partial) → all_unfinished ps ≡ true → all_unfinished (drop 1 ps) ≡ true
each-drop [] e = e
each-drop (p ∷ ps) e = (each-parts p ps e).1

each_more : (ps : List Partial) (q : Partial) → all_unfinished ps ≡ true → unfinished q ≡ true → all_unfinished (ps ++ q ∷ []) ≡ true
each_more [] q e u = and_from (unfinished q) true u refl
each_more (p ∷ ps) q e u = let x = each-parts p ps e in and_from (unfinished p) (all_unfinished (ps ++ q ∷ [])) x.0 (each_more ps q x.1 u)

pub each-without : (s f : ℕ) (ps : List Partial) → all_unfinished ps ≡ true → all_unfinished (without s f ps) ≡ true
each-without s f [] e = e
each-without s f (p ∷ ps) e =
    let x = each-parts p ps e in
    cond_both (is_head_of s f p.head) ps (p ∷ without s f ps) (λ qs. all_unfinished qs ≡ true) (λ t. x.1)
    (λ n. and_from (unfinished p) (all_unfinished (without s f ps)) x.0 (each-without s f ps x.1))

each-replaced : (new : Partial) (ps : List Partial) → all_unfinished ps ≡ true → unfinished new ≡ true → all_unfinished (replaced_by new ps) ≡ true
each-replaced new [] e u = e
each-replaced new (p ∷ ps) e u =
    let x = each-parts p ps e in
    cond_both (is_head_of new.head.sender new.head.first p.head) (new ∷ ps) (p ∷ replaced_by new ps) (λ qs. all_unfinished qs ≡ true)
    (λ t. and_from (unfinished new) (all_unfinished ps) u x.1)
    (λ n. and_from (unfinished p) (all_unfinished (replaced_by new ps)) x.0 (each-replaced new ps x.1 u))

each-found : (s f : ℕ) (ps : List Partial) (p : Partial) → all_unfinished ps ≡ true → partial_with s f ps ≡ Some p → unfinished p ≡ true
each-found s f [] p e h = absurd (let z : ◌≡◌ {A = ℕ} 0 1 = cc in omega arith)
each-found s f (q ∷ ps) p e h =
    let x = each-parts q ps e in
    elim (cases_Bool (is_head_of s f q.head)) [
      | inl t ↦ let g : ◌≡◌ {A = Option Partial} (Some q) (Some p) = rw t at h in let same : q ≡ p = cc in ap unfinished (sym same) ∙ x.0
      | inr n ↦ each-found s f ps p x.1 (rw n at h)
    ]

-- what a piece leaves
abbrev Lasting : List Partial → Type 0
Lasting ps = (distinct ps ≡ true) × (all_unfinished ps ≡ true)

settled-lasts : (p : Partial) (rest ps : List Partial) → Lasting ps → length p.pieces ≡ max_fragments → (unfinished p ≡ true → Lasting rest) → Lasting (after_of (settled p rest) ps)
settled-lasts p rest ps h sixteen then =
    let n = length (joined_pieces p.pieces) in
    cond_both (ltb body_room n) _ _ (λ o. Lasting (after_of o ps)) (λ t. h)
    (λ short. cond_both (complete p) _ _ (λ o. Lasting (after_of o ps)) (λ t. h)
    (λ more. then (and_from (eqb (length p.pieces) max_fragments) (leb n body_room && not (complete p)) (eq-eqb (length p.pieces) max_fragments sixteen)
    (and_from (leb n body_room) (not (complete p)) (le-leb n body_room (ltb-false body_room n short)) (not_from_false (complete p) more)))))

found_lasts : (o : Option Partial) (ps : List Partial) (head : PartialHead) (k : ℕ) (piece : List ℕ) → partial_with head.sender head.first ps ≡ o
    → Lasting ps → Lasting (after_of (join_found o ps head k piece) ps)
found_lasts None ps head k piece e h =
    let new = with_piece (begun head) k piece in
    let away = none_stands head.sender head.first ps e in
    settled-lasts new (with_room ps ++ new ∷ []) ps h (length-set (begun head).pieces k piece)
    (λ u. cond_both (ltb (length ps) max_partials) ps (drop 1 ps) (λ qs. Lasting (qs ++ new ∷ []))
    (λ t. (distinct_more ps new h.0 away, each_more ps new h.1 u))
    (λ n. (distinct_more (drop 1 ps) new (distinct-drop ps h.0) (stands-drop head.sender head.first ps away), each_more (drop 1 ps) new (each-drop ps h.1) u)))
found_lasts (Some p) ps head k piece e h =
    let new = with_piece p k piece in
    let old = each-found head.sender head.first ps p h.1 e in
    let sixteen = eqb-true (length p.pieces) max_fragments (and_parts (eqb (length p.pieces) max_fragments) (leb (length (joined_pieces p.pieces)) body_room && not (complete p)) old).0 in
    cond_both (not (agree p.head head)) _ _ (λ o. Lasting (after_of o ps)) (λ t. h)
    (λ agreed. cond_both (ltb 0 (length (get_or p.pieces k []))) _ _ (λ o. Lasting (after_of o ps)) (λ t. h)
    (λ more. settled-lasts new (replaced_by new ps) ps h (length-set p.pieces k piece ∙ sixteen)
    (λ u. (distinct-replaced new ps h.0, each-replaced new ps h.1 u))))

pub join_lasts : (ps : List Partial) (head : PartialHead) (k : ℕ) (piece : List ℕ) → distinct ps ≡ true → all_unfinished ps ≡ true
    → (distinct (after_of (join_at ps head k piece) ps) ≡ true) × (all_unfinished (after_of (join_at ps head k piece) ps) ≡ true)
join_lasts ps head k piece d u = found_lasts (partial_with head.sender head.first ps) ps head k piece refl (d, u)

-- no more than 4,096 bytes are joined
settled-short : (p : Partial) (ps : List Partial) → length (bytes_of (settled p ps)) ≤ body_room
settled-short p ps =
    let n = length (joined_pieces p.pieces) in
    cond_both (ltb body_room n) _ _ (λ o. length (bytes_of o) ≤ body_room) (λ t. omega arith)
    (λ short. cond_both (complete p) _ _ (λ o. length (bytes_of o) ≤ body_room) (λ t. ltb-false body_room n short) (λ t. ltb-false body_room n short))

found_short : (o : Option Partial) (ps : List Partial) (head : PartialHead) (k : ℕ) (piece : List ℕ) → length (bytes_of (join_found o ps head k piece)) ≤ body_room
found_short None ps head k piece = settled-short (with_piece (begun head) k piece) (with_room ps ++ with_piece (begun head) k piece ∷ [])
found_short (Some p) ps head k piece =
    cond_both (not (agree p.head head)) _ _ (λ o. length (bytes_of o) ≤ body_room) (λ t. omega arith)
    (λ agreed. cond_both (ltb 0 (length (get_or p.pieces k []))) _ _ (λ o. length (bytes_of o) ≤ body_room) (λ t. omega arith)
    (λ none. settled-short (with_piece p k piece) (replaced_by (with_piece p k piece) ps)))

pub join_short : (ps : List Partial) (head : PartialHead) (number : ℕ) (piece : List ℕ) → length (bytes_of (join_of ps head number piece)) ≤ body_room
unfolding join_of
join_short ps head number piece =
    cond_both (misplaced head number piece) _ _ (λ o. length (bytes_of o) ≤ body_room) (λ t. omega arith)
    (λ placed. found_short (partial_with head.sender head.first ps) ps head (number - 1) piece)

outcome_short : (o : Outcome) (n : ℕ) → length (bytes_of o) ≤ n → IfOk (answer_of o) (λ joined. size_of joined ≤ n)
outcome_short (refused refusal) n h = tt
outcome_short again n h = omega arith
outcome_short (kept ps bytes) n h = omega arith
outcome_short (whole bytes) n h = h

pub answer-short : (r : Result Joined Refusal) (buffer : List ℕ) (ps : List Partial) (head : PartialHead) (number : ℕ) (piece : List ℕ)
    → r ≡ answer_of (join_in buffer ps head number piece) → IfOk r (λ joined. size_of joined ≤ length buffer)
answer-short r buffer ps head number piece e =
    let n = length buffer in
    rw e (cond_both (eqb n body_room) _ _ (λ o. IfOk (answer_of o) (λ joined. size_of joined ≤ n))
    (λ t. outcome_short (join_of ps head number piece) n (let l = join_short ps head number piece in let m = eqb-true n body_room t in omega arith))
    (λ t. tt))
