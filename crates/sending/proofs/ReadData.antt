-- What holds of a datagram that is read as data.
use Rattle.std.proofs.Common.{◌≡◌, ℕ, ◌+◌, ◌-◌, ◌*◌, ◌^◌, ◌≤◌, Bool, true, false, cond, not, ◌&&◌, ◌||◌, eqb, ltb, leb, List, length, get_or, take, ℤ, pos, negsuc, Some, None, Ok, Err, Option, Result, sym, refl, ap, ◌∙◌, subst, arith}
use Rattle.std.specs.Option.{ok_or}
use Rattle.std.proofs.lemmas.Bool.{and_parts, or_parts, not-false, leb-true}
use Rattle.std.proofs.lemmas.Bool.Decides.{nat_tests}
use Rattle.base.specs.Adler.{adler_of}
use Rattle.base.specs.Fields.{be, signed64}
use Rattle.base.specs.Limits.{max_number}
use Rattle.base.specs.Refusals.{refused_in, first_of}
use Rattle.base.specs.declared.refusal.Cause.TheVariants.{ControlShape, NumberRange}
use Rattle.base.specs.declared.refusal.Refusal.{Refusal}
use Rattle.wire.specs.Flags.{message_type, is_by_number, compression, encryption, has_lengths, is_fragmented, reserved}
use Rattle.wire.specs.Header.{head_of}
use Rattle.wire.specs.Reading.{frame_rows, frame_of, head_rows, sound_head, is_control, control_kind, control_rows, control_of, numbered, first_in_range, data_rows, first_number_of, fragment_numbers, fragment_rows, fragment_of, packet_of, and_then, data_of, reading_of, words_for}
use Rattle.wire.specs.declared.datagram.Fragment.{Fragment}
use Rattle.wire.specs.declared.datagram.Packet.{Packet}
use Rattle.wire.specs.declared.datagram.Reading.{Reading}
use Rattle.wire.specs.declared.datagram.Reading.TheVariants.{Heartbeat, StreamHeartbeat, StreamEnd, Data}
use Rattle.wire.specs.declared.head.Head.{Head}
use Rattle.sending.proofs.Rows.{Pass, answered_passed, same-passed, most_passed}

-- a layer that was passed
then_answers : {X Y E : Type 0} (r : Result X E) (next : X → Result Y E) (y : Y) → and_then r next ≡ Ok y → (x : X) × (r ≡ Ok x) × (next x ≡ Ok y)
then_answers (Ok x) next y e = (x, refl, e)
then_answers (Err f) next y e = absurd (cc)

ok_or-answers : {X : Type 0} (o : Option X) (r : Refusal) (x : X) → ok_or o r ≡ Ok x → o ≡ Some x
ok_or-answers (Some y) r x e = cc
ok_or-answers None r x e = absurd (cc)

pub asked_answers : {X : Type 0} (b : Bool) (y x : X) → cond b (Some y) None ≡ Some x → (b ≡ true) × (y ≡ x)
asked_answers true y x e = (refl, cc)
asked_answers false y x e = absurd (cc)

pub frame_answers : (d : List ℕ) (h : Head) → frame_of d ≡ Ok h → Pass (frame_rows d) × (head_of d ≡ h)
unfolding frame_of
frame_answers d h e =
    let a = answered_passed (frame_rows d) (Ok (head_of d)) h e in
    (a.0, (let f = a.1 in cc))

pub head-answers : (channel : ℕ) (d : List ℕ) (h g : Head) → sound_head channel d h ≡ Ok g → Pass (head_rows channel d h) × (h ≡ g)
unfolding sound_head
head-answers channel d h g e =
    let a = answered_passed (head_rows channel d h) (Ok h) g e in
    (a.0, (let f = a.1 in cc))

-- a heartbeat or an end is no data
kinds : (b c e : Bool) (s last : ℕ) (a : Packet)
    → cond b (cond c (Some (Heartbeat s)) None) (Some (cond e (StreamHeartbeat s last) (StreamEnd s last))) ≡ Some (Data a) → ⊥
kinds true true e s last a h = cc
kinds true false e s last a h = cc
kinds false c true s last a h = cc
kinds false c false s last a h = cc

kind_control : (h : Head) (o : Option ℕ) (a : Packet) → control_kind h o ≡ Some (Data a) → ⊥
kind_control h None a e = cc
kind_control h (Some last) a e = kinds (eqb h.channel 0) (eqb last 0 && eqb h.count 0) (eqb h.count 0) h.sender last a e

control_answers : (d : List ℕ) (h : Head) (a : Packet) → control_of d h ≡ Ok (Data a) → ⊥
unfolding control_of
control_answers d h a e =
    let f = answered_passed (control_rows d h) (ok_or (control_kind h (numbered h.seq)) (refused_in d ControlShape)) (Data a) e in
    kind_control h (numbered h.seq) a (ok_or-answers (control_kind h (numbered h.seq)) (refused_in d ControlShape) (Data a) f.1)

pub kind_answers : (d : List ℕ) (h : Head) (a : Packet) (b : Bool) → cond b (control_of d h) (data_of d h) ≡ Ok (Data a) → (b ≡ false) × (data_of d h ≡ Ok (Data a))
kind_answers d h a true e = absurd (control_answers d h a e)
kind_answers d h a false e = (refl, e)

numbered_is : (q : ℤ) (n : ℕ) → numbered q ≡ Some n → q ≡ pos n
numbered_is (pos m) n e = ap pos (asked_answers (leb m max_number) m n e).1
numbered_is (negsuc m) n e = absurd (cc)

signed_is : (b : Bool) (v w n : ℕ) → cond b (pos v) (negsuc w) ≡ pos n → v ≡ n
signed_is true v w n e = cc
signed_is false v w n e = absurd (cc)

range_answers : (o : Option ℕ) (count first : ℕ) → first_in_range o count ≡ Some first → (o ≡ Some first) × (1 ≤ first) × (first + count - 1 ≤ max_number)
range_answers None count first e = absurd (cc)
range_answers (Some n) count first e =
    let a = asked_answers (leb 1 n && leb (n + count - 1) max_number) n first e in
    let b = and_parts (leb 1 n) (leb (n + count - 1) max_number) a.0 in
    let same = a.1 in
    (ap Some same, omega (arith, leb-true 1 n b.0), omega (arith, leb-true (n + count - 1) max_number b.1))

pub number-answers : (d : List ℕ) (first : ℕ) → first_number_of d (head_of d) ≡ Ok first
    → Pass (data_rows d (head_of d)) × (be 8 d 8 ≡ first) × (1 ≤ first) × (first + be 2 d 16 - 1 ≤ max_number)
unfolding first_number_of
number-answers d first e =
    let v = be 8 d 8 in
    let count = be 2 d 16 in
    let a = answered_passed (data_rows d (head_of d)) (ok_or (first_in_range (numbered (signed64 v)) count) (refused_in d NumberRange)) first e in
    let o = ok_or-answers (first_in_range (numbered (signed64 v)) count) (refused_in d NumberRange) first a.1 in
    let r = range_answers (numbered (signed64 v)) count first o in
    (a.0, signed_is (ltb v (2 ^ 63)) v (2 ^ 64 - 1 - v) first (numbered_is (signed64 v) first r.0), r.1, r.2)

whole_of : (b : Bool) (d : List ℕ) (h : Head)
    → cond b (first_of (fragment_rows d h (fragment_numbers d)) (Ok (Some (fragment_numbers d)))) (Ok None) ≡ Ok None → b ≡ false
whole_of true d h e =
    let a = answered_passed {X = Option Fragment} (fragment_rows d h (fragment_numbers d)) (Ok (Some (fragment_numbers d))) None e in
    absurd (let f = a.1 in cc)
whole_of false d h e = refl

pub whole-answers : (d : List ℕ) (h : Head) → fragment_of d h ≡ Ok None → is_fragmented h.flag.0 ≡ false
unfolding fragment_of
whole-answers d h e = whole_of (is_fragmented h.flag.0) d h e

-- a datagram that is read as data of no fragment
pub record WholeRead (channel : ℕ) (d : List ℕ) (a : Packet) : Type 0 where
  pub short : length d ≤ 1472
  pub protocol : get_or d 0 0 ≡ 255
  pub version : get_or d 1 0 ≡ 1
  pub trailer : be 4 d (length d - 4) ≡ adler_of (take (length d - 4) d)
  pub market : be 2 d 4 ≡ 1
  pub own : be 2 d 6 ≡ channel
  pub named : 1 ≤ channel
  pub free : reserved (be 2 d 18) ≡ 0
  pub application : message_type (be 2 d 18) ≡ 1
  pub plain : compression (be 2 d 18) ≡ 0
  pub coded : encryption (be 2 d 18) ≤ 1
  pub numbered : is_by_number (be 2 d 18) ≡ true
  pub lengths : has_lengths (be 2 d 18) ≡ true
  pub uncut : is_fragmented (be 2 d 18) ≡ false
  pub words : get_or d 2 0 ≡ words_for (be 2 d 18)
  pub room : 4 * get_or d 2 0 + 4 ≤ length d
  pub some : 1 ≤ be 2 d 16
  pub few : be 2 d 16 ≤ 819
  pub first : 1 ≤ be 8 d 8
  pub last : be 8 d 8 + be 2 d 16 - 1 ≤ max_number
  pub packet : packet_of d (head_of d) (be 8 d 8) None ≡ a

own-channel : (c channel count : ℕ) → (eqb c 0 || (eqb count 0 || eqb count 0xFFFF)) ≡ false → (not (eqb c 0) && not (eqb c channel)) ≡ false
    → (c ≡ channel) × (1 ≤ channel) × (1 ≤ count)
own-channel c channel count e f = grind (arith, nat_tests)

rows-read : (channel : ℕ) (d : List ℕ) (a : Packet) (first : ℕ) → Pass (frame_rows d) → Pass (head_rows channel d (head_of d)) → is_control (head_of d) ≡ false
    → first_number_of d (head_of d) ≡ Ok first → fragment_of d (head_of d) ≡ Ok None → packet_of d (head_of d) first None ≡ a → WholeRead channel d a
rows-read channel d a first frame head kind number fragment packet =
    let n = number-answers d first number in
    let c = own-channel (be 2 d 6) channel (be 2 d 16) kind head.1.0 in
    let e = n.1 in
    record {
      short = most_passed (length d) 1472 (or_parts (ltb (length d) 24) (ltb 1472 (length d)) frame.0).1;
      protocol = same-passed (get_or d 0 0) 255 frame.1.0;
      version = same-passed (get_or d 1 0) 1 frame.1.1.0;
      trailer = same-passed (be 4 d (length d - 4)) (adler_of (take (length d - 4) d)) frame.1.1.1.0;
      market = same-passed (be 2 d 4) 1 head.0;
      own = c.0;
      named = c.1;
      free = same-passed (reserved (be 2 d 18)) 0 head.1.1.0;
      application = same-passed (message_type (be 2 d 18)) 1 n.0.1.0;
      plain = same-passed (compression (be 2 d 18)) 0 head.1.1.1.1.0;
      coded = most_passed (encryption (be 2 d 18)) 1 head.1.1.1.1.1.0;
      numbered = not-false (is_by_number (be 2 d 18)) n.0.1.1.0;
      lengths = not-false (has_lengths (be 2 d 18)) n.0.1.1.1.0;
      uncut = whole-answers d (head_of d) fragment;
      words = same-passed (get_or d 2 0) (words_for (be 2 d 18)) head.1.1.1.1.1.1.0;
      room = most_passed (4 * get_or d 2 0 + 4) (length d) head.1.1.1.1.1.1.1.0;
      some = c.2;
      few = most_passed (be 2 d 16) 819 n.0.0;
      first = subst (λ v. 1 ≤ v) (sym e) n.2;
      last = subst (λ v. v + be 2 d 16 - 1 ≤ max_number) (sym e) n.3;
      packet = ap (λ v. packet_of d (head_of d) v None) e ∙ packet;
    }

pub data_is : (a b : Packet) → ◌≡◌ {A = Result Reading Refusal} (Ok (Data a)) (Ok (Data b)) → a ≡ b
data_is a b e = cc

data_read : (channel : ℕ) (d : List ℕ) (a : Packet) → Pass (frame_rows d) → Pass (head_rows channel d (head_of d)) → is_control (head_of d) ≡ false
    → data_of d (head_of d) ≡ Ok (Data a) → a.fragment ≡ None → WholeRead channel d a
data_read channel d a frame head kind e none =
    let packet : ℕ → Option Fragment → Result Reading Refusal = λ first fragment. Ok (Data (packet_of d (head_of d) first fragment)) in
    let n = then_answers (first_number_of d (head_of d)) (λ first. and_then (fragment_of d (head_of d)) (packet first)) (Data a) e in
    let p = then_answers (fragment_of d (head_of d)) (packet n.0) (Data a) n.2 in
    let made : packet_of d (head_of d) n.0 p.0 ≡ a = data_is (packet_of d (head_of d) n.0 p.0) a p.2 in
    let whole : p.0 ≡ None = ap (λ x. x.fragment) made ∙ none in
    rows-read channel d a n.0 frame head kind n.1 (p.1 ∙ ap Ok whole) (ap (packet_of d (head_of d) n.0) (sym whole) ∙ made)

pub whole-read : (channel : ℕ) (d : List ℕ) (a : Packet) → reading_of channel d ≡ Ok (Data a) → a.fragment ≡ None → WholeRead channel d a
unfolding reading_of
whole-read channel d a e none =
    let data-of : Head → Result Reading Refusal = λ h. cond (is_control h) (control_of d h) (data_of d h) in
    let f = then_answers (frame_of d) (λ head. and_then (sound_head channel d head) data-of) (Data a) e in
    let frame = frame_answers d f.0 f.1 in
    let rest : and_then (sound_head channel d (head_of d)) data-of ≡ Ok (Data a) = ap (λ h. and_then (sound_head channel d h) data-of) frame.1 ∙ f.2 in
    let s = then_answers (sound_head channel d (head_of d)) data-of (Data a) rest in
    let head = head-answers channel d (head_of d) s.0 s.1 in
    let k = kind_answers d (head_of d) a (is_control (head_of d)) (ap data-of head.1 ∙ s.2) in
    data_read channel d a frame.0 head.0 k.0 k.1 none
