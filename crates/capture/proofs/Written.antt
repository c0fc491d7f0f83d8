-- Lines that are written piece by piece, and how long they are.
use Rattle.std.proofs.Common.{◌≡◌, ℕ, ◌+◌, ◌-◌, ◌*◌, ◌≤◌, Bool, false, cond, ◌&&◌, ◌||◌, leb, List, [], ◌++◌, map, length, take, drop, is_some, Some, None, Ok, codes, Option, Result, sym, ap, ◌∙◌, subst, arith, length-append}
use Rattle.std.proofs.lemmas.Bool.Decides.{nat_tests}
use Rattle.std.specs.List.{concat}
use Rattle.base.specs.declared.refusal.Refusal.{Refusal}
use Rattle.page.specs.Text.{Sheet, wrote, wrote_all}
use Rattle.page.proofs.Pieces.{wrote_all-append, joined-append}
use Rattle.wire.specs.Bodies.{coded_in}
use Rattle.wire.specs.declared.datagram.Fragment.{Fragment}
use Rattle.wire.specs.declared.datagram.Packet.{Packet}
use Rattle.capture.specs.Inspecting.{Pieces, packet_pieces, messages_pieces, newline, plain_line}

pub both_long : (a b : Pieces) → length (concat (a ++ b)) ≡ length (concat a) + length (concat b)
both_long a b = ap length (joined-append a b) ∙ length-append (concat a) (concat b)

-- some pieces and the end of their line
pub line_written : (s : Sheet) (a : Pieces) → wrote (wrote_all s a) (codes "\n") ≡ wrote_all s (a ++ newline)
line_written s a = sym (wrote_all-append s a newline)

-- a packet with the lengths of its messages
module _ (index channel : ℕ) (p : Packet) (r : Result (List (List ℕ)) Refusal) (messages : List (List ℕ)) (ls : List ℕ)
    (e : Ok messages ≡ r) (l : ls ≡ map length messages) where
  plain_is : packet_pieces index channel p ++ (messages_pieces ls ++ newline) ≡ plain_line index channel p r
  plain_is =
      ap (λ k. packet_pieces index channel p ++ (messages_pieces k ++ newline)) l ∙ ap (plain_line index channel p) e

  pub plain_written : (s : Sheet)
      → wrote (wrote_all (wrote_all s (packet_pieces index channel p)) (messages_pieces ls)) (codes "\n") ≡ wrote_all s (plain_line index channel p r)
  plain_written s =
      line_written (wrote_all s (packet_pieces index channel p)) (messages_pieces ls)
      ∙ sym (wrote_all-append s (packet_pieces index channel p) (messages_pieces ls ++ newline))
      ∙ ap (wrote_all s) plain_is

  pub plain_short : (size : ℕ) → length (concat (packet_pieces index channel p)) ≤ 340 → length (concat (messages_pieces ls)) ≤ 8 + 21 * length ls
      → 4 * length ls ≤ size → length (concat (plain_line index channel p r)) ≤ 400 + 6 * size
  plain_short size h k m =
      subst (λ pieces. length (concat pieces) ≤ 400 + 6 * size) plain_is
      (omega (arith, both_long (packet_pieces index channel p) (messages_pieces ls ++ newline), both_long (messages_pieces ls) newline))

both_hold : (start end size : ℕ) (x y : Option (List ℕ)) → start ≤ end → end ≤ size → cond (leb start end && leb end size) x y ≡ x
both_hold start end size x y h k = grind (arith, nat_tests)

-- the coded body of such a packet
pub shown_part : (f : Option Fragment) (sealed : Bool) (start end : ℕ) (d plain : List ℕ) → (is_some f || sealed) ≡ false → start ≤ end → end ≤ length d
    → Some plain ≡ coded_in f start end d 0 [] → plain ≡ take (end - start) (drop start d)
shown_part None sealed start end d plain e h k same =
    let there = same ∙ both_hold start end (length d) (Some (take (end - start) (drop start d))) None h k in cc
shown_part (Some f) sealed start end d plain e h k same = absurd (let z : ◌≡◌ {A = ℕ} 0 1 = cc in omega arith)
