-- Values at which the definitions can be checked by hand.
use Rattle.std.specs.Prelude.{◌≡◌, ℕ, List, [], ◌∷◌, replicate, pos, Ok, Err}
use Rattle.base.specs.Adler.{adler_of}
use Rattle.base.specs.Limits.{max_number}
use Rattle.base.specs.Refusals.{rule_of, refused_in}
use Rattle.base.specs.declared.refusal.Cause.TheVariants.{MessageCount, NumberRange}
use Rattle.stores.specs.Xor.{xored}
use Rattle.wire.specs.Reading.{first_number_of}
use Rattle.wire.specs.declared.head.Head.{Head}

-- The head of application data that can be resent by number and has lengths: messages from a first number on.
abbrev pub data_head : ℕ → ℕ → Head
data_head first count =
    record {
      header_size = 5;
      sender = 0;
      market = 1;
      channel = 1;
      seq = pos first;
      count = count;
      flag = record { 0 = 0x3080 };
    }

-- The front of a multicast heartbeat: all of it but the trailer.
abbrev pub heartbeat_front : List ℕ
heartbeat_front = 0xFF ∷ (0x01 ∷ (0x05 ∷ (0x00 ∷ (0x00 ∷ (0x01 ∷ replicate 14 0)))))

pub record Values : Type 0 where
  pub sum_of_nothing : adler_of [] ≡ 0x00000001
  pub sum_of_letter : adler_of (97 ∷ []) ≡ 0x00620062
  pub sum_of_heartbeat : adler_of heartbeat_front ≡ 0x147C0107
  -- 820 messages are one too many
  pub too_many : (d : List ℕ) (first : ℕ) → first_number_of d (data_head first 820) ≡ Err (refused_in d MessageCount)
  pub too_many_number : (rule_of MessageCount).number ≡ 18
  -- a packet may end at the largest number, and not go past it
  pub last_number : (d : List ℕ) → first_number_of d (data_head max_number 1) ≡ Ok max_number
  pub past_last : (d : List ℕ) → first_number_of d (data_head max_number 2) ≡ Err (refused_in d NumberRange)
  pub past_last_number : (rule_of NumberRange).number ≡ 19
  -- the token runs on over the body
  pub opened : xored (0x01 ∷ (0x02 ∷ [])) (0x10 ∷ (0x20 ∷ (0x30 ∷ []))) ≡ 0x11 ∷ (0x22 ∷ (0x31 ∷ []))
