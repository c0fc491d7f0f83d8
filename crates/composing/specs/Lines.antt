-- The lines of a text, and the capture that they make.
use Rattle.std.specs.Prelude.{ℕ, ◌+◌, ◌-◌, ◌^◌, Bool, cond, ◌||◌, List, [], ◌∷◌, ◌++◌, length, take, replicate, Some, None, Ok, Err, codes, Option, Result, ◌==◌, slice_index}
use Rattle.std.specs.Str.{bytes_eq}
use Rattle.base.specs.Fields.{be_bytes}
use Rattle.base.specs.Limits.{max_capture}
use Rattle.words.specs.Words.{lines_of, word_of, after_word, is_blank, fitting}
use Rattle.composing.specs.Composing.{last_two, mapped, judge_of, raw_of, heartbeat_of, stream_of}
use Rattle.composing.specs.Data.{data_of}
use Rattle.composing.specs.declared.text.BadLine.{BadLine}

-- A line that is left out: it is blank or begins with #.
unfoldable pub is_idle : List ℕ → Bool
is_idle line = is_blank line || slice_index line 0 == 35

-- The line that opens a capture: its channel and its first number.
abbrev pub opening_of : List ℕ → Option (ℕ × ℕ)
opening_of rest = last_two 65535 (2 ^ 64 - 1) rest

unfoldable pub header_for : ℕ → ℕ → List ℕ
header_for channel start = 77 ∷ (68 ∷ (67 ∷ (be_bytes 2 1 ++ (be_bytes 2 channel ++ be_bytes 8 start))))

unfoldable pub header_of : List ℕ → Option (List ℕ)
header_of rest = mapped (λ p. header_for p.0 p.1) (opening_of rest)

-- What a line adds, by its first word and what follows that.
unfoldable pub record_of : (ℕ → Bool) → (ℕ → List ℕ → List ℕ) → ℕ → List ℕ → List ℕ → Option (List ℕ)
record_of ready seals channel kind rest =
    cond (bytes_eq kind (codes "data")) (data_of ready seals channel rest)
    (cond (bytes_eq kind (codes "judge")) (judge_of rest)
    (cond (bytes_eq kind (codes "raw")) (raw_of rest)
    (cond (bytes_eq kind (codes "heartbeat")) (heartbeat_of rest)
    (cond (bytes_eq kind (codes "stream-heartbeat")) (stream_of channel 0 rest)
    (cond (bytes_eq kind (codes "stream-end")) (stream_of channel 0xFFFF rest) None)))))

-- A stage is the channel of the capture that the lines so far have opened, or None.
abbrev pub by_stage : (ℕ → Bool) → (ℕ → List ℕ → List ℕ) → Option ℕ → List ℕ → List ℕ → Option (List ℕ)
by_stage ready seals None kind rest = cond (bytes_eq kind (codes "capture")) (header_of rest) None
by_stage ready seals (Some channel) kind rest = record_of ready seals channel kind rest

unfoldable pub added_by : (ℕ → Bool) → (ℕ → List ℕ → List ℕ) → Option ℕ → List ℕ → Option (List ℕ)
added_by ready seals stage line = cond (is_idle line) (Some []) (by_stage ready seals stage (word_of line) (after_word line))

-- The stage behind a line that is not bad.
abbrev pub channel_in : Option (ℕ × ℕ) → ℕ
channel_in None = 0
channel_in (Some p) = p.0

abbrev pub moved_on : Option ℕ → List ℕ → Option ℕ
moved_on None rest = Some (channel_in (opening_of rest))
moved_on (Some channel) rest = Some channel

unfoldable pub stage_after : Option ℕ → List ℕ → Option ℕ
stage_after stage line = cond (is_idle line) stage (moved_on stage (after_word line))

-- What a line that fits hands on; any other is bad.
abbrev pub afterwards : {R : Type 0} → Option (List ℕ) → R → (List ℕ → R) → R
afterwards None bad more = bad
afterwards (Some bytes) bad more = more bytes

-- A text that opens no capture is bad where it ends.
abbrev pub ended : Option ℕ → ℕ → List ℕ → Result (List ℕ) BadLine
ended None number done = Err (record { line = number })
ended (Some channel) number done = Ok done

-- The bytes so far, and those that the lines from a number on add, within the room; or the number of the first bad line.
unfoldable pub composed_from : (ℕ → Bool) → (ℕ → List ℕ → List ℕ) → ℕ → Option ℕ → ℕ → List ℕ → List (List ℕ) → Result (List ℕ) BadLine
composed_from ready seals room stage number done [] = ended stage number done
composed_from ready seals room stage number done (line ∷ lines) =
    afterwards (fitting (room - length done) (added_by ready seals stage line)) (Err (record { line = number }))
    (λ bytes. composed_from ready seals room (stage_after stage line) (number + 1) (done ++ bytes) lines)

-- The capture that a text makes, or the number of its first bad line, from 1.
unfoldable pub composed_of : (ℕ → Bool) → (ℕ → List ℕ → List ℕ) → List ℕ → Result (List ℕ) BadLine
composed_of ready seals text = composed_from ready seals max_capture None 1 [] (lines_of text)

-- What an answer says of an area.
abbrev pub capture_in : Result ℕ BadLine → List ℕ → Result (List ℕ) BadLine
capture_in (Ok n) area = Ok (take n area)
capture_in (Err bad) area = Err bad

-- The answer is the capture's size, and the area has the capture and zeros behind it; only zeros where a line is bad.
abbrev pub size_in : Result (List ℕ) BadLine → Result ℕ BadLine
size_in (Ok bytes) = Ok (length bytes)
size_in (Err bad) = Err bad

abbrev pub area_after : Result (List ℕ) BadLine → List ℕ
area_after (Ok bytes) = bytes ++ replicate (max_capture - length bytes) 0
area_after (Err bad) = replicate max_capture 0
