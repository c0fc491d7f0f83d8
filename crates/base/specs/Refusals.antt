-- The table of refusals: for each cause its number, the layer that refuses, and what the value beside it is.
use Rattle.std.specs.Prelude.{ℕ, ◌-◌, ◌*◌, Bool, cond, List, [], ◌∷◌, ◌++◌, length, Err, codes, decimal, Result, slice_index}
use Rattle.base.specs.declared.refusal.Layer.{Layer}
use Rattle.base.specs.declared.refusal.Layer.TheVariants.{Reading, Joining, Coding, Splitting, Placing, Call}
use Rattle.base.specs.declared.refusal.Returned.{Returned}
use Rattle.base.specs.declared.refusal.Returned.TheVariants.{Zero, Place, TrailerPlace, BodyStart, ChecksumPlace, MessageIndex, SeqNum, First, Next, Last, Length, Claim, Record}
use Rattle.base.specs.declared.refusal.Cause.{Cause}
use Rattle.base.specs.declared.refusal.Cause.TheVariants.{BufferSize, DatagramSize, Protocol, Version, Trailer, Market, Channel, FlagBits, HeaderSize, ControlShape, MessageCount, DataFlag, NumberRange, Fragment, FragmentMismatch, FragmentsTooLong, HeldBodySize, AlreadyHeld, CoderNotReady, BodyChecksum, MessageLengths, ShelfFull, PastEnd, OutletFull, JudgeNumber, GapRowsFull, NoGapRow, RowClaimed, RowNotClaimed, MakeUpSize, ForeignClaim, NotClosable, Opening, PartSize, Capture, PackArgument, SealNotReady}
use Rattle.base.specs.declared.refusal.Rule.{Rule}
use Rattle.base.specs.declared.refusal.Refusal.{Refusal}

abbrev ruled : ℕ → Layer → Returned → Rule
ruled number layer returned = record { number = number; layer = layer; returned = returned }

abbrev pub rule_of : Cause → Rule
rule_of BufferSize = ruled 10 Call Zero
rule_of DatagramSize = ruled 11 Reading Zero
rule_of Protocol = ruled 12 Reading (Place 0)
rule_of Version = ruled 12 Reading (Place 1)
rule_of Trailer = ruled 13 Reading TrailerPlace
rule_of Market = ruled 14 Reading (Place 4)
rule_of Channel = ruled 14 Reading (Place 6)
rule_of FlagBits = ruled 15 Reading (Place 18)
rule_of HeaderSize = ruled 16 Reading (Place 2)
rule_of ControlShape = ruled 17 Reading (Place 6)
rule_of MessageCount = ruled 18 Reading (Place 16)
rule_of DataFlag = ruled 18 Reading (Place 18)
rule_of NumberRange = ruled 19 Reading (Place 8)
rule_of Fragment = ruled 21 Reading (Place 20)
rule_of FragmentMismatch = ruled 22 Joining (Place 20)
rule_of FragmentsTooLong = ruled 23 Joining (Place 20)
rule_of HeldBodySize = ruled 24 Call Zero
rule_of AlreadyHeld = ruled 25 Call Zero
rule_of CoderNotReady = ruled 31 Coding BodyStart
rule_of BodyChecksum = ruled 32 Coding ChecksumPlace
rule_of MessageLengths = ruled 41 Splitting MessageIndex
rule_of ShelfFull = ruled 51 Placing First
rule_of PastEnd = ruled 52 Placing SeqNum
rule_of OutletFull = ruled 53 Placing Next
rule_of JudgeNumber = ruled 54 Call Next
rule_of GapRowsFull = ruled 55 Call Next
rule_of NoGapRow = ruled 61 Call Last
rule_of RowClaimed = ruled 62 Call Last
rule_of RowNotClaimed = ruled 63 Call Last
rule_of MakeUpSize = ruled 64 Call Length
rule_of ForeignClaim = ruled 65 Call Claim
rule_of NotClosable = ruled 71 Call Next
rule_of Opening = ruled 72 Call Zero
rule_of PartSize = ruled 73 Call Zero
rule_of Capture = ruled 81 Call Record
rule_of PackArgument = ruled 91 Call Zero
rule_of SealNotReady = ruled 92 Call Zero

-- A refusal as text: the cause's number and the value.
abbrev pub refusal_text : Refusal → List ℕ
refusal_text r = decimal (rule_of r.cause).number ++ (codes " " ++ decimal r.value)

-- The value beside a cause that a datagram is refused for: a place in it, or 0 where the cause names none.
abbrev pub place_in : List ℕ → Returned → ℕ
place_in d Zero = 0
place_in d (Place p) = p
place_in d TrailerPlace = length d - 4
place_in d BodyStart = 4 * slice_index d 2
place_in d ChecksumPlace = 4 * slice_index d 2 - 4
place_in d MessageIndex = 0
place_in d SeqNum = 0
place_in d First = 0
place_in d Next = 0
place_in d Last = 0
place_in d Length = 0
place_in d Claim = 0
place_in d Record = 0

abbrev pub refused_in : List ℕ → Cause → Refusal
refused_in d cause = record { cause = cause; value = place_in d (rule_of cause).returned }

-- A row of a table of refusals: a test, and what is refused with where it holds.
abbrev pub Row : Type 0
Row = Bool × Refusal

-- The first row whose test holds refuses; where none does, the answer stands.
abbrev pub first_of : {X : Type 0} → List Row → Result X Refusal → Result X Refusal
first_of [] answer = answer
first_of (row ∷ rows) answer = cond row.0 (Err row.1) (first_of rows answer)
