-- What a fragment comes to, and the packets in reassembly then.
use Rattle.std.specs.Prelude.{ℕ, ◌-◌, ◌*◌, Bool, true, false, cond, not, ◌&&◌, ◌||◌, List, [], ◌∷◌, ◌++◌, length, take, drop, replicate, Some, None, Ok, Err, Option, Result, ◌==◌, nat_lt, slice_index_or, slice_set}
use Rattle.base.specs.Limits.{body_room, max_fragments}
use Rattle.base.specs.declared.refusal.Cause.{Cause}
use Rattle.base.specs.declared.refusal.Cause.TheVariants.{BufferSize, Fragment, FragmentMismatch, FragmentsTooLong, PartSize}
use Rattle.base.specs.declared.refusal.Refusal.{Refusal}
use Rattle.wire.specs.Joining.{joined_pieces}
use Rattle.partials.specs.declared.head.Joined.{Joined}
use Rattle.partials.specs.declared.head.Joined.TheVariants.{Again, Kept, Whole}
use Rattle.partials.specs.declared.head.PartialHead.{PartialHead}

-- A partial is a packet in reassembly: what its fragments share, and its pieces by fragment number, sixteen of them, empty
-- where none has come.
pub record Partial : Type 0 where
  pub head : PartialHead
  pub pieces : List (List ℕ)

-- So many can stand at a time, each in 4,096 bytes of the lent memory.
abbrev pub max_partials : ℕ
max_partials = 4

abbrev pub partials_fit : ℕ → Result (Unit {0}) Refusal
partials_fit memory = cond (memory == max_partials * body_room) (Ok tt) (Err (record { cause = PartSize; value = 0 }))

-- The partial of a sender and a first number; the partials without it; the partials with `new` in the place of its like.
abbrev pub is_head_of : ℕ → ℕ → PartialHead → Bool
is_head_of sender first head = head.sender == sender && head.first == first

abbrev pub partial_with : ℕ → ℕ → List Partial → Option Partial
partial_with sender first [] = None
partial_with sender first (p ∷ ps) = cond (is_head_of sender first p.head) (Some p) (partial_with sender first ps)

abbrev pub without : ℕ → ℕ → List Partial → List Partial
without sender first [] = []
without sender first (p ∷ ps) = cond (is_head_of sender first p.head) ps (p ∷ without sender first ps)

abbrev pub replaced_by : Partial → List Partial → List Partial
replaced_by new [] = []
replaced_by new (p ∷ ps) = cond (is_head_of new.head.sender new.head.first p.head) (new ∷ ps) (p ∷ replaced_by new ps)

-- A fifth pushes out the one begun first.
abbrev pub with_room : List Partial → List Partial
with_room ps = cond (nat_lt (length ps) max_partials) ps (drop 1 ps)

-- A packet of which no piece has come, and one with a further piece, at the index `k` from 0.
abbrev pub begun : PartialHead → Partial
begun head = record { head = head; pieces = replicate max_fragments [] }

abbrev pub with_piece : Partial → ℕ → List ℕ → Partial
with_piece p k piece = record { head = p.head; pieces = slice_set p.pieces k piece }

abbrev pub all_there : List (List ℕ) → Bool
all_there [] = true
all_there (piece ∷ pieces) = not (length piece == 0) && all_there pieces

-- every piece of the packet has come
abbrev pub complete : Partial → Bool
complete p = all_there (take p.head.total p.pieces)

-- The fragments of a packet agree in these four.
abbrev pub same_checksum : Option ℕ → Option ℕ → Bool
same_checksum None None = true
same_checksum None (Some b) = false
same_checksum (Some a) None = false
same_checksum (Some a) (Some b) = a == b

abbrev pub agree : PartialHead → PartialHead → Bool
agree a b = a.count == b.count && (a.flag == b.flag && (a.total == b.total && same_checksum a.checksum b.checksum))

-- There is no such fragment: it is one of more than sixteen, its number is not 1 to their total, or its piece is empty.
abbrev pub misplaced : PartialHead → ℕ → List ℕ → Bool
misplaced head number piece = nat_lt max_fragments head.total || (number == 0 || (nat_lt head.total number || length piece == 0))

-- What a fragment comes to: it is refused; its piece had come already; it is kept, with the partials then and the bytes that
-- have come of its packet; or it is the last one missing, with the bytes of the whole packet.
pub data Outcome : Type 0 where
  refused : Refusal → Outcome
  again : Outcome
  kept : List Partial → List ℕ → Outcome
  whole : List ℕ → Outcome

-- The fragment's number stands at 20 in its datagram.
abbrev pub refused_for : Cause → Outcome
refused_for cause = refused (record { cause = cause; value = 20 })

-- A partial with its new piece, and the partials with it should it be kept.
abbrev pub settled : Partial → List Partial → Outcome
settled p ps =
    cond (nat_lt body_room (length (joined_pieces p.pieces))) (refused_for FragmentsTooLong)
    (cond (complete p) (whole (joined_pieces p.pieces)) (kept ps (joined_pieces p.pieces)))

abbrev pub join_found : Option Partial → List Partial → PartialHead → ℕ → List ℕ → Outcome
join_found None ps head k piece = settled (with_piece (begun head) k piece) (with_room ps ++ with_piece (begun head) k piece ∷ [])
join_found (Some p) ps head k piece =
    cond (not (agree p.head head)) (refused_for FragmentMismatch)
    (cond (nat_lt 0 (length (slice_index_or p.pieces k []))) again
    (settled (with_piece p k piece) (replaced_by (with_piece p k piece) ps)))

abbrev pub join_at : List Partial → PartialHead → ℕ → List ℕ → Outcome
join_at ps head k piece = join_found (partial_with head.sender head.first ps) ps head k piece

-- What a fragment comes to: its number, and its piece of the coded body.
unfoldable pub join_of : List Partial → PartialHead → ℕ → List ℕ → Outcome
join_of ps head number piece = cond (misplaced head number piece) (refused_for Fragment) (join_at ps head (number - 1) piece)

-- The same with a buffer to join in, which must have 4,096 bytes.
abbrev pub join_in : List ℕ → List Partial → PartialHead → ℕ → List ℕ → Outcome
join_in buffer ps head number piece =
    cond (length buffer == body_room) (join_of ps head number piece) (refused (record { cause = BufferSize; value = 0 }))

-- Of an outcome: the answer, the partials then, and the bytes at the front of the buffer.
abbrev pub answer_of : Outcome → Result Joined Refusal
answer_of (refused refusal) = Err refusal
answer_of again = Ok Again
answer_of (kept ps bytes) = Ok Kept
answer_of (whole bytes) = Ok (Whole (length bytes))

-- the bytes of the packet that an answer tells
abbrev pub size_of : Joined → ℕ
size_of Again = 0
size_of Kept = 0
size_of (Whole size) = size

abbrev pub after_of : Outcome → List Partial → List Partial
after_of (refused refusal) ps = ps
after_of again ps = ps
after_of (kept qs bytes) ps = qs
after_of (whole bytes) ps = ps

abbrev pub bytes_of : Outcome → List ℕ
bytes_of (refused refusal) = []
bytes_of again = []
bytes_of (kept ps bytes) = bytes
bytes_of (whole bytes) = bytes
