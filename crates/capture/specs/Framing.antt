-- A capture as it is written: the header, then each record.
use Rattle.std.specs.Prelude.{◌≡◌, ℕ, ◌^◌, ◌<◌, ◌≤◌, List, [], ◌∷◌, ◌++◌, length, Some}
use Rattle.base.specs.Fields.{be_bytes}
use Rattle.base.specs.Limits.{max_capture}
use Rattle.capture.specs.Records.{Record, datagram, judge, malformed, contents_of, records_of}

-- byte 1, the length and the datagram; byte 2 and the number
abbrev pub framed : Record → List ℕ
framed (datagram d) = 1 ∷ (be_bytes 2 (length d) ++ d)
framed (judge k) = 2 ∷ be_bytes 8 k
framed malformed = []

abbrev pub framed_all : List Record → List ℕ
framed_all [] = []
framed_all (r ∷ rs) = framed r ++ framed_all rs

-- mark, version, channel and start
abbrev pub header_for : ℕ → ℕ → List ℕ
header_for channel start = 77 ∷ (68 ∷ (67 ∷ (be_bytes 2 1 ++ (be_bytes 2 channel ++ be_bytes 8 start))))

abbrev pub capture_for : ℕ → ℕ → List Record → List ℕ
capture_for channel start records = header_for channel start ++ framed_all records

-- A record that can be framed: a datagram of at most 65,535 bytes, a number of eight bytes.
abbrev pub Framable : Record → Type 0
Framable (datagram d) = length d < 2 ^ 16
Framable (judge k) = k < 2 ^ 64
Framable malformed = ⊥

abbrev pub AllFramable : List Record → Type 0
AllFramable [] = Unit {0}
AllFramable (r ∷ rs) = Framable r × AllFramable rs

-- What is written reads back: channel, start and every record.
pub record ReadsBack (channel start : ℕ) (records : List Record) : Type 0 where
  pub contents : contents_of (capture_for channel start records) ≡ Some (record { channel = channel; start = start; records = framed_all records })
  pub same : records_of (framed_all records) ≡ records

abbrev pub EveryReadsBack : Type 0
EveryReadsBack =
    (channel start : ℕ) (records : List Record) → channel < 2 ^ 16 → start < 2 ^ 64 → AllFramable records
    → length (capture_for channel start records) ≤ max_capture → ReadsBack channel start records
