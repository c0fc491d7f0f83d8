-- The bits of the Flag word.
use Rattle.std.specs.Prelude.{ℕ, zero, suc, Bool, Some, None, Option, ◌==◌}
use Rattle.base.specs.Fields.{bits}
use Rattle.wire.specs.declared.flag.MessageType.{MessageType}
use Rattle.wire.specs.declared.flag.MessageType.TheVariants.{Management, Application}
use Rattle.wire.specs.declared.flag.Encryption.{Encryption}
use Rattle.wire.specs.declared.flag.Encryption.TheVariants.{Plain, Token}

-- bit 15, possible duplicate, is not acted on

-- bits 14 and 13: 0 is management, 1 is application
abbrev pub message_type : ℕ → ℕ
message_type flag = bits flag 13 2

-- the type of a number; 2 and 3 are reserved
abbrev pub type_numbered : ℕ → Option MessageType
type_numbered zero = Some Management
type_numbered (suc zero) = Some Application
type_numbered (suc (suc n)) = None

-- bit 12: the stream can be resent by number
abbrev pub is_by_number : ℕ → Bool
is_by_number flag = bits flag 12 1 == 1

-- bits 11 and 10: 0 is none
abbrev pub compression : ℕ → ℕ
compression flag = bits flag 10 2

-- bits 9 and 8: 0 is none, 1 is by a token
abbrev pub encryption : ℕ → ℕ
encryption flag = bits flag 8 2

-- the encryption of a number; 2 and 3 are reserved
abbrev pub encryption_numbered : ℕ → Option Encryption
encryption_numbered zero = Some Plain
encryption_numbered (suc zero) = Some Token
encryption_numbered (suc (suc n)) = None

abbrev pub is_sealed : ℕ → Bool
is_sealed flag = encryption flag == 1

-- bit 7: the body begins with the lengths of its messages
abbrev pub has_lengths : ℕ → Bool
has_lengths flag = bits flag 7 1 == 1

-- bit 6: the header has TotalFragments and FragmentNo
abbrev pub is_fragmented : ℕ → Bool
is_fragmented flag = bits flag 6 1 == 1

-- bit 5: the header has the plain body's checksum
abbrev pub has_checksum : ℕ → Bool
has_checksum flag = bits flag 5 1 == 1

-- bits 4 to 0
abbrev pub reserved : ℕ → ℕ
reserved flag = bits flag 0 5
