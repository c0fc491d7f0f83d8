-- Entries of the code that differ in their messages alone.
use Rattle.std.specs.Prelude.{◌≡◌}
use Rattle.parts.specs.declared.entry.Entry.{Entry as Given}
use Rattle.parts.specs.declared.entry.Entry.TheVariants.{Delivered, Missing, MadeUp, WrittenOff, Closed}

-- A fact about the message of an entry, where it has one.
abbrev pub AtMessage : {M : Type 0} → (M → Type 0) → Given M → Type 0
AtMessage P (Delivered n m) = P m
AtMessage P (Missing first last) = Unit {0}
AtMessage P (MadeUp n m) = P m
AtMessage P (WrittenOff first last) = Unit {0}
AtMessage P (Closed n) = Unit {0}

-- Two entries that differ in their messages alone.
abbrev pub MapsMessage : {M N : Type 0} → (M → N → Type 0) → Given M → Given N → Type 0
MapsMessage R (Delivered n m) e = (m' : _) × R m m' × (e ≡ Delivered n m')
MapsMessage R (Missing first last) e = e ≡ Missing first last
MapsMessage R (MadeUp n m) e = (m' : _) × R m m' × (e ≡ MadeUp n m')
MapsMessage R (WrittenOff first last) e = e ≡ WrittenOff first last
MapsMessage R (Closed n) e = e ≡ Closed n
