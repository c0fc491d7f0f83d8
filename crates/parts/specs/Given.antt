-- What an entry of the code means.
use Rattle.std.specs.Prelude.{ℕ, List}
use Rattle.std.specs.Borrow.{Bor}
use Rattle.parts.specs.Entries.{Entry, delivered, missing, made_up, written_off, closed}
use Rattle.parts.specs.declared.entry.Entry.{Entry as Given}
use Rattle.parts.specs.declared.entry.Entry.TheVariants.{Delivered, Missing, MadeUp, WrittenOff, Closed}

abbrev pub entry_of : Given (Bor (List ℕ)) → Entry
entry_of (Delivered n message) = delivered n message.now
entry_of (Missing first last) = missing first last
entry_of (MadeUp n message) = made_up n message.now
entry_of (WrittenOff first last) = written_off first last
entry_of (Closed n) = closed n
