-- What a writer has written.
use Rattle.std.specs.Prelude.{ℕ, List, take}
use Rattle.sending.specs.declared.writer.Writer.{Writer}

-- The bytes at the front of its buffer.
abbrev pub written : Writer → List ℕ
written w = take w.len w.buffer.now
