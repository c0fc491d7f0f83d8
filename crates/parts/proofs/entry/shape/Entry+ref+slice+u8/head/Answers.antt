use Rattle.std.proofs.Common.{sym, ◌∙◌}
use Rattle.base.proofs.Fields.{eight_bytes}
use Rattle.parts.proofs.entry.shape.Entry+ref+slice+u8.head.Goals as goal

pub returns-clause-value : goal.returns-clause-value
returns-clause-value c =
    simp (
      c.copy_from_slice.ensures.after,
      c.copy_from_slice-2.ensures.after,
      c.to_be_bytes.ensures ∙ sym (eight_bytes _),
      c.to_be_bytes-2.ensures ∙ sym (eight_bytes _),
      c.numbers-first.ensures,
      c.letter.ensures,
    )
