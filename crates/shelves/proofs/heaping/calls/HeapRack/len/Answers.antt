use Rattle.std.proofs.Common.{sym}
use Rattle.shelves.proofs.Counting.{length-heap}
use Rattle.shelves.proofs.heaping.calls.HeapRack.len.Goals as goal

pub returns : goal.returns
returns c = let h = c.args.self.now in sym (length-heap h h.fits)
