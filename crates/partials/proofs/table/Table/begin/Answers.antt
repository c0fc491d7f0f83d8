use Rattle.std.proofs.Common.{[], ◌∷◌, ◌++◌, length, get_or, refl, ap, ◌∙◌, arith}
use Rattle.partials.specs.Joining.{begun, with_piece, with_room}
use Rattle.partials.specs.Places.{no_row}
use Rattle.partials.specs.Tables.{partials_in}
use Rattle.partials.proofs.Ends.{begin_long, begin_whole, begin_kept, begun-fits, begins}
use Rattle.partials.proofs.Keeps.{at-fits, meets_refused, meets_whole, meets_kept}
use Rattle.base.proofs.Areas.{written}
use Rattle.partials.proofs.table.Table.begin.Goals as goal

pub returns-then-piece-gt-BODY_ROOM : goal.returns-then-piece-gt-BODY_ROOM
returns-then-piece-gt-BODY_ROOM c =
    let t = c.args.self.now in
    let p = c.args.piece in
    let o = begin_long t p.head p.index p.bytes.now c.requires p.within p.few (omega arith) in
    meets_refused (partials_in t) c.args.joining.now _ _ o c.new.ensures

pub returns-then-piece-eq1 : goal.returns-then-piece-eq1
returns-then-piece-eq1 c =
    let t = c.args.self.now in
    let p = c.args.piece in
    let bytes = p.bytes.now in
    let o = begin_whole t p.head p.index bytes c.requires p.within p.few (omega arith) (omega arith) p.some in
    let joined = written c.args.joining.now 0 bytes (omega arith) c.write_at.new.area c.write_at.ensures.after in
    meets_whole (partials_in t) c.args.joining.now bytes c.write_at.new.area (length bytes) o refl joined

pub store-requires-clause-fits : goal.store-requires-clause-fits
store-requires-clause-fits c =
    let p = c.args.piece in
    begun-fits c.make_room.new.self p.head c.with_length.result p.index (get_or c.make_room.new.self.rows c.make_room.new.self.len no_row).place p.bytes.now c.make_room.ensures.room (omega arith)
    (omega arith) c.with_length.ensures refl (at-fits c.make_room.new.self c.make_room.new.self.len c.make_room.ensures.room).1

pub returns : goal.returns
returns c =
    let t = c.args.self.now in
    let p = c.args.piece in
    let bytes = p.bytes.now in
    let new = with_piece (begun p.head) p.index bytes in
    let o = begin_kept t p.head p.index bytes c.requires p.within p.few (omega arith) c.if-piece-eq1.false in
    let joined = written c.args.joining.now 0 bytes (omega arith) c.write_at.new.area c.write_at.ensures.after in
    let b = begins c.make_room.new.self p.head c.with_length.result p.index (get_or c.make_room.new.self.rows c.make_room.new.self.len no_row).place bytes c.make_room.ensures.room (omega arith)
    (omega arith) c.with_length.ensures refl (at-fits c.make_room.new.self c.make_room.new.self.len c.make_room.ensures.room).1
    c.store.new.self.memory.now c.store.new.self.rows c.store.ensures.memory c.store.ensures.rows in
    meets_kept (partials_in t) c.args.joining.now (with_room (partials_in t) ++ new ∷ []) _ bytes c.write_at.new.area o (b ∙ ap (λ qs. qs ++ new ∷ []) c.make_room.ensures.after) joined
