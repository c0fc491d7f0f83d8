use Rattle.std.proofs.Common.{◌∙◌, ◌+◌, true, false, length, get_or, set, sym, arith}
use Rattle.partials.specs.Places.{no_row}
use Rattle.partials.specs.Tables.{partials_in}
use Rattle.partials.proofs.Keeps.{meets_refused, meets_again, within, no_piece, to_disagree, to_again, to_long, to_whole, to_kept, kept-fits, there_test}
use Rattle.partials.proofs.table.Table.join_to.Goals as goal

pub offset_bounds-self-i : goal.offset_bounds-self-i
offset_bounds-self-i c =
    let lt = within c.args.self.now c.args.i c.args.piece.head c.args.piece.index c.args.piece.bytes.now c.requires in
    omega arith

pub bounds-self-i : goal.bounds-self-i
bounds-self-i c =
    let lt = within c.args.self.now c.args.i c.args.piece.head c.args.piece.index c.args.piece.bytes.now c.requires in
    omega arith

pub returns-then-not-agrees : goal.returns-then-not-agrees
returns-then-not-agrees c =
    let t = c.args.self.now in
    let p = c.args.piece in
    let o = to_disagree t c.args.i p.head p.index p.bytes.now c.requires (sym c.agrees.ensures ∙ c.if-not-agrees.true) in
    meets_refused (partials_in t) c.args.joining.now _ _ o c.new.ensures

pub returns-then-has_piece : goal.returns-then-has_piece
returns-then-has_piece c =
    let t = c.args.self.now in
    let p = c.args.piece in
    let o = to_again t c.args.i p.head p.index p.bytes.now c.requires
    (sym c.agrees.ensures ∙ c.if-not-agrees.false) (sym c.has_piece.ensures ∙ c.if-has_piece.true) in
    meets_again (partials_in t) c.args.joining.now o

pub returns-then-piece-used : goal.returns-then-piece-used
returns-then-piece-used c =
    let t = c.args.self.now in
    let p = c.args.piece in
    let o = to_long t c.args.i p.head p.index p.bytes.now c.requires
    (sym c.agrees.ensures ∙ c.if-not-agrees.false) (omega arith) (no_piece _ (sym c.has_piece.ensures ∙ c.if-has_piece.false)) (omega arith) in
    meets_refused (partials_in t) c.args.joining.now _ _ o c.new-then-piece-used.ensures

pub returns-then-all_there : goal.returns-then-all_there
returns-then-all_there c =
    let p = c.args.piece in
    let r = get_or c.args.self.now.rows c.args.i no_row in
    let n = c.sum-used.result + length p.bytes.now in
    let all = there_test c.from.result p.head.total c.with_length-lengths.result (set r.lengths p.index (length p.bytes.now)) c.all_there.result true
    c.all_there.ensures c.from.ensures c.with_length-lengths.ensures c.if-all_there.true in
    to_whole c.args.self.now c.args.i p.head p.index p.bytes.now c.requires (sym c.agrees.ensures ∙ c.if-not-agrees.false)
    (omega arith) (no_piece (get_or r.lengths p.index 0) (sym c.has_piece.ensures ∙ c.if-has_piece.false))
    c.args.joining.now c.gather.new.out n c.gather.ensures (omega arith) (omega arith) all

pub store-requires-clause-fits : goal.store-requires-clause-fits
store-requires-clause-fits c =
    let p = c.args.piece in
    let r = get_or c.args.self.now.rows c.args.i no_row in
    kept-fits c.args.self.now c.args.i p.head p.index p.bytes.now c.requires (sym c.agrees.ensures ∙ c.if-not-agrees.false)
    (omega arith) (no_piece (get_or r.lengths p.index 0) (sym c.has_piece.ensures ∙ c.if-has_piece.false))
    c.with_length-lengths.result c.with_length-lengths.ensures (omega arith)

pub returns : goal.returns
returns c =
    let p = c.args.piece in
    let r = get_or c.args.self.now.rows c.args.i no_row in
    let n = c.sum-used.result + length p.bytes.now in
    let missing = there_test c.from.result p.head.total c.with_length-lengths.result (set r.lengths p.index (length p.bytes.now)) c.all_there.result false
    c.all_there.ensures c.from.ensures c.with_length-lengths.ensures c.if-all_there.false in
    to_kept c.args.self.now c.args.i p.head p.index p.bytes.now c.requires (sym c.agrees.ensures ∙ c.if-not-agrees.false)
    (omega arith) (no_piece (get_or r.lengths p.index 0) (sym c.has_piece.ensures ∙ c.if-has_piece.false))
    c.args.joining.now c.gather.new.out n c.gather.ensures (omega arith) (omega arith)
    c.store.new.self c.with_length-lengths.result c.with_length-lengths.ensures missing c.store.ensures.memory c.store.ensures.rows c.store.ensures.len
