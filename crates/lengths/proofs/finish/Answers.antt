-- `lengths::finish` meets its contract: the output has room for a text, so nothing stays begun.
-- Assumes nothing.
use Rattle.std.proofs.Common.{sym, arith, length-take-le}
use Rattle.lines.proofs.Run.{last-wrote, last-room}
use Rattle.lengths.proofs.finish.Goals as goal

pub unreachable-requires : goal.unreachable-requires
unreachable-requires g c = last-room (omega arith) c.in_default.ensures

pub slice_bounds-out-end : goal.slice_bounds-out-end
slice_bounds-out-end g c =
    let w = last-wrote (omega arith) c.in-Ok.ensures in
    w.1

pub slice_bounds-write_all-end : goal.slice_bounds-write_all-end
slice_bounds-write_all-end g c =
    let w = last-wrote (omega arith) c.in-Ok.ensures in
    sym (length-take-le _ _ w.1)

pub returns : goal.returns
returns g c =
    let w = last-wrote (omega arith) c.in-Ok.ensures in
    w.0
