-- `lines::tell` meets its contract. The loop's invariant: what is written and what the rest of the chunk has to say are
-- the text of the whole chunk; the measure is what is left of the chunk. Assumes nothing.
use Rattle.std.proofs.Common.{ap, arith, length, length-drop}
use Rattle.words.proofs.Lists.{part_to_end}
use Rattle.lines.proofs.Telling.{telling-more, turn-bounds, chunk_refused, chunk_told}
use Rattle.lines.proofs.tell.Goals as goal

pub returns-then-out-chunk : goal.returns-then-out-chunk
returns-then-out-chunk c = chunk_refused _ _ _ (omega arith)

pub overflow_add-length : goal.overflow_add-length
overflow_add-length c =
    let turn = turn-bounds c.loop-whole.invariant c.in-Ended.ensures c.judge_line.ensures c.put_judged-length.ensures in
    omega (arith, turn.0)

pub slice_bounds-rest-count : goal.slice_bounds-rest-count
slice_bounds-rest-count c =
    let turn = turn-bounds c.loop-whole.invariant c.in-Ended.ensures c.judge_line.ensures c.put_judged-length.ensures in
    turn.2

pub slice_bounds-rest-start : goal.slice_bounds-rest-start
slice_bounds-rest-start c =
    let turn = turn-bounds c.loop-whole.invariant c.in-Ended.ensures c.judge_line.ensures c.put_judged-length.ensures in
    omega (arith, turn.2)

pub loop-whole-smaller : goal.loop-whole-smaller
loop-whole-smaller c =
    let turn = turn-bounds c.loop-whole.invariant c.in-Ended.ensures c.judge_line.ensures c.put_judged-length.ensures in
    let rest = c.loop-whole.rest.now in
    let used = c.in-Ended.used in
    omega (arith, ap length (part_to_end used rest), length-drop used rest, turn.1, turn.2)

pub loop-whole-preserved : goal.loop-whole-preserved
loop-whole-preserved c =
    telling-more c.loop-whole.invariant c.in-Ended.ensures c.judge_line.ensures c.put_judged-length.ensures c.start_line-current.ensures
    (part_to_end c.in-Ended.used c.loop-whole.rest.now)

pub returns-in-Begun : goal.returns-in-Begun
returns-in-Begun c = chunk_told c.loop-whole.invariant c.in-Begun.ensures
