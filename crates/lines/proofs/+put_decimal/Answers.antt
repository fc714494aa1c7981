-- `lines::put_decimal` meets its contract: what is written are the digits of the tenth, and behind them the last one.
-- Assumes nothing.
use Rattle.std.proofs.Common.{◌≤◌, arith}
use Rattle.lines.proofs.Decimal.{decimal-one, decimal-more, length_more}
use Rattle.lines.proofs.Writing.{put-long, put-after}
use Rattle.lines.proofs.+put_decimal.Goals as goal

pub put_byte-requires : goal.put_byte-requires
put_byte-requires t c =
    let room = rw (decimal-one c.args.n c.if-n-lt10.true) at c.requires in
    omega (arith, room)

pub returns-then-n-lt10 : goal.returns-then-n-lt10
returns-then-n-lt10 t c = rw (decimal-one c.args.n c.if-n-lt10.true) c.put_byte.ensures

pub put_decimal-end-requires : goal.put_decimal-end-requires
put_decimal-end-requires t c =
    let more : 10 ≤ c.args.n = c.if-n-lt10.false in
    (omega (arith, c.decreases), omega (arith, length_more c.args.n more))

pub put_byte-requires-2 : goal.put_byte-requires-2
put_byte-requires-2 t c =
    let tenth = c.put_decimal-end.ensures in
    omega (arith, length_more c.args.n c.if-n-lt10.false, tenth.behind, put-long tenth)

pub returns : goal.returns
returns t c =
    let more : 10 ≤ c.args.n = c.if-n-lt10.false in
    let tenth = c.put_decimal-end.ensures in
    let last = c.put_byte-2.ensures in
    rw (decimal-more c.args.n more)
    (put-after tenth last (omega (arith, length_more c.args.n more, tenth.behind, last.behind)))
