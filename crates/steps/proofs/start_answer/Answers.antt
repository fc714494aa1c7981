-- `steps::start_answer` meets its contract: the size answer, and where that is 0 the IV fits, so the body's length is a
-- difference. Assumes nothing.
use Rattle.std.proofs.Common.{rules, ◌≡◌, Err, sym, arith}
use borrow.Author.Tests.{lt-ltb, le-ltb, ne_eqb}
use Rattle.sizes.proofs.Passed.{passed, number_refuses}
use Rattle.steps.specs.State.{start_answer}
use Rattle.steps.proofs.start_answer.Goals as goal

pub returns-in_err-size_answer : goal.returns-in_err-size_answer
unfolding start_answer
returns-in_err-size_answer c =
    let why = c.in_err-size_answer.field-0.0 in
    let r : c.from_residual.result ≡ Err why = search rules in
    rw (r, ← c.in_err-size_answer.ensures, ne_eqb _ _ (number_refuses why))

pub overflow_sub-record_len : goal.overflow_sub-record_len
overflow_sub-record_len c = omega (arith, (passed _ (sym c.in_ok-size_answer.ensures)).0)

pub returns-then-room-record_len : goal.returns-then-room-record_len
unfolding start_answer
returns-then-room-record_len c = rw (← c.in_ok-size_answer.ensures, lt-ltb _ _ c.if-room-record_len.true)

pub returns : goal.returns
unfolding start_answer
returns c = rw (← c.in_ok-size_answer.ensures, le-ltb _ _ c.if-room-record_len.false)
