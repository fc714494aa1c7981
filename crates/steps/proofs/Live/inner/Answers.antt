-- `steps::Live::inner` meets its contract: the text cut to the length held lies in the part that is lent. Assumes nothing.
use Rattle.std.proofs.Common.{◌-◌}
use native.Mathlib.Omega.{arith}
use lib.Seq.{take-take}
use Rattle.steps.specs.Step.{message, hashed, opening_by, report_by, changed}
use Rattle.steps.proofs.Live.inner.Goals as goal

pub returns : goal.returns
unfolding report_by opening_by hashed message changed
returns c =
    let a = c.args in
    let s = a.self.opening in
    rw (c.moved.ensures, c.inner_block.ensures, c.record_header-header.ensures, take-take s.held (s.n - 33) a.out.now (omega arith))
