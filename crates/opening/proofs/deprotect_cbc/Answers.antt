-- `opening::deprotect_cbc` meets its contract: the loop is the run of the closed form. Assumes nothing.
use Rattle.std.proofs.Common.{rules}
use Rattle.opening.proofs.Run.{run_none, run_more, run_all}
use Rattle.opening.proofs.deprotect_cbc.Goals as goal

-- a version is two bytes, by its type
pub loop-init : goal.loop-init
loop-init c = run_none _ _ _ (search rules) c.start_cbc-s.ensures

pub loop-preserved : goal.loop-preserved
loop-preserved c = run_more c.loop.invariant _ _ c.loop-test.true c.step_cbc-s.ensures.result c.step_cbc-s.ensures.output

pub returns : goal.returns
returns c =
    let all = run_all c.loop.invariant c.loop.auto.counter-end c.loop-test.false in
    record { result = all.0; output = all.1 }
