-- `verdict::clear_from_ct` meets its contract. The loop's invariant: the first i bytes are those of the cleared body, the rest
-- are as found. Assumes nothing.
use native.Mathlib.Omega.{arith}
use Rattle.words.proofs.Over.{over_none, over-length, over_here, over-more}
use Rattle.verdict.proofs.Cleared.{length-cleared, get_or-cleared}
use Rattle.verdict.proofs.clear_from_ct.Goals as goal

pub loop-i-init : goal.loop-i-init
loop-i-init c = over_none (length-cleared _ _)

pub loop-i-preserved : goal.loop-i-preserved
loop-i-preserved c =
    let l = c.loop-i in
    let a = c.args in
    let within = over-length l.invariant in
    over-more l.invariant (omega (arith, within))
    (rw (c.select.ensures, c.ct_lt_usize.ensures, over_here l.invariant (omega (arith, within)))
    (get_or-cleared a.keep a.body.now l.i (omega (arith, within))))
