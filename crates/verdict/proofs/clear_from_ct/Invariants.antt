-- `verdict::clear_from_ct` meets its contract. The loop's invariant: the first i bytes are those of the cleared body, the rest
-- are as found. Assumes nothing.
use Rattle.words.proofs.Over.{Over}
use Rattle.verdict.specs.Verdict.{cleared_from}
use Rattle.verdict.proofs.clear_from_ct.Given as goal

abbrev pub invariant-loop-i : goal.invariant-loop-i
invariant-loop-i l = Over (cleared_from l.keep l.initial.body) l.initial.body l.body l.i
