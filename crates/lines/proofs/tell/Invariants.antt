-- `lines::tell` meets its contract. The loop's invariant: what is written and what the rest of the chunk has to say are
-- the text of the whole chunk; the measure is what is left of the chunk. Assumes nothing.
use lib.ListN.{length}
use Rattle.lines.proofs.Telling.{Telling}
use Rattle.lines.proofs.tell.Given as goal

abbrev pub invariant-loop-whole : goal.invariant-loop-whole
invariant-loop-whole l = Telling l.initial.current l.chunk l.initial.out l.out l.current l.rest l.length

abbrev pub decreases-loop-whole : goal.decreases-loop-whole
decreases-loop-whole l = length l.rest
