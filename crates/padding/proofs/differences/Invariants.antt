-- `padding::differences` meets its contract. The loop's invariant: bad is 0 exactly if none of the bytes so far differs. Assumes
-- nothing.
use lib.ListN.{length}
use Rattle.padding.proofs.Gather.{Gathers}
use Rattle.padding.proofs.Reach.{pad_diff}
use Rattle.padding.proofs.differences.Given as goal

abbrev pub invariant-loop-i : goal.invariant-loop-i
invariant-loop-i l = Gathers (pad_diff l.body l.padlen) (length l.yielded) l.bad
