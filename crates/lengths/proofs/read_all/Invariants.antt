-- `lengths::read_all` meets its contract: the loop is left where the input has ended, or with as many reads as a u64 counts. The
-- loop's invariant: each turn is a read. Assumes nothing.
use Rattle.std.proofs.Common.{◌≡◌}
use Rattle.lengths.proofs.read_all.Given as goal

abbrev pub invariant-loop-i : goal.invariant-loop-i
invariant-loop-i g l = l.reads ≡ l.i
