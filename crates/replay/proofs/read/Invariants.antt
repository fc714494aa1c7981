-- `replay::read` is safe and ends: what is read of a block leaves room in it. Assumes nothing.
use Rattle.std.proofs.Common.{◌<◌}
use Rattle.replay.specs.declared.TheConstants.{BLOCK}
use Rattle.replay.proofs.read.Given as goal

abbrev pub invariant-loop : goal.invariant-loop
invariant-loop g l = l.done < BLOCK
