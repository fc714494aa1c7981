-- The cycle of calls {p_sm3}: the measure is how many blocks the output takes, a call for each. Assumes nothing.
use Rattle.std.proofs.Common.{length}
use Rattle.key_schedule.specs.Standard.{blocks}
use Rattle.key_schedule.proofs.Expansion.+p_sm3.Given as goal

abbrev pub decreases-p_sm3 : goal.decreases-p_sm3
decreases-p_sm3 l = blocks (length l.out.now)
