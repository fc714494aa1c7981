-- `words::copy_at` meets its contract. The loop's invariant: the first j elements of src are laid over out; the measure is
-- what is left of n. Assumes nothing.
use Rattle.std.proofs.Common.{◌≡◌, ◌-◌, length, refl, arith, rules}
use Rattle.words.proofs.Copy.{Laid, laid_none, laid_more, laid-length, laid_all, no_room}
use Rattle.words.proofs.copy_at.Given as goal

abbrev pub invariant-loop-j : goal.invariant-loop-j
invariant-loop-j l = Laid l.initial.out l.at l.src l.n l.out l.j

abbrev pub decreases-loop-j : goal.decreases-loop-j
decreases-loop-j l = l.n - l.j
