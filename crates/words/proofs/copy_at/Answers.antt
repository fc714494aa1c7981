-- `words::copy_at` meets its contract. The loop's invariant: the first j elements of src are laid over out; the measure is
-- what is left of n. Assumes nothing.
use Rattle.std.proofs.Common.{◌≡◌, ◌-◌, length, refl, arith, rules}
use Rattle.words.proofs.Copy.{Laid, laid_none, laid_more, laid-length, laid_all, no_room}
use Rattle.words.proofs.copy_at.Goals as goal

pub loop-j-preserved : goal.loop-j-preserved
loop-j-preserved c = laid_more c.loop-j.invariant (omega arith) refl

pub returns-after-loop-j : goal.returns-after-loop-j
returns-after-loop-j c = record { output = laid_all c.loop-j.invariant (omega arith) }

pub returns-else-at-out : goal.returns-else-at-out
returns-else-at-out c =
    let a = c.args in
    record { output = no_room a.out.now a.at a.src.now (omega arith) }
