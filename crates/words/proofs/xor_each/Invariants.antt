-- `words::xor_each` meets its contract. The loop's invariant: the first i elements are made, the rest as found.
-- Assumes nothing.
use Rattle.words.specs.Lists.{zip_with}
use Rattle.words.proofs.Over.{Over}
use Rattle.words.proofs.xor_each.Given as goal

abbrev pub invariant-loop-i : goal.invariant-loop-i
invariant-loop-i g l = Over (zip_with g.T.Bits.xored l.a l.initial.x-items) l.initial.x-items l.x-items l.i
