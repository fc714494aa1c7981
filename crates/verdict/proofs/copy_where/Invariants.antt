-- `verdict::copy_where` meets its contract. The loop's invariant: the first j bytes are chosen, the rest are as found. Assumes
-- nothing.
use mathlib.Core.Bool.{cond}
use Prim.Native.Nat.{◌%◌}
use lib.Dec.{eqb}
use Rattle.words.proofs.Over.{Over}
use Rattle.verdict.proofs.copy_where.Given as goal

abbrev pub invariant-loop-j : goal.invariant-loop-j
invariant-loop-j l = Over (cond (eqb (l.hit % 2) 1) l.part l.initial.out) l.initial.out l.out l.j
