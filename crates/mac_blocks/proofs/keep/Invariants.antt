-- `mac_blocks::keep` meets its contract. The loop's invariant: the first i words are the chosen ones, the rest as found. Assumes
-- nothing.
use mathlib.Core.Bool.{cond}
use Prim.Native.Nat.{◌%◌}
use lib.Dec.{eqb}
use Rattle.words.proofs.Over.{Over}
use Rattle.mac_blocks.proofs.keep.Given as goal

abbrev pub invariant-loop-i : goal.invariant-loop-i
invariant-loop-i l = Over (cond (eqb (l.choice % 2) 1) l.words l.initial.kept) l.initial.kept l.kept l.i
