-- `sm3_compress::expand` meets its contract. The loop's invariant: the first j words are the block's, grown by the
-- recurrence, which looks only at those before j; the measure is what is left of 68. Assumes nothing.
use mathlib.Core.Path.{◌≡◌}
use Prim.Native.Nat.{◌-◌, ◌≤◌}
use lib.ListN.{length, take}
use Rattle.words.specs.Lists.{grow}
use Rattle.sm3_compress.specs.Standard.{words, next_w}
use Rattle.sm3_compress.proofs.expand.Given as goal

abbrev pub invariant-loop-j : goal.invariant-loop-j
invariant-loop-j l = (length l.w ≡ 68) × (16 ≤ l.j) × (l.j ≤ 68) × (take l.j l.w ≡ grow next_w (l.j - 16) (words l.block))

abbrev pub decreases-loop-j : goal.decreases-loop-j
decreases-loop-j l = 68 - l.j
