-- `sm3::blocks` meets its contract. The loop's invariant: v has taken in the blocks so far. Assumes nothing.
use Rattle.std.proofs.Common.{◌≡◌}
use Rattle.sm3.specs.Standard.{iterated}
use Rattle.sm3.proofs.blocks.Given as goal

abbrev pub invariant-loop-block : goal.invariant-loop-block
invariant-loop-block l = l.v ≡ iterated l.initial.v l.data l.block-index
