-- `cbc::encipher_cbc` meets its contract. The loop's invariant: the first k blocks are enciphered, the rest is as
-- found, and prev is what the next block is put on; the measure is how many blocks are left. Assumes nothing.
use Prim.Native.Nat.{◌-◌}
use Rattle.sm4.specs.Standard.{encrypt}
use Rattle.cbc.proofs.Turn.{Done}
use Rattle.cbc.proofs.encipher_cbc.Given as goal

abbrev pub invariant-loop-k : goal.invariant-loop-k
invariant-loop-k l = Done (encrypt l.cipher.round_keys) l.initial.prev l.initial.body l.body l.prev l.k

abbrev pub decreases-loop-k : goal.decreases-loop-k
decreases-loop-k l = l.m - l.k
