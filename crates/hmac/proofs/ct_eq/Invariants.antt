-- `hmac::ct_eq` meets its contract. The loop's invariant: no difference is gathered exactly if the bytes so far agree. Assumes
-- nothing.
use mathlib.Core.Path.{◌≡◌}
use lib.Dec.{eqb}
use lib.ListN.{take}
use Rattle.words.specs.Lists.{agree}
use Rattle.hmac.proofs.ct_eq.Given as goal

abbrev pub invariant-loop-bits : goal.invariant-loop-bits
invariant-loop-bits l = eqb l.differ 0 ≡ agree (take l.bits-index l.fn.a) (take l.bits-index l.fn.b)
