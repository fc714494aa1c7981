-- `hmac::hmac_sm3_parts` meets its contract. The loop's invariant: the MAC is in range, and with the parts that are left it becomes what
-- all parts make of a fresh one. Assumes nothing.
use Rattle.std.proofs.Common.{◌≡◌, true, map, drop}
use Rattle.hmac.specs.Cutting.{fed}
use Rattle.hmac.specs.State.{in_range, started}
use Rattle.hmac.proofs.hmac_sm3_parts.Given as goal

abbrev pub invariant-loop-part : goal.invariant-loop-part
invariant-loop-part l =
    (in_range l.m ≡ true)
    × (fed l.m (map (λ part. part.now) (drop l.part-index l.parts)) ≡ fed (started l.key).mac (map (λ part. part.now) l.parts))
