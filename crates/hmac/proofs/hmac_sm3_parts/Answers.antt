-- `hmac::hmac_sm3_parts` meets its contract: no update is refused, and however a message is cut its MAC is that of the whole (`cut`).
-- Assumes nothing.
use Rattle.std.proofs.Common.{◌≡◌, ◌<◌, ◌+◌, List, ℕ, Bor, length, get_or, map, drop, refl, sym, ap, ◌∙◌, drop_of_length-le, drop-cons, add-one}
use Rattle.sm3.specs.State.{Digest}
use Rattle.hmac.specs.declared.HmacSm3.{HmacSm3}
use Rattle.hmac.specs.Cutting.{fed}
use Rattle.hmac.specs.State.{Keyed, started, updated, finalized}
use Rattle.hmac.proofs.Mac.{cut}
use Rattle.hmac.proofs.OneOutcome.{started-in_range, updated-in_range, update-ok, digest-ok}
use Rattle.hmac.proofs.hmac_sm3_parts.Goals as goal

pub loop-part-init : goal.loop-part-init
loop-part-init c = rw c.new-m.ensures (started-in_range c.args.key.now, refl)

pub unwrap-m-requires : goal.unwrap-m-requires
unwrap-m-requires c = rw (update-ok c.loop-part.m _ c.update.result c.loop-part.invariant.0 c.update.ensures) refl

-- a part more
one_more : (m : HmacSm3) (parts : List (Bor (List ℕ))) (i : ℕ) (d : Bor (List ℕ)) → i < length parts
    → fed (updated m (get_or parts i d).now).mac (map (λ part. part.now) (drop (i + 1) parts)) ≡ fed m (map (λ part. part.now) (drop i parts))
unfolding fed
one_more m parts i d h = rw (drop-cons parts i d h, add-one i) refl

pub loop-part-preserved : goal.loop-part-preserved
loop-part-preserved c =
    let l = c.loop-part in
    let parts = c.args.parts.now in
    let next : c.unwrap-m.result ≡ (updated l.m _).mac = ap (λ (k : Keyed). k.mac) (rw c.unwrap-m.ensures at c.update.ensures) in
    rw next
    (updated-in_range l.m _ l.invariant.0, one_more l.m parts l.part-index _ c.loop-part-test.true ∙ l.invariant.1)

pub unwrap-requires : goal.unwrap-requires
unwrap-requires c = rw (digest-ok c.loop-part.m c.finalize.result c.loop-part.invariant.0 c.finalize.ensures) refl

pub returns : goal.returns
unfolding fed
returns c =
    let l = c.loop-part in
    let none = drop_of_length-le c.args.parts.now c.loop-part-test.false in
    let all : l.m ≡ fed (started c.args.key.now).mac (map (λ part. part.now) c.args.parts.now) =
    ap (λ rest. fed l.m (map (λ part. part.now) rest)) (sym none) ∙ l.invariant.1 in
    ap (λ (x : Digest). x.bytes)
    (rw c.unwrap.ensures at c.finalize.ensures ∙ ap finalized all ∙ cut c.args.key.now (map (λ part. part.now) c.args.parts.now))
