-- `HmacSm3::finalize` meets its contract: two refusals, and the inner digest through the outer hash. Assumes nothing.
use Rattle.std.proofs.Common.{rules, arith, ◌≡◌, Err, ap, ◌∙◌}
use Rattle.sm3.specs.State.{taken, finalized as digested}
use Rattle.sm3.proofs.Ending.{digest_done}
use Rattle.sm3.proofs.OneOutcome.{update-fits, update-broken, digest-fits, digest-broken}
use Rattle.sm3.proofs.Taken.{taken-fits}
use Rattle.hmac.specs.State.{tag, finalized}
use Rattle.hmac.proofs.Range.{in_range_lem, inner_out, outer_out}
use Rattle.hmac.proofs.HmacSm3.finalize.Goals as goal

pub returns-then-self-ge-BLOCK_SIZE : goal.returns-then-self-ge-BLOCK_SIZE
unfolding finalized
returns-then-self-ge-BLOCK_SIZE c = rw (outer_out c.args.self c.if-self-ge-BLOCK_SIZE.true)

-- the inner hash refuses
pub returns-in_err-digest : goal.returns-in_err-digest
unfolding finalized
returns-in_err-digest c =
    let m = c.args.self in
    let why = c.in_err-digest.field-0.0 in
    let r : c.from_residual.result ≡ Err why = search rules in
    let broken = digest-broken m.inner why c.in_err-digest.ensures in
    rw (r, inner_out m broken.0, broken.1)

-- the outer hash, which is in range, does not
pub returns-in_err-update : goal.returns-in_err-update
returns-in_err-update c =
    let broken = update-broken c.args.self.outer c.in_ok-digest.digest c.in_err-update.field-0.0 c.in_err-update.ensures in
    absurd (omega (arith, broken.0))

pub returns : goal.returns
unfolding finalized tag
returns c =
    let m = c.args.self in
    let inner = digest-fits m.inner c.in_ok-digest.digest c.in_ok-digest.ensures in
    let outer = update-fits m.outer c.in_ok-update.field-0 c.in_ok-digest.digest c.in_ok-update.ensures in
    let t = outer.1 ∙ ap (taken m.outer) inner.1 in
    rw (in_range_lem m inner.0 (omega arith))
    (c.finalize-2.ensures ∙ ap digested t ∙ digest_done (taken m.outer (digested m.inner).bytes) (taken-fits m.outer (digested m.inner).bytes))
