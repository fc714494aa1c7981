-- `HmacSm3::update` meets its contract: two refusals, and the inner hash's update. Assumes nothing.
use Rattle.std.proofs.Common.{rules, arith, ◌≡◌, Err, ap}
use Rattle.answers.specs.Answers.{Done}
use Rattle.sm3.specs.declared.Sm3.{Sm3}
use Rattle.sm3.proofs.OneOutcome.{update-fits, update-broken}
use Rattle.hmac.specs.State.{updated}
use Rattle.hmac.proofs.Range.{in_range_lem, inner_out, outer_out}
use Rattle.hmac.proofs.HmacSm3.update.Goals as goal

pub returns-then-self-ge-BLOCK_SIZE : goal.returns-then-self-ge-BLOCK_SIZE
unfolding updated
returns-then-self-ge-BLOCK_SIZE c = rw (outer_out c.args.self c.if-self-ge-BLOCK_SIZE.true)

-- the inner hash refuses
pub returns-in_err-inner : goal.returns-in_err-inner
unfolding updated
returns-in_err-inner c =
    let m = c.args.self in
    let why = c.in_err-inner.field-0.0 in
    let r : c.from_residual.result ≡ Err why = search rules in
    let broken = update-broken m.inner c.args.«data».now why c.in_err-inner.ensures in
    rw (r, inner_out m broken.0, broken.1)

pub returns : goal.returns
unfolding updated
returns c =
    let m = c.args.self in
    let inner = update-fits m.inner c.in_ok-inner.inner c.args.«data».now c.in_ok-inner.ensures in
    rw (in_range_lem m inner.0 (omega arith))
    (ap (λ (s : Sm3). record { answer = Done; mac = record { inner = s; outer = m.outer } }) inner.1)
