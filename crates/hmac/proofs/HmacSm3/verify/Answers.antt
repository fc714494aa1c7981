-- `HmacSm3::verify` meets its contract: the digest's refusal, and the comparison of all bytes. Assumes nothing.
use Rattle.std.proofs.Common.{rules, ◌≡◌, Bool, Err, sym, ap, ◌∙◌}
use Rattle.answers.specs.Answers.{Done}
use Rattle.words.specs.Lists.{agree}
use Rattle.hmac.proofs.Range.{verified_done, verified-broken, yes_is_one}
use Rattle.hmac.proofs.HmacSm3.verify.Goals as goal

pub returns-in_err-computed : goal.returns-in_err-computed
returns-in_err-computed c =
    let why = c.in_err-computed.field-0.0 in
    let r : c.from_residual.result ≡ Err why = search rules in
    rw r (sym (verified-broken c.args.self c.args.expected why c.in_err-computed.ensures))

pub returns : goal.returns
returns c =
    let e = c.args.expected in
    let x = c.in_ok-computed in
    ap (λ (t : Bool). record { answer = Done; matches = t }) (yes_is_one (agree x.computed e) c.ct_eq.ensures)
    ∙ sym (verified_done c.args.self x.computed e x.ensures)
