-- `hmac::hmac_sm3` meets its contract: the message is one part. Assumes nothing.
use Rattle.std.proofs.Common.{List, ℕ, ap, ◌∙◌, append-nil}
use Rattle.sm3.specs.Cutting.{joined}
use Rattle.hmac.specs.State.{mac}
use Rattle.hmac.proofs.hmac_sm3.Goals as goal

pub returns : goal.returns
unfolding joined
returns c =
    c.hmac_sm3_parts.ensures ∙ ap (λ (m : List ℕ). (mac c.args.key.now m).bytes) (append-nil c.args.message.now)
