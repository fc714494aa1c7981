-- `Expansion::next_a` meets its contract: 32 bytes are few. Assumes nothing.
use Rattle.std.proofs.Common.{rules, ◌∙◌}
use Rattle.key_schedule.proofs.Parts.{few}
use Rattle.key_schedule.proofs.Expansion.next_a.Goals as goal

pub returns : goal.returns
returns c =
    let e = c.args.self.now in
    c.hmac_sm3.ensures ∙ few e.secret.now c.args.a e.small.secret-small (search rules)
