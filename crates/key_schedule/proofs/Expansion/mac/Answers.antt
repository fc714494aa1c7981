-- `Expansion::mac` meets its contract: a message in four parts. Assumes nothing.
use Rattle.std.proofs.Common.{◌∙◌}
use Rattle.key_schedule.proofs.Parts.{parts}
use Rattle.key_schedule.proofs.Expansion.mac.Goals as goal

pub returns : goal.returns
returns c =
    let e = c.args.self.now in
    c.hmac_sm3_parts.ensures ∙ parts e.secret.now c.args.a.now e.label.now e.first.now e.second.now e.small c.requires
