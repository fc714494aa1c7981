-- `record::record_mac` meets its contract: a message in two parts. Assumes nothing.
use Rattle.std.proofs.Common.{rules, ◌≡◌, length, ◌∙◌}
use Rattle.record.proofs.Mac.{mac_of_two}
use Rattle.record.proofs.record_mac.Goals as goal

pub returns : goal.returns
returns c =
    let a = c.args in
    let k : length a.mac_key ≡ 32 = search rules in
    let h : length a.covered ≡ 13 = search rules in
    c.hmac_sm3_parts.ensures ∙ mac_of_two a.mac_key a.covered a.text.now k h c.requires
