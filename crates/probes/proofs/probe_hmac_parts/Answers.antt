-- `probes::probe_hmac_parts` meets its contract: a message in three parts. Assumes nothing.
use Rattle.std.proofs.Common.{◌++◌, List, ℕ, ap, ◌∙◌, append-nil}
use Rattle.sm3.specs.Cutting.{joined}
use Rattle.hmac.specs.State.{mac}
use Rattle.probes.specs.Probes.{filled}
use Rattle.probes.proofs.probe_hmac_parts.Goals as goal

pub returns : goal.returns
unfolding joined
returns c =
    let p = c.put_tag.ensures in
    let a = c.args in
    let tag = c.hmac_sm3_parts-tag.ensures
    ∙ ap (λ (x : List ℕ). (mac a.key.now (a.first.now ++ (a.second.now ++ x))).bytes) (append-nil a.third.now) in
    record { result = c.number_of.ensures ∙ p.answers; output = p.leaves ∙ ap (λ (x : List ℕ). filled x a.out.now) tag }
