-- `border::noustrel_finished` meets its contract: it is `finished_verify_data` of the role that the number names. Assumes
-- nothing.
use Rattle.std.proofs.Common.{◌∙◌}
use Rattle.border.specs.Border.{answer_for}
use Rattle.border.proofs.noustrel_finished.Goals as goal

pub returns : goal.returns
unfolding answer_for
returns c =
    let p = c.finished_verify_data-derived.ensures in
    record { result = c.number_of.ensures ∙ p.result; output = rw (← c.role_of-side.ensures) p.output }
