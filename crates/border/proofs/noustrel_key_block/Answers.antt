-- `border::noustrel_key_block` meets its contract: it is `derive_key_block`, and the answer is the same number in 32 bits.
-- Assumes nothing.
use Rattle.std.proofs.Common.{◌∙◌}
use Rattle.border.specs.Border.{answer_for}
use Rattle.border.proofs.noustrel_key_block.Goals as goal

pub returns : goal.returns
unfolding answer_for
returns c =
    let p = c.derive_key_block-derived.ensures in
    record { result = c.number_of.ensures ∙ p.result; output = p.output }
