-- `cbc::xor_blocks` meets its contract. Assumes nothing.
use Rattle.std.proofs.Common.{◌∙◌}
use Rattle.words.proofs.Lists.{zip_with-xor}
use Rattle.cbc.proofs.xor_blocks.Goals as goal

pub returns : goal.returns
returns c = c.xor_each.ensures ∙ zip_with-xor _ _
