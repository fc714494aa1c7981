-- `hmac::xor_pad` meets its contract: a block of the pad's byte is the definition's. Assumes nothing.
use Rattle.std.proofs.Common.{◌∙◌}
use Rattle.words.proofs.Lists.{zip_with-xor}
use Rattle.hmac.proofs.xor_pad.Goals as goal

pub returns : goal.returns
returns c = c.xor_each.ensures ∙ zip_with-xor _ _
