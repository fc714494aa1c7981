-- `sm3::mark` meets its contract: 0x80 at the fill, and zeros over all that stands behind. Assumes nothing.
use Rattle.std.proofs.Common.{◌∙◌, arith, rules}
use Rattle.sm3.proofs.Ending.{put-marked}
use Rattle.sm3.proofs.mark.Goals as goal

pub returns : goal.returns
returns c =
    c.fill_at.ensures.output ∙ put-marked c.args.buffer c.args.fill (search rules) c.requires 64 (omega arith)
