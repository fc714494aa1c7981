-- `mac_blocks::count_of` meets its contract: a shift makes bits of bytes. Assumes nothing.
use mathlib.Core.Path.{◌∙◌}
use Rattle.sm3.proofs.Ending.{shifted_count}
use Rattle.mac_blocks.proofs.count_of.Goals as goal

pub returns : goal.returns
returns c = c.u64_to_be_bytes.ensures ∙ shifted_count c.args.total
