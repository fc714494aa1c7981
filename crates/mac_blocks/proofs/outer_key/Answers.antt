-- `mac_blocks::outer_key` meets its contract: one compression of the key's block. Assumes nothing.
use Rattle.mac_blocks.specs.Schedule.{outer_key}
use Rattle.mac_blocks.proofs.outer_key.Goals as goal

pub returns : goal.returns
unfolding outer_key
returns c = c.key_words.ensures
