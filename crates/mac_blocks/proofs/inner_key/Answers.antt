-- `mac_blocks::inner_key` meets its contract: one compression of the key's block. Assumes nothing.
use Rattle.mac_blocks.specs.Schedule.{inner_key}
use Rattle.mac_blocks.proofs.inner_key.Goals as goal

pub returns : goal.returns
unfolding inner_key
returns c = c.key_words.ensures
