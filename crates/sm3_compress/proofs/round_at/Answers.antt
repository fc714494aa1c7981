-- `sm3_compress::round_at` meets its contract: the round of the two words read. Assumes nothing.
use Rattle.sm3_compress.proofs.round_at.Goals as goal

pub returns : goal.returns
returns c = c.one_round.ensures
