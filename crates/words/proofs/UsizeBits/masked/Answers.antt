-- `masked` of `Bits` for usize meets its contract: the mask keeps all bits, or none. Assumes nothing.
use Rattle.words.proofs.Choice.{masked}
use Rattle.words.proofs.UsizeBits.masked.Goals as goal

pub returns : goal.returns
returns c = masked 64 c.ranges.self.fits c.args.choice
