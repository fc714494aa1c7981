-- `masked` of `Bits` for u32 meets its contract: the mask keeps all bits, or none. Assumes nothing.
use Rattle.words.proofs.Choice.{masked}
use Rattle.words.proofs.U32Bits.masked.Goals as goal

pub returns : goal.returns
returns c = masked 32 c.ranges.self.fits c.args.choice
