-- `masked` of `Bits` for u8 meets its contract: the mask keeps all bits, or none. Assumes nothing.
use Rattle.words.proofs.Choice.{masked}
use Rattle.words.proofs.U8Bits.masked.Goals as goal

pub returns : goal.returns
returns c = masked 8 c.ranges.self.fits c.args.choice
