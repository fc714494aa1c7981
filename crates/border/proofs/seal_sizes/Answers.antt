-- `border::seal_sizes` meets its contract: the keys' sizes and then the IV's. Assumes nothing.
use Rattle.border.specs.Border.{has}
use Rattle.border.proofs.seal_sizes.Goals as goal

pub returns-then-key_sizes : goal.returns-then-key_sizes
unfolding has
returns-then-key_sizes c = rw (← c.key_sizes.ensures, c.if-key_sizes.true)

pub returns-else-key_sizes : goal.returns-else-key_sizes
unfolding has
returns-else-key_sizes c = rw (← c.key_sizes.ensures, c.if-key_sizes.false)
