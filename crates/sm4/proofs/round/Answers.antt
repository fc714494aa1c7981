-- `sm4::round` meets its contract: three words move down, and the new one comes behind them. Assumes nothing.
use mathlib.Core.Path.{refl}
use Rattle.words.specs.Word.{◌⊕◌}
use Rattle.sm4.proofs.round.Goals as goal

pub returns : goal.returns
unfolding ◌⊕◌
returns g c = (c.linear.result, rw c.tau.ensures at c.linear.ensures, refl)
