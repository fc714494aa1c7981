-- `record::sealed_length` meets its contract: it is the definition, and no product wraps below the limit. Assumes nothing.
use mathlib.Core.Path.{refl}
use Rattle.record.specs.Standard.{sealed_length}
use Rattle.record.proofs.sealed_length.Goals as goal

pub returns : goal.returns
unfolding sealed_length
returns c = refl
