-- `Sm3::new` meets its contract by its text. Assumes nothing.
use Rattle.std.proofs.Common.{refl}
use Rattle.sm3.specs.State.{fresh}
use Rattle.sm3.proofs.Sm3.new.Goals as goal

pub returns : goal.returns
unfolding fresh
returns c = refl
