-- `lines::put_byte` meets its contract: one element set is a list of one laid over the others. Assumes nothing.
use mathlib.Core.Path.{refl}
use native.Mathlib.Omega.{arith}
use Rattle.words.proofs.Puts.{put_one}
use Rattle.lines.proofs.put_byte.Goals as goal

pub returns : goal.returns
returns c = record { behind = refl; laid = put_one _ _ _ (omega arith) }
