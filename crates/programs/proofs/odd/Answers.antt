-- `programs::odd` meets its contract: the buffer is the rule's 64 bytes. Assumes nothing.
use Rattle.std.proofs.Common.{◌≡◌, refl}
use Rattle.words.specs.Lists.{table}
use Rattle.programs.specs.Odd.{odd}
use Rattle.programs.specs.Rule.{byte}
use Rattle.programs.proofs.odd.Goals as goal

-- field by field
pub returns : goal.returns
unfolding odd
returns c = let e : c.spread.new.out ≡ table (byte 7 3) 64 = c.spread.ensures.output in rw e refl
