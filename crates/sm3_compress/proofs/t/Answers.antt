-- `sm3_compress::t` meets its contract: each arm is the case of its test. Assumes nothing.
use borrow.Author.Tests.{lt-ltb, le-ltb}
use Rattle.sm3_compress.specs.Standard.{T}
use Rattle.sm3_compress.proofs.t.Goals as goal

pub returns-then-j-lt16 : goal.returns-then-j-lt16
unfolding T
returns-then-j-lt16 c = rw (lt-ltb _ 16 c.if-j-lt16.true)

pub returns-else-j-lt16 : goal.returns-else-j-lt16
unfolding T
returns-else-j-lt16 c = rw (le-ltb _ 16 c.if-j-lt16.false)
