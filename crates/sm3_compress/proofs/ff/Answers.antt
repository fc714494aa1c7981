-- `sm3_compress::ff` meets its contract: each arm is the case of its test. Assumes nothing.
use Rattle.words.specs.Word.{◌⊕◌}
use borrow.Author.Tests.{lt-ltb, le-ltb}
use Rattle.sm3_compress.specs.Standard.{FF}
use Rattle.sm3_compress.proofs.ff.Goals as goal

pub returns-then-j-lt16 : goal.returns-then-j-lt16
unfolding FF ◌⊕◌
returns-then-j-lt16 c = simp (lt-ltb _ _ c.if-j-lt16.true)

pub returns-else-j-lt16 : goal.returns-else-j-lt16
unfolding FF ◌⊕◌
returns-else-j-lt16 c = simp (le-ltb _ _ c.if-j-lt16.false)
