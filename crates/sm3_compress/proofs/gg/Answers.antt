-- `sm3_compress::gg` meets its contract: each arm is the case of its test, and `!` is not32. Assumes nothing.
use Rattle.words.specs.Word.{◌⊕◌, not32}
use borrow.Author.Tests.{lt-ltb, le-ltb}
use Rattle.sm3_compress.specs.Standard.{GG}
use Rattle.sm3_compress.proofs.gg.Goals as goal

pub returns-then-j-lt16 : goal.returns-then-j-lt16
unfolding GG not32 ◌⊕◌
returns-then-j-lt16 c = simp (lt-ltb _ _ c.if-j-lt16.true)

pub returns-else-j-lt16 : goal.returns-else-j-lt16
unfolding GG not32 ◌⊕◌
returns-else-j-lt16 c = simp (le-ltb _ _ c.if-j-lt16.false)
