-- `sm3_compress::p1` meets its contract: what `rotate_left` ensures of its two calls. Assumes nothing.
use Rattle.words.specs.Word.{◌⊕◌}
use Rattle.sm3_compress.specs.Standard.{P1}
use Rattle.sm3_compress.proofs.p1.Goals as goal

pub returns : goal.returns
unfolding P1 ◌⊕◌
returns c = rw (c.rotate_left-2.ensures, c.rotate_left.ensures)
