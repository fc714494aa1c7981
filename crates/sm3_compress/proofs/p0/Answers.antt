-- `sm3_compress::p0` meets its contract: what `rotate_left` ensures of its two calls. Assumes nothing.
use Rattle.words.specs.Word.{◌⊕◌}
use Rattle.sm3_compress.specs.Standard.{P0}
use Rattle.sm3_compress.proofs.p0.Goals as goal

pub returns : goal.returns
unfolding P0 ◌⊕◌
returns c = rw (c.rotate_left-2.ensures, c.rotate_left.ensures)
