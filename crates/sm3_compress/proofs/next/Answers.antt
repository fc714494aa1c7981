-- `sm3_compress::next` meets its contract: the five words read, with what the calls ensure. Assumes nothing.
use Rattle.words.specs.Word.{◌⊕◌}
use Rattle.sm3_compress.specs.Standard.{recurrence}
use Rattle.sm3_compress.proofs.next.Goals as goal

pub returns : goal.returns
unfolding recurrence ◌⊕◌
returns c = rw (c.rotate_left-2.ensures, c.p1.ensures, c.rotate_left.ensures)
