-- `padding::differs` meets its contract: a select by a test. Assumes nothing.
use Rattle.words.specs.Word.{◌⊕◌}
use Rattle.words.proofs.Choice.{chosen-bit}
use Rattle.padding.proofs.differs.Goals as goal

pub returns : goal.returns
unfolding ◌⊕◌
returns c = rw (c.select.ensures, c.ct_lt_usize-in_pad.ensures, chosen-bit)
