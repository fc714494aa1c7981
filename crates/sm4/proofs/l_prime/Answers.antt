-- `sm4::l_prime` meets its contract: what `rotate_left` ensures of its two calls. Assumes nothing.
use Rattle.words.specs.Word.{◌⊕◌}
use Rattle.sm4.specs.Standard.{L'}
use Rattle.sm4.proofs.l_prime.Goals as goal

pub returns : goal.returns
unfolding L' ◌⊕◌
returns c = rw (c.rotate_left-2.ensures, c.rotate_left.ensures)
