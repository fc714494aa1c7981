-- `sm4::tau` meets its contract: the S-box at each of the four bytes. Assumes nothing.
use Rattle.words.specs.Bytes.{be}
use Rattle.sm4.specs.Standard.{tau}
use Rattle.sm4.proofs.tau.Goals as goal

pub returns : goal.returns
unfolding tau be
returns c = simp (c.u32_from_be_bytes.ensures, c.select4.ensures, c.u32_to_be_bytes.ensures)
