-- `sm4::key_start` meets its contract: the words of the key, each with its FK. Assumes nothing.
use Rattle.words.specs.Word.{◌⊕◌}
use Rattle.sm4.specs.Standard.{words_of, key_start}
use Rattle.sm4.proofs.key_start.Goals as goal

pub returns : goal.returns
unfolding key_start words_of ◌⊕◌
returns c = rw c.load-mk.ensures
