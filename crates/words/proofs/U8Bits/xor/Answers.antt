-- `xor` of `Bits` for u8 keeps its law. Assumes nothing.
use Rattle.words.specs.Word.{◌⊕◌}
use Rattle.words.proofs.Xor.{xor_twice}
use Rattle.words.proofs.U8Bits.xor.Goals as goal

pub returns-clause-twice : goal.returns-clause-twice
unfolding ◌⊕◌
returns-clause-twice c = xor_twice c.args.self c.args.other
