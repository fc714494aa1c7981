-- `big_endian::u64_to_be_bytes` meets its contract: the library's bytes are those of `be`. Assumes nothing.
use Rattle.std.proofs.Common.{◌∙◌}
use Rattle.words.proofs.Bytes.{high_first-be}
use Rattle.big_endian.proofs.u64_to_be_bytes.Goals as goal

pub returns : goal.returns
returns c = c.to_be_bytes.ensures ∙ high_first-be 8 c.args.x
