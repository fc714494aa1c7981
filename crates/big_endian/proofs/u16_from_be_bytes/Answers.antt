-- `big_endian::u16_from_be_bytes` meets its contract: the library's sum is that of `number`. Assumes nothing.
use Rattle.std.proofs.Common.{◌≡◌, ◌∙◌, length, rules}
use Rattle.words.proofs.Bytes.{sum-number}
use Rattle.big_endian.proofs.u16_from_be_bytes.Goals as goal

pub returns : goal.returns
returns c =
    let b = c.args.b in
    let len : length b ≡ 2 = search rules in
    c.from_be_bytes.ensures ∙ sum-number 1 b len
