-- `mac_blocks::outer_digest` meets its contract: the digest, 0x80 and the count laid over zeros. Assumes nothing.
use mathlib.Core.Path.{ap, ◌∙◌}
use Rattle.sm3_compress.specs.Standard.{CF}
use Rattle.sm3.specs.Standard.{bytes_of}
use Rattle.sm3.proofs.Ending.{length-bytes_of}
use Rattle.mac_blocks.specs.Schedule.{outer_digest}
use Rattle.mac_blocks.proofs.Outer.{digest_ended}
use Rattle.mac_blocks.proofs.outer_digest.Goals as goal

pub returns : goal.returns
unfolding outer_digest
returns c =
    let a = c.args in
    let digest = c.copy_from_slice.ensures.after ∙ c.digest_of.ensures in
    let count = c.copy_from_slice-2.ensures.after ∙ c.count_of.ensures in
    c.compress.ensures
    ∙ ap (CF a.words) (rw (digest, count) (digest_ended (bytes_of a.kept) (length-bytes_of a.kept)))
