-- `sm4::store` meets its contract: the four bytes of each word. Assumes nothing.
use Rattle.words.specs.Bytes.{be}
use Rattle.sm4.specs.Standard.{bytes_of}
use Rattle.sm4.proofs.store.Goals as goal

pub returns : goal.returns
unfolding bytes_of be
returns c =
    simp (
      c.u32_to_be_bytes-d.ensures,
      c.u32_to_be_bytes-c.ensures,
      c.u32_to_be_bytes-b.ensures,
      c.u32_to_be_bytes-a.ensures,
    )
