-- `record::record_header` meets its contract: the four parts are laid one behind the other. Assumes nothing.
use borrow.Author.Rules.{rules}
use Rattle.record.proofs.Header.{header-laid}
use Rattle.record.proofs.record_header.Goals as goal

pub returns : goal.returns
returns c =
    let a = c.args in
    rw (
      c.copy_at-3.ensures.output,
      c.copy_at-2.ensures.output,
      c.copy_at.ensures.output,
      c.u16_to_be_bytes-length.ensures,
      c.u64_to_be_bytes-number.ensures,
    )
    (header-laid a.seq a.content_type a.version a.len (search rules))
