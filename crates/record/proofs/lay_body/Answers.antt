-- `record::lay_body` meets its contract: three writes, each right behind the one before. Assumes nothing.
use native.Mathlib.Omega.{arith}
use borrow.Author.Rules.{rules}
use lib.ListN.{length}
use Rattle.record.specs.Standard.{pad_of}
use Rattle.record.proofs.Laid.{body-laid}
use Rattle.record.proofs.lay_body.Goals as goal

pub returns : goal.returns
unfolding pad_of
returns c =
    rw (c.fill_at.ensures.output, c.copy_at-2.ensures.output, c.copy_at.ensures.output)
    (body-laid c.args.text.now c.args.mac c.args.body.now (pad_of (length c.args.text.now)) (search rules) (omega (arith, c.requires)))
