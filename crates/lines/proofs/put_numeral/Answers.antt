-- `lines::put_numeral` meets its contract: the byte stands behind the digits. Assumes nothing.
use native.Mathlib.Omega.{arith}
use Rattle.lines.specs.Text.{numeral}
use Rattle.lines.proofs.Writing.{put-long, put-after}
use Rattle.lines.proofs.put_numeral.Goals as goal

pub put_byte-requires : goal.put_byte-requires
put_byte-requires c =
    let digits = c.put_decimal-end.ensures in
    omega (arith, c.requires, digits.behind, put-long digits)

pub returns : goal.returns
unfolding numeral
returns c =
    let digits = c.put_decimal-end.ensures in
    let mark = c.put_byte.ensures in
    put-after digits mark (omega (arith, c.requires, digits.behind, mark.behind))
