-- `masks::select` meets its contract: what differs is put on a, or nothing. Assumes nothing.
use Rattle.std.proofs.Common.{◌∙◌, ap}
use Rattle.words.specs.Choice.{chosen}
use Rattle.words.proofs.Choice.{chosen-xored}
use Rattle.masks.proofs.select.Goals as goal

pub returns : goal.returns
returns g c =
    let t = g.T.Bits in
    let a = c.args in
    c.xor-2.ensures.value
    ∙ ap (t.xored a.a) (c.masked.ensures ∙ ap (chosen a.choice t.none) c.xor.ensures.value)
    ∙ chosen-xored t.xored t.none a.a a.b a.choice c.xor.ensures.twice c.xor.ensures.alone
