-- `words::xor_each` meets its contract: element i is made of those of a and b at i. Assumes nothing.
use Rattle.std.proofs.Common.{◌≡◌, ◌<◌, length, get_or, ◌∙◌, sym, ap₂, arith}
use Rattle.std.proofs.lemmas.List.{get_or_default}
use Rattle.words.proofs.Lists.{length-zip_with, get_or-zip_with}
use Rattle.words.proofs.Over.{over_none, over_at, over-set}
use Rattle.words.proofs.xor_each.Goals as goal

pub loop-i-init : goal.loop-i-init
loop-i-init g c = over_none (length-zip_with _ _ _ (omega arith))

pub loop-i-preserved : goal.loop-i-preserved
loop-i-preserved g c =
    let a = c.args in
    let l = c.loop-i in
    let u = c.index-a-i.result in
    let v = c.x-item.result in
    let same : length a.a ≡ length a.b = omega arith in
    let within : l.i < length a.b = omega arith in
    let here : get_or l.x-items l.i v ≡ get_or a.b l.i v = over_at l.invariant v within in
    let there : get_or a.a l.i u ≡ get_or a.a l.i v = get_or_default a.a l.i u v (omega arith) in
    over-set l.invariant v within
    (c.xor.ensures.value ∙ ap₂ g.T.Bits.xored there here ∙ sym (get_or-zip_with _ a.a a.b l.i v same within))
