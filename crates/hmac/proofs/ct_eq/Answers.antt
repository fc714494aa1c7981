-- `hmac::ct_eq` meets its contract. The loop's invariant: no difference is gathered exactly if the bytes so far agree. Assumes
-- nothing.
use Rattle.std.proofs.Common.{rules, ◌≡◌, ◌<◌, length, get_or, refl, ap, ap₂, ◌∙◌, arith, bit_xor}
use Rattle.words.proofs.Agree.{agree-turn}
use Rattle.words.proofs.Lists.{take_whole, get_or-zip_with}
use Rattle.words.specs.Choice.{bit}
use Rattle.words.specs.Lists.{agree}
use Rattle.words.specs.Word.{◌⊕◌}
use Rattle.hmac.proofs.ct_eq.Goals as goal

pub loop-bits-init : goal.loop-bits-init
unfolding agree
loop-bits-init c = refl

pub loop-bits-preserved : goal.loop-bits-preserved
unfolding ◌⊕◌
loop-bits-preserved c =
    let l = c.loop-bits in
    let a = c.args.a in
    let b = c.args.b in
    let i = l.bits-index in
    let same : length a ≡ length b = search rules in
    let within : i < length b = search rules in
    let here : get_or c.xor_each.result i 0 ≡ bit_xor (get_or a i 0) (get_or b i 0) =
    ap (λ bits. get_or bits i 0) c.xor_each.ensures ∙ get_or-zip_with bit_xor a b i 0 same within in
    rw here (agree-turn a b i l.differ (omega arith) (omega arith) l.invariant)

pub returns : goal.returns
returns c =
    let l = c.loop-bits in
    let a = c.args in
    let e : l.bits-index ≡ 32 = omega arith in
    c.ct_eq.ensures
    ∙ ap bit
    (rw e at l.invariant ∙ ap₂ agree (take_whole a.a 32 (search rules)) (take_whole a.b 32 (search rules)))
