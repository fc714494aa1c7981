-- `sm3::blocks` meets its contract. The loop's invariant: v has taken in the blocks so far. Assumes nothing.
use Rattle.std.proofs.Common.{◌≡◌, ℕ, ◌<◌, ◌/◌, List, [], length, get_or, refl, ap, ◌∙◌, ap₂, add-one, arith}
use Rattle.words.specs.Lists.{block}
use Rattle.words.proofs.Lists.{get_or-first_chunks}
use Rattle.sm3_compress.specs.Standard.{CF}
use Rattle.sm3.specs.Standard.{iterated, iteration}
use Rattle.sm3.proofs.blocks.Goals as goal

pub loop-block-init : goal.loop-block-init
unfolding iterated
loop-block-init c = refl

pub loop-block-preserved : goal.loop-block-preserved
unfolding iterated
loop-block-preserved c =
    let l = c.loop-block in
    let d : List ℕ = c.args.«data».now in
    let within : l.block-index < length d / 64 = omega (arith, c.as_chunks.ensures.front_len) in
    let b : get_or c.as_chunks.result.0.now l.block-index [] ≡ block 64 l.block-index d =
    ap (λ bs. get_or bs l.block-index []) c.as_chunks.ensures.front ∙ get_or-first_chunks 64 _ l.block-index d [] within in
    rw (add-one l.block-index) (c.compress-next.ensures ∙ ap₂ CF l.invariant b)

pub returns : goal.returns
unfolding iteration
returns c =
    let l = c.loop-block in
    let e : l.block-index ≡ length c.args.«data».now / 64 = omega (arith, c.as_chunks.ensures.front_len) in
    rw e at l.invariant
