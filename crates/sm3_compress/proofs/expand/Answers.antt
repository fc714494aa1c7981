-- `sm3_compress::expand` meets its contract. The loop's invariant: the first j words are the block's, grown by the
-- recurrence, which looks only at those before j; the measure is what is left of 68. Assumes nothing.
use borrow.Author.Rules.{rules}
use mathlib.Core.Path.{◌≡◌, sym, ◌∙◌}
use Prim.Native.Nat.{◌+◌, ◌-◌}
use native.Mathlib.Omega.{arith}
use Rattle.std.proofs.Common.{length-append, take_at}
use Rattle.words.specs.Lists.{grow}
use Rattle.words.proofs.Lists.{grow-more, take_whole}
use Rattle.sm3_compress.specs.Standard.{W}
use Rattle.sm3_compress.proofs.Laws.{next-take}
use Rattle.sm3_compress.proofs.expand.Goals as goal

pub loop-j-init : goal.loop-j-init
unfolding grow
loop-j-init c =
    let copied = c.copy_from_slice.ensures in
    (length-append c.copy_from_slice.new.self _ ∙ rw copied.len, search rules, search rules, take_at _ _ 16 copied.len ∙ copied.after ∙ c.load.ensures)

pub loop-j-preserved : goal.loop-j-preserved
loop-j-preserved c =
    let l = c.loop-j in
    let k : (l.j - 16) + 1 ≡ l.j + 1 - 16 = omega arith in
    let e = c.next.ensures ∙ next-take l.w l.j (omega arith) (omega arith) in
    (search rules, search rules, search rules, rw k at (grow-more _ _ l.w _ l.j _ (omega arith) e l.invariant.3))

pub returns : goal.returns
unfolding W
returns c =
    let l = c.loop-j in
    let e : l.j ≡ 68 = omega arith in
    sym (take_whole l.w 68 l.invariant.0) ∙ (rw e at l.invariant.3)
