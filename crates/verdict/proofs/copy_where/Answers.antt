-- `verdict::copy_where` meets its contract. The loop's invariant: the first j bytes are chosen, the rest are as found. Assumes
-- nothing.
use Prim.Native.Nat.{◌%◌}
use borrow.Author.Rules.{rules}
use lib.Dec.{eqb}
use Rattle.words.proofs.Choice.{chosen_element, length-cond}
use Rattle.words.proofs.Over.{over_none, over_here, over-more}
use Rattle.verdict.proofs.copy_where.Goals as goal

pub loop-j-init : goal.loop-j-init
loop-j-init c =
    let a = c.args in
    over_none (length-cond (eqb (a.hit % 2) 1) a.part.now a.out.now (search rules) (search rules))

pub loop-j-preserved : goal.loop-j-preserved
loop-j-preserved c =
    let l = c.loop-j in
    let a = c.args in
    over-more l.invariant (search rules)
    (rw (c.select.ensures, over_here l.invariant (search rules))
    (chosen_element a.hit a.out.now a.part.now l.j))
