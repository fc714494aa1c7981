-- `mac_blocks::keep` meets its contract. The loop's invariant: the first i words are the chosen ones, the rest as found. Assumes
-- nothing.
use Prim.Native.Nat.{◌%◌}
use borrow.Author.Rules.{rules}
use lib.Dec.{eqb}
use Rattle.words.proofs.Choice.{chosen_element, length-cond}
use Rattle.words.proofs.Over.{over_none, over_here, over-more}
use Rattle.mac_blocks.proofs.keep.Goals as goal

pub loop-i-init : goal.loop-i-init
loop-i-init c =
    let a = c.args in
    over_none (length-cond (eqb (a.choice % 2) 1) a.words.now a.kept.now (search rules) (search rules))

pub loop-i-preserved : goal.loop-i-preserved
loop-i-preserved c =
    let l = c.loop-i in
    let a = c.args in
    over-more l.invariant (search rules)
    (rw (c.select.ensures, over_here l.invariant (search rules))
    (chosen_element a.choice a.kept.now a.words.now l.i))
