-- `padding::differences` meets its contract. The loop's invariant: bad is 0 exactly if none of the bytes so far differs. Assumes
-- nothing.
use mathlib.Core.Path.{◌≡◌}
use lib.ListN.{length}
use Rattle.std.proofs.lemmas.List.{length_push}
use Rattle.padding.proofs.Back.{back-turn, back-end}
use Rattle.padding.proofs.Gather.{gathers-more}
use Rattle.padding.proofs.Reach.{pad_diff, good_by_scan}
use Rattle.padding.proofs.differences.Goals as goal

pub loop-i-preserved : goal.loop-i-preserved
loop-i-preserved c =
    let l = c.loop-i in
    let a = c.args in
    let it = c.into_iter-i-iterator.result in
    let most : it.iter.n ≡ 256 =
    rw (c.into_iter-i-iterator.ensures.into_iter_gives, c.enumerate-i-items.ensures.source) c.take.ensures.count in
    let next =
    back-turn a.body.now it (cc c.iter.ensures.rest) most (cc) l.yielded _ _ _ _ _ l.yielded_by c.in-Some.is c.next.ensures.steps in
    rw (length_push l.yielded (c.in-Some.i, c.in-Some.byte), c.differs-bad.ensures, next.1, next.0)
    (gathers-more (pad_diff a.body.now a.padlen) (length l.yielded) l.bad l.invariant)

pub returns : goal.returns
returns c =
    let l = c.loop-i in
    let a = c.args in
    let it = c.into_iter-i-iterator.result in
    let all =
    back-end a.body.now it (cc c.iter.ensures.rest) (cc) (cc) l.yielded _ _ _ l.yielded_by c.in-None.is c.next.ensures.steps in
    good_by_scan a.body.now a.padlen l.bad c.requires c.ranges.padlen.fits (rw all at l.invariant)
