-- `sm3_compress::rounds_of_four` meets its contract: a turn of the loop is four rounds more. Assumes nothing.
use Rattle.std.proofs.Common.{refl, arith}
use Rattle.sm3_compress.specs.Rounds.{rounds_from}
use Rattle.sm3_compress.proofs.Rounds.{four-more}
use Rattle.sm3_compress.proofs.rounds_of_four.Goals as goal

pub loop-i-init : goal.loop-i-init
unfolding rounds_from
loop-i-init g c = refl

pub loop-i-preserved : goal.loop-i-preserved
loop-i-preserved g c =
    let l = c.loop-i in
    four-more _ _ _ _ _ _ _ _ g.row.FIRST l.i _ (omega arith) l.invariant c.round_at-v1.ensures c.round_at-v2.ensures
    c.round_at-v3.ensures c.round_at-v.ensures
