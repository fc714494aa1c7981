-- `sm3_compress::rounds_of_four` meets its contract. The loop's invariant: v is the state behind the first 4 i of these
-- rounds. Assumes nothing.
use Rattle.std.proofs.Common.{◌≡◌, ◌*◌}
use Rattle.sm3_compress.specs.Rounds.{rounds_from}
use Rattle.sm3_compress.proofs.rounds_of_four.Given as goal

abbrev pub invariant-loop-i : goal.invariant-loop-i
invariant-loop-i g l = l.v ≡ rounds_from l.w l.wp g.row.FIRST (l.i * 4) l.initial.v
