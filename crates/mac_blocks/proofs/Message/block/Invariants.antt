-- `mac_blocks::Message::block` meets its contract: behind the final block all is zero. The loop's invariant: the first i bytes are
-- those of the schedule. Assumes nothing.
use Rattle.words.proofs.Over.{Over}
use Rattle.mac_blocks.specs.Schedule.{schedule}
use Rattle.mac_blocks.proofs.Message.block.Given as goal

abbrev pub invariant-loop-i : goal.invariant-loop-i
invariant-loop-i l = Over (schedule l.self l.b) l.initial.byte-items l.byte-items l.i
