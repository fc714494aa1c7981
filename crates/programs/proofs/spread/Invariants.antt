-- `programs::spread` meets its contract. The loop's invariant: the bytes before the next one are made, and x is the next
-- byte of the rule. Assumes nothing.
use Rattle.std.proofs.Common.{◌≡◌, take}
use Rattle.words.specs.Lists.{table}
use Rattle.programs.specs.Rule.{byte}
use Rattle.programs.proofs.spread.Given as goal

abbrev pub invariant-loop-byte : goal.invariant-loop-byte
invariant-loop-byte l =
    (l.x ≡ byte l.step l.first l.byte-index) × (take l.byte-index l.out ≡ table (byte l.step l.first) l.byte-index)
