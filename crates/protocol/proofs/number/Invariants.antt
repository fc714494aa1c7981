-- `protocol::number` meets its contract. The loop's invariant: the number is the value with the digits that are left behind it.
-- Assumes nothing.
use Rattle.std.proofs.Common.{◌≡◌, drop}
use Rattle.protocol.specs.Fields.{number_from, number_of}
use Rattle.protocol.proofs.number.Given as goal

abbrev pub invariant-loop-c : goal.invariant-loop-c
invariant-loop-c l = number_of l.f ≡ number_from l.value (drop l.c-index l.f)
