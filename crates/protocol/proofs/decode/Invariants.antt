-- `protocol::decode` meets its contract. The loop's invariant: the digits behind the first pairs are left, and the bytes of those
-- pairs are laid over out. Assumes nothing.
use Rattle.std.proofs.Common.{◌≡◌, ◌*◌, ◌/◌, ◌≤◌, length, drop}
use lib.Seq.{paste}
use Rattle.protocol.specs.Fields.{field_of, decoded}
use Rattle.protocol.proofs.decode.Given as goal

abbrev pub invariant-loop-i : goal.invariant-loop-i
invariant-loop-i l =
    let f = field_of l.k l.line in
    let i = l.i-iterator.count in
    record {
      by_two : l.i-iterator.iter.size ≡ 2;
      left : drop (2 * i) f ≡ l.i-iterator.iter.rest.now;
      inside : 2 * i ≤ length f;
      room : length f / 2 ≤ length l.initial.out;
      laid : l.out ≡ paste l.initial.out 0 (decoded f) i;
    }
