-- `sm3::digest_of` meets its contract. The loop's invariant: the bytes of the first i words, and zeros behind them; the
-- measure is how many words are left. Assumes nothing.
use Rattle.std.proofs.Common.{◌≡◌, ◌-◌, ◌*◌, ◌≤◌, ◌++◌, length, drop}
use Rattle.words.specs.Lists.{join}
use Rattle.sm3.specs.Standard.{word_bytes}
use Rattle.sm3.proofs.digest_of.Given as goal

abbrev pub invariant-loop-i : goal.invariant-loop-i
invariant-loop-i l = (l.i ≤ 8) × (length l.out ≡ 32) × (l.out ≡ join l.i (word_bytes l.fn.v) ++ drop (l.i * 4) l.initial.out)

abbrev pub decreases-loop-i : goal.decreases-loop-i
decreases-loop-i l = 8 - l.i
