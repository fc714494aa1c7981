-- `sm4::expand` meets its contract. The loop's invariant: the first i round keys are there, those from k on are still
-- to come, and the other places hold their CK. Assumes nothing.
use mathlib.Core.List.{◌++◌}
use mathlib.Core.Path.{◌≡◌}
use Prim.Native.Nat.{ℕ, ◌-◌, ◌≤◌, ◌<◌}
use lib.ListN.{length, get_or, take}
use Rattle.sm4.specs.Standard.{CK, keys_from}
use Rattle.sm4.proofs.expand.Given as goal

abbrev pub invariant-loop-key : goal.invariant-loop-key
invariant-loop-key l =
    record {
      long : length l.key-items ≡ 32;
      done : take l.key-index l.key-items ++ keys_from l.k l.key-index (32 - l.key-index) ≡ keys_from l.initial.k 0 32;
      left : (j : ℕ) → l.key-index ≤ j → j < 32 → get_or l.key-items j 0 ≡ CK j;
    }
