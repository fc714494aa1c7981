-- What a refused start hands back, and the steps that are refused: on that opening, and on one that has ended. Assumes nothing.
use mathlib.Core.Bool.{true, false}
use mathlib.Core.List.{List}
use mathlib.Core.Path.{◌≡◌, refl}
use Prim.Native.Nat.{ℕ, ◌+◌, ◌-◌, ◌≤◌}
use native.Mathlib.Omega.{arith}
use borrow.Author.Tests.{le-ltb, eq-eqb, ne_eqb}
use lib.ListN.{length}
use Rattle.answers.specs.Answers.{Done, BadState, Ended}
use Rattle.record.specs.declared.RecordKeysCbc.{RecordKeysCbc}
use Rattle.sizes.specs.Sizes.{allowed, total_steps}
use Rattle.sizes.proofs.Passed.{Allowed, facts_allowed}
use Rattle.steps.specs.State.{report, ended_with, all_zero, start_answer, started}
use Rattle.steps.specs.Step.{broken, stepped, output_after}

-- a refused start hands back the all-zero opening, with the answer and no count
pub refused-start : (keys : RecordKeysCbc) (seq type : ℕ) (version : List ℕ) (r room : ℕ) → (start_answer r room ≡ Done → ⊥)
    → started keys seq type version r room ≡ report all_zero (start_answer r room) 0 0
unfolding started
refused-start keys seq type version r room h = rw (ne_eqb (start_answer r room) Done h)

-- a step on it is answer 7, and changes nothing
pub refused-step : (r o : List ℕ) → (stepped all_zero r o ≡ report all_zero BadState 0 0) × (output_after all_zero r o ≡ o)
unfolding stepped output_after broken ended_with allowed
refused-step r o = (refl, refl)

-- an ended opening with its record and room breaks no range
ended_whole : (n a r room : ℕ) → Allowed n → r ≡ n + 16 → n ≤ room → broken (ended_with n (total_steps n) true a) r room ≡ false
unfolding broken ended_with
ended_whole n a r room b e h =
    rw (facts_allowed n b, eq-eqb (total_steps n) (total_steps n) refl, le-ltb (n - 33) 0 (omega arith), eq-eqb r (n + 16) e, le-ltb room n h)

-- a step on it is answer 8, and changes nothing
pub ended-step : (n a : ℕ) (r o : List ℕ) → Allowed n → length r ≡ n + 16 → n ≤ length o
    → (stepped (ended_with n (total_steps n) true a) r o ≡ report (ended_with n (total_steps n) true a) Ended 0 0)
    × (output_after (ended_with n (total_steps n) true a) r o ≡ o)
unfolding stepped output_after ended_with
ended-step n a r o b e h =
    let w = ended_whole n a (length r) (length o) b e h in
    (rw w, rw w)
