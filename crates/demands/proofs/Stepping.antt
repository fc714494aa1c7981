-- The steps of a stepper as runs of its machine, and the answers 7 and 8 of ours, which change nothing. Assumes nothing.
use mathlib.Core.Bool.{Bool, true, false}
use mathlib.Core.List.{List}
use mathlib.Core.Path.{◌≡◌, refl, sym, ap, ◌∙◌}
use Prim.Native.Nat.{ℕ, zero, suc}
use lib.ListN.{length}
use Rattle.answers.specs.Answers.{BadState, Ended}
use Rattle.steps.specs.declared.OpeningCbc.{OpeningCbc}
use Rattle.steps.specs.declared.Stepped.{Stepped}
use Rattle.steps.specs.State.{report}
use Rattle.steps.specs.Step.{broken, stepped, output_after}
use Rattle.opening.specs.Given.{Given}
use Rattle.demands.specs.Machine.{run, SamePlaces}
use Rattle.demands.specs.OneCall.{Held, machine, held_by}
use Rattle.demands.specs.Steppers.{Stepper, ours, after_by, place_after}
use Rattle.demands.proofs.Machine.{stuck}

-- what is held after the start and k steps is a run of the machine from what is held after the start
pub run_is_steps : (S : Stepper) (g : Given) (o : List ℕ) (k : ℕ) → run (machine S) (held_by S g o 0) k ≡ held_by S g o k
unfolding run after_by
run_is_steps S g o zero = refl
run_is_steps S g o (suc k) = ap (machine S).step (run_is_steps S g o k)

-- so where two runs go in lockstep, the places after k steps agree
pub places-agree : (S : Stepper) (g h : Given) (o q : List ℕ) → SamePlaces (machine S) (held_by S g o 0) (held_by S h q 0)
    → (k : ℕ) → place_after S g o k ≡ place_after S h q k
unfolding SamePlaces
places-agree S g h o q e k =
    ap (machine S).place (sym (run_is_steps S g o k)) ∙ e k ∙ ap (machine S).place (run_is_steps S h q k)

-- ---- answers 7 and 8

-- a step on a broken opening is answer 7, and changes nothing
pub answer_7 : (s : OpeningCbc) (r o : List ℕ) → broken s (length r) (length o) ≡ true → ours.step s r o ≡ (report s BadState 0 0, o)
unfolding stepped output_after
answer_7 s r o b = rw b

-- one on an ended opening that is not broken is answer 8, and changes nothing
pub answer_8 : (s : OpeningCbc) (r o : List ℕ) → broken s (length r) (length o) ≡ false → s.ended ≡ true
    → ours.step s r o ≡ (report s Ended 0 0, o)
unfolding stepped output_after
answer_8 s r o b e = rw (b, e)

-- either leaves what is held as it is
unmoved : (x : Held) (answer : ℕ) → ours.step x.opening x.r x.out ≡ (report x.opening answer 0 0, x.out)
    → (machine ours).step x ≡ x
unmoved x answer e = ap (λ (y : Stepped × List ℕ). record { opening = y.0.opening; r = x.r; out = y.1 }) e

-- a broken opening stays as it is, whatever number of steps comes
pub broken-stuck : (x : Held) → broken x.opening (length x.r) (length x.out) ≡ true → (k : ℕ) → run (machine ours) x k ≡ x
broken-stuck x b = stuck (machine ours) x (unmoved x BadState (answer_7 x.opening x.r x.out b))

-- a step on an ended opening changes nothing, be it broken or not
pub ended-stays : (x : Held) → x.opening.ended ≡ true → (machine ours).step x ≡ x
ended-stays x e = by (broken x.opening (length x.r) (length x.out)) refl
  where
    by : (t : Bool) → broken x.opening (length x.r) (length x.out) ≡ t → (machine ours).step x ≡ x
    by true b = unmoved x BadState (answer_7 x.opening x.r x.out b)
    by false b = unmoved x Ended (answer_8 x.opening x.r x.out b e)

-- so it too stays as it is
pub ended_stuck : (x : Held) → x.opening.ended ≡ true → (k : ℕ) → run (machine ours) x k ≡ x
ended_stuck x e = stuck (machine ours) x (ended-stays x e)
