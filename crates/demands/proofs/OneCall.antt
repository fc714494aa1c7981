-- The one call and our steps: the call reports and leaves what the last of T steps does, or what a refused start does; and the loops
-- over the steps lead there. Assumes nothing.
use mathlib.Core.List.{List}
use mathlib.Core.Path.{◌≡◌, sym, ap, ◌∙◌}
use Prim.Native.Nat.{ℕ}
use borrow.Author.Tests.{ne_eqb}
use lib.ListN.{length}
use Rattle.answers.specs.Answers.{Done}
use Rattle.steps.specs.declared.Stepped.{Stepped}
use Rattle.steps.specs.State.{start_answer}
use Rattle.opening.specs.Deprotected.{deprotected, output_of}
use Rattle.opening.specs.Given.{Given}
use Rattle.demands.specs.Checks.{NotOpened}
use Rattle.demands.specs.Machine.{EndsAt}
use Rattle.demands.specs.OneCall.{OneCall, Held, machine, held_by, LoopIsSteps, UntilIsSteps, SameTurns}
use Rattle.demands.specs.Openers.{our_opener}
use Rattle.demands.specs.Steppers.{ours, after_by, told, Place, place_after, Passes, SameCount, RefusedStart}
use Rattle.demands.proofs.Checks.{passes-checks, not_opened, not-opened_answer}
use Rattle.demands.proofs.Demand3.{at-end, same_count, refused-start-7}
use Rattle.demands.proofs.Machine.{loop_is_run, same_call, until-ends}
use Rattle.demands.proofs.Reached.{T, at_first, in_lockstep}
use Rattle.demands.proofs.Stepping.{run_is_steps}

-- where the checks pass, it is the last step
opened : (g : Given) (o : List ℕ) → Passes g o → our_opener g o ≡ (told (after_by ours g o (T g)).0, (after_by ours g o (T g)).1)
unfolding deprotected output_of
opened g o p = rw (at-end g o p, passes-checks p.checks)

-- where they do not, it answers by the number of the check
pub refused : (g : Given) (o : List ℕ) (answer : ℕ) → NotOpened (length g.r) (length o) answer
    → our_opener g o ≡ (record { answer = answer; length = 0; count = 0 }, o)
unfolding deprotected output_of
refused g o answer n =
    let a : start_answer (length g.r) (length o) ≡ answer = not_opened n in
    rw (ne_eqb (start_answer (length g.r) (length o)) Done (λ e. not-opened_answer n (sym a ∙ e)), a)

-- as the start does
pub one_call : OneCall ours our_opener
unfolding OneCall RefusedStart
one_call g o v =
    record {
      opened = λ c. opened g o (record { version = v; checks = c });
      refused = λ answer n.
          refused g o answer n ∙ ap (λ (s : Stepped). (told s, o)) (sym (refused-start-7 g o answer n).start);
    }

-- its loop makes the steps
pub loop_is_steps : LoopIsSteps ours
unfolding LoopIsSteps
loop_is_steps g o p =
    let n : (place_after ours g o 0).total ≡ T g = ap (λ (q : Place). q.total) (at_first g o p) in
    rw n (loop_is_run (machine ours) (T g) (held_by ours g o 0) ∙ run_is_steps ours g o (T g))

-- and so does one that looks at the ended mark
pub until_is_steps : UntilIsSteps ours
unfolding UntilIsSteps EndsAt SameCount
until_is_steps g o p most h =
    let c = same_count g o p in
    let ends : EndsAt (machine ours) (held_by ours g o 0) (T g) = (
      ap (λ (x : Held). x.opening.ended) (run_is_steps ours g o (T g)) ∙ c.ends,
      λ k b. ap (λ (x : Held). x.opening.ended) (run_is_steps ours g o k) ∙ c.not_before k b,
    )
    in
    until-ends (machine ours) most (T g) (held_by ours g o 0) h ends ∙ rw (run_is_steps ours g o (T g))

-- two of them go in lockstep
pub same-turns : SameTurns ours
unfolding SameTurns
same-turns g h o q p =
    same_call (machine ours) (λ x. x.total) (held_by ours g o 0) (held_by ours h q 0) (in_lockstep g h o q p)
