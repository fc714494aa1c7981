-- What meets the predicates is ours: they say what is done in every case, and one of the cases always applies. Assumes nothing.
use mathlib.Core.Bool.{Bool, true, false, false≢true}
use mathlib.Core.List.{List}
use mathlib.Core.Path.{◌≡◌, refl, sym, ap, ◌∙◌}
use Prim.Native.Nat.{ℕ, zero, suc, ◌≤◌, ◌<◌}
use native.Mathlib.Omega.{arith}
use borrow.Author.Tests.{ltb-true, ltb-false}
use lib.Dec.{ltb}
use lib.ListN.{length}
use Rattle.answers.specs.Answers.{Ended}
use Rattle.steps.specs.declared.Stepped.{Stepped}
use Rattle.steps.specs.State.{report}
use Rattle.steps.specs.Step.{broken}
use Rattle.demands.specs.Checks.{Openable, NotOpened}
use Rattle.demands.specs.OnlyOurs.{OnlyOurSealer, OnlyOurOpener, OnlyOurSteps, OnlyOurStep}
use Rattle.demands.specs.Openers.{our_sealer, our_opener, StatedRecord, SealRefusals, ExactAcceptance, OpenRefusals}
use Rattle.demands.specs.Steppers.{ours, after_by, Passes, WorkAsDefined, StepsTooMany, RefusedStart, InRange, EveryStep}
use Rattle.demands.proofs.Checks.{SealCase, seal_case, OpenCase, open_case}
use Rattle.demands.proofs.Demand2.{stated_record, seal_refusals, Verdict, verdict, exact_acceptance, open_refusals}
use Rattle.demands.proofs.Demand3.{work_as_defined, steps_too_many, refused-start-7, in_range_lem, not-broken, every-step}
use Rattle.demands.proofs.Reached.{T}

-- a sealer: the text is sealed or refused
pub only_our_sealer : OnlyOurSealer
unfolding OnlyOurSealer StatedRecord SealRefusals
only_our_sealer seal stated refusals keys seq type version iv text out = by (seal_case (length text) (length out))
  where
    by : SealCase (length text) (length out)
        → seal keys seq type version iv text out ≡ our_sealer keys seq type version iv text out
    by (SealCase.sealable h) = stated keys seq type version iv text out h ∙ sym (stated_record keys seq type version iv text out h)
    by (SealCase.refused a n) =
        refusals keys seq type version iv text out a n ∙ sym (seal_refusals keys seq type version iv text out a n)

-- an opener: the record does not pass the checks, or its decryption is no body, or it is one
pub only_our_opener : OnlyOurOpener
unfolding OnlyOurOpener ExactAcceptance OpenRefusals
only_our_opener opens exact refusals g o bytes = by (open_case (length g.r) (length o))
  where
    judged : (c : Openable (length g.r) (length o)) → Verdict g o c bytes → opens g o ≡ our_opener g o
    judged c (Verdict.no_body e none) =
        let x = exact g o bytes c in
        let y = exact_acceptance g o bytes c in
        x.cleared (x.refused.1 none) ∙ sym (y.cleared (y.refused.1 none))
    judged c (Verdict.a_body text p b) =
        (exact g o bytes c).handed_out text p b ∙ sym ((exact_acceptance g o bytes c).handed_out text p b)

    by : OpenCase (length g.r) (length o) → opens g o ≡ our_opener g o
    by (OpenCase.openable c) = judged c (verdict g o c bytes)
    by (OpenCase.refused a n) = refusals g o a n ∙ sym (open_refusals g o a n)

-- a stepper: the start is refused, or it is one of the T steps, or one of those after them
pub only_our_steps : OnlyOurSteps
unfolding OnlyOurSteps WorkAsDefined StepsTooMany RefusedStart after_by
only_our_steps S work many refused g o v k = by (open_case (length g.r) (length o))
  where
    within : (c : Openable (length g.r) (length o)) (i : ℕ) → i ≤ T g → after_by S g o i ≡ after_by ours g o i
    within c i h =
        let p : Passes g o = record { version = v; checks = c } in
        work g o p i h ∙ sym (work_as_defined g o p i h)

    beyond : (c : Openable (length g.r) (length o)) → T g < k → after_by S g o k ≡ after_by ours g o k
    beyond c h =
        let p : Passes g o = record { version = v; checks = c } in
        many g o p k h
        ∙ ap (λ (y : Stepped × List ℕ). (report y.0.opening Ended 0 0, y.1)) (within c (T g) (omega arith))
        ∙ sym (steps_too_many g o p k h)

    opened : (c : Openable (length g.r) (length o)) (t : Bool) → ltb (T g) k ≡ t → after_by S g o k ≡ after_by ours g o k
    opened c true e = beyond c (ltb-true (T g) k e)
    opened c false e = within c k (ltb-false (T g) k e)

    not_opened : (a : ℕ) → NotOpened (length g.r) (length o) a → (i : ℕ) → after_by S g o i ≡ after_by ours g o i
    not_opened a n zero = ap (λ (s : Stepped). (s, o)) ((refused g o a n).start ∙ sym (refused-start-7 g o a n).start)
    not_opened a n (suc i) = (refused g o a n).steps i ∙ sym ((refused-start-7 g o a n).steps i)

    by : OpenCase (length g.r) (length o) → after_by S g o k ≡ after_by ours g o k
    by (OpenCase.openable c) = opened c (ltb (T g) k) refl
    by (OpenCase.refused a n) = not_opened a n k

-- a step: the opening is out of its ranges, or has ended, or is worked on
pub only_our_step : OnlyOurStep
unfolding OnlyOurStep EveryStep
only_our_step S every s r o = by (broken s (length r) (length o)) refl s.ended refl
  where
    by : (a : Bool) → broken s (length r) (length o) ≡ a → (b : Bool) → s.ended ≡ b → S.step s r o ≡ ours.step s r o
    by true e b f =
        let out : InRange s (length r) (length o) → ⊥ = λ i. false≢true (sym (not-broken s (length r) (length o) i) ∙ e) in
        (every s r o).seven out ∙ sym ((every-step s r o).seven out)
    by false e true f =
        let i = in_range_lem s (length r) (length o) e in
        (every s r o).eight i f ∙ sym ((every-step s r o).eight i f)
    by false e false f =
        let i = in_range_lem s (length r) (length o) e in
        (every s r o).works i f ∙ sym ((every-step s r o).works i f)
