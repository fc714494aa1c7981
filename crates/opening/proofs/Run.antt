-- The loop of the one call: after k steps the report and the output are the closed form's, where the start was accepted; where it
-- was refused there are no steps. Assumes nothing.
use mathlib.Core.Bool.{Bool, true, false}
use mathlib.Core.List.{List}
use mathlib.Core.Path.{◌≡◌, refl, ap, ◌∙◌}
use Prim.Native.Nat.{ℕ, ◌+◌, ◌≤◌, ◌<◌}
use native.Mathlib.Numerals.{add-one}
use native.Mathlib.Omega.{arith}
use borrow.Author.Tests.{eqb-true, eqb-false}
use lib.Dec.{eqb}
use lib.ListN.{length}
use Rattle.answers.specs.Answers.{Done}
use Rattle.sizes.specs.Sizes.{total_steps}
use Rattle.steps.specs.declared.Stepped.{Stepped}
use Rattle.steps.specs.State.{report, ended_with, all_zero, start_answer, started}
use Rattle.steps.specs.Step.{stepped, output_after}
use Rattle.opening.specs.Closed.{running, report_after, out_after}
use Rattle.opening.specs.Deprotected.{deprotected, output_of}
use Rattle.opening.specs.Given.{Given, size}
use Rattle.opening.proofs.Closed.{begins, goes_on}
use Rattle.opening.proofs.Fits.{fits}
use Rattle.opening.proofs.Output.{out-end}
use Rattle.opening.proofs.Refused.{refused-start}
use Rattle.opening.proofs.Turn.{report_before, report-end}

-- what the start answers
abbrev pub first : Given → List ℕ → ℕ
first g o = start_answer (length g.r) (length o)

-- after k of total steps, over an output that held o
pub record Run (g : Given) (o : List ℕ) (total : ℕ) (s : Stepped) (out : List ℕ) (k : ℕ) : Type 0 where
  pub two : length g.version ≡ 2
  pub accepted : first g o ≡ Done → (total ≡ total_steps (size g)) × (s ≡ report_after g k) × (out ≡ out_after g o k)
  pub refused : (first g o ≡ Done → ⊥) → (total ≡ 0) × (s ≡ report all_zero (first g o) 0 0) × (out ≡ o)

-- before the first step
pub run_none : (g : Given) (o : List ℕ) (s : Stepped) → length g.version ≡ 2
    → s ≡ started g.keys g.seq g.type g.version (length g.r) (length o) → Run g o s.opening.total s o 0
unfolding running total_steps ended_with
run_none g o s v e =
    record {
      two = v;
      accepted = λ h.
          let b = begins g (fits g o v h) h in
          let is : s ≡ report_after g 0 = e ∙ b.0 in
          (ap (λ (x : Stepped). x.opening.total) (is ∙ report_before g 0 (omega arith)), is, b.1);
      refused = λ h.
          let is : s ≡ report all_zero (first g o) 0 0 =
          e ∙ refused-start g.keys g.seq g.type g.version (length g.r) (length o) h in
          (ap (λ (x : Stepped). x.opening.total) is, is, refl);
    }

module _ {g : Given} {o : List ℕ} {total : ℕ} {s : Stepped} {out : List ℕ} {k : ℕ} (l : Run g o total s out k) where
  -- one step more
  pub run_more : (s' : Stepped) (out' : List ℕ) → k < total → s' ≡ stepped s.opening g.r out
      → out' ≡ output_after s.opening g.r out → Run g o total s' out' (k + 1)
  run_more s' out' b e d =
      record {
        two = l.two;
        accepted = λ h.
            let a = l.accepted h in
            let t = goes_on g (fits g o l.two h) k (omega (arith, a.0)) in
            (a.0, rw (add-one k) (e ∙ rw (a.1, a.2) t.0), rw (add-one k) (d ∙ rw (a.1, a.2) t.1));
        refused = λ h. absurd (omega (arith, (l.refused h).0));
      }

  -- after the last step
  pub run_all : k ≤ total → total ≤ k
      → (record { answer = s.answer; length = s.length; count = s.count } ≡ deprotected g (length o)) × (out ≡ output_of g o)
  unfolding deprotected output_of
  run_all w b = by (eqb (first g o) Done) refl
    where
      by : (t : Bool) → eqb (first g o) Done ≡ t
          → (record { answer = s.answer; length = s.length; count = s.count } ≡ deprotected g (length o)) × (out ≡ output_of g o)
      by true e =
          let a = l.accepted (eqb-true (first g o) Done e) in
          let n : k ≡ total_steps (size g) = omega (arith, a.0) in
          (rw (e, a.1, n, report-end g), rw (e, a.2, n, out-end g o))
      by false e =
          let a = l.refused (eqb-false (first g o) Done e) in
          (rw (e, a.1), rw (e, a.2))
