-- Demand 3, over ANY start and ANY step: functions on values, with what the lent output holds before and after. What is assumed of
-- the caller: between two steps state, record and output come back untouched. Assumes nothing.
use Rattle.std.specs.Prelude.{Bool, true, false, List, ◌≡◌, ℕ, zero, suc, ◌+◌, ◌-◌, ◌%◌, ◌≤◌, ◌<◌, length}
use Rattle.answers.specs.Answers.{Done, BadState, Ended}
use Rattle.record.specs.Limits.{mac_len, iv_len}
use Rattle.sizes.specs.Sizes.{min_record, max_body, total_steps}
use Rattle.steps.specs.declared.OpeningCbc.{OpeningCbc}
use Rattle.steps.specs.declared.Stepped.{Stepped}
use Rattle.steps.specs.State.{report, all_zero, started}
use Rattle.steps.specs.Step.{report_by, output_by, stepped, output_after}
use Rattle.steps.specs.Work.{work_at}
use Rattle.opening.specs.declared.Opened.{Opened}
use Rattle.opening.specs.Closed.{report_after, out_after}
use Rattle.opening.specs.Given.{Given, size}
use Rattle.demands.specs.Checks.{Openable, NotOpened}
use Rattle.demands.specs.Openers.{blank}

-- a start, for so much room, and a step on an opening, a record and an output
pub record Stepper : Type 0 where
  pub start : Given → ℕ → Stepped
  pub step : OpeningCbc → List ℕ → List ℕ → Stepped × List ℕ

-- `start_cbc` and `step_cbc`
abbrev pub ours : Stepper
ours =
    record {
      start = λ g room. started g.keys g.seq g.type g.version (length g.r) room;
      step = λ s r o. (stepped s r o, output_after s r o);
    }

-- the start and then k steps: the last report with the opening, and the output
unfoldable pub after_by : Stepper → Given → List ℕ → ℕ → Stepped × List ℕ
after_by S g o zero = (S.start g (length o), o)
after_by S g o (suc k) = S.step (after_by S g o k).0.opening g.r (after_by S g o k).1

-- where an opening stands: what decides the next work, and may not depend on a secret
pub record Place : Type 0 where
  pub done : ℕ
  pub n : ℕ
  pub total : ℕ
  pub ended : Bool

abbrev pub place_of : OpeningCbc → Place
place_of s = record { done = s.done; n = s.n; total = s.total; ended = s.ended }

-- a report without its opening
abbrev pub told : Stepped → Opened
told s = record { answer = s.answer; length = s.length; count = s.count }

-- the place after the start and k steps
abbrev pub place_after : Stepper → Given → List ℕ → ℕ → Place
place_after S g o k = place_of (after_by S g o k).0.opening

-- an opening that passes the checks; a version is two bytes, as its type says
pub record Passes (g : Given) (o : List ℕ) : Type 0 where
  pub version : length g.version ≡ 2
  pub checks : Openable (length g.r) (length o)

-- two of them with records of equal length; keys, number, type, version, bytes, the outputs' lengths and what they held are free
pub record Pair (g h : Given) (o q : List ℕ) : Type 0 where
  pub equal : length g.r ≡ length h.r
  pub first : Passes g o
  pub second : Passes h q

-- SAME PLACE. After every number of steps both are at the same place.
unfoldable pub SamePlace : Stepper → Type 0
SamePlace S = (g h : Given) (o q : List ℕ) → Pair g h o q → (k : ℕ) → place_after S g o k ≡ place_after S h q k

-- SAME REPORTS. Before step T both report the same answer, length and count.
unfoldable pub SameReports : Stepper → Type 0
SameReports S =
    (g h : Given) (o q : List ℕ) → Pair g h o q → (k : ℕ) → k < total_steps (size g)
    → told (after_by S g o k).0 ≡ told (after_by S h q k).0

-- SAME COUNT. An opening ends with step T, a number that follows from the record's length alone, and not before; that is the
-- count it reports then, and before it the number of steps done.
pub record Counted (S : Stepper) (g : Given) (o : List ℕ) : Type 0 where
  pub ends : (place_after S g o (total_steps (size g))).ended ≡ true
  pub not_before : (k : ℕ) → k < total_steps (size g) → (place_after S g o k).ended ≡ false
  pub count : (k : ℕ) → k ≤ total_steps (size g) → (after_by S g o k).0.count ≡ k

unfoldable pub SameCount : Stepper → Type 0
SameCount S = (g : Given) (o : List ℕ) → Passes g o → Counted S g o

-- WORK AS DEFINED. After every number of steps the opening, every field of it, the report and the output are those of the closed
-- form; so no step does another's work, early or late.
unfoldable pub WorkAsDefined : Stepper → Type 0
WorkAsDefined S =
    (g : Given) (o : List ℕ) → Passes g o → (k : ℕ) → k ≤ total_steps (size g)
    → after_by S g o k ≡ (report_after g k, out_after g o k)

-- REFUSALS LOOK ALIKE. If both refuse, reported answer, length, count and the ended openings are equal, and each output has n zeros
-- and the rest as found.
unfoldable pub RefusalsAlike : Stepper → Type 0
RefusalsAlike S =
    (g h : Given) (o q : List ℕ) → Pair g h o q
    → let a = after_by S g o (total_steps (size g)) in
    let b = after_by S h q (total_steps (size h)) in
    (a.0.answer ≡ Done → ⊥) → (b.0.answer ≡ Done → ⊥)
    → (a.0 ≡ b.0) × (a.1 ≡ blank (size g) o) × (b.1 ≡ blank (size h) q)

-- STEPS TOO MANY. Every step after step T answers 8, with length 0 and count 0; opening and output stay as step T left them.
unfoldable pub StepsTooMany : Stepper → Type 0
StepsTooMany S =
    (g : Given) (o : List ℕ) → Passes g o → (k : ℕ) → total_steps (size g) < k
    → let last = after_by S g o (total_steps (size g)) in
    after_by S g o k ≡ (report last.0.opening Ended 0 0, last.1)

-- A REFUSED START hands back the all-zero opening with its number, 3, 4, 5 or 2, with length 0 and count 0; every step after it answers
-- 7, with length 0 and count 0, and opening and output stay as they were.
pub record Refused (S : Stepper) (g : Given) (o : List ℕ) (answer : ℕ) : Type 0 where
  pub start : S.start g (length o) ≡ report all_zero answer 0 0
  pub steps : (k : ℕ) → after_by S g o (suc k) ≡ (report all_zero BadState 0 0, o)

unfoldable pub RefusedStart : Stepper → Type 0
RefusedStart S = (g : Given) (o : List ℕ) (answer : ℕ) → NotOpened (length g.r) (length o) answer → Refused S g o answer

-- an opening in its ranges, with a record of r bytes and so much room: no row of answer 7 applies
pub record InRange (s : OpeningCbc) (r room : ℕ) : Type 0 where
  pub least : min_record - iv_len ≤ s.n
  pub most : s.n ≤ max_body
  pub whole : s.n % 16 ≡ 0
  pub steps : s.total ≡ total_steps s.n
  pub unfinished : s.ended ≡ false → s.done < s.total
  pub text : s.held ≤ s.n - (mac_len + 1)
  pub sized : r ≡ s.n + iv_len
  pub fits : s.n ≤ room

-- EVERY STEP, on every opening, record and output, reached or not: 7 if the opening is not in its ranges, then 8 if it has ended, each
-- with length 0 and count 0, opening and output as they were; else the work that follows from n and the steps done, and its answer is
-- neither.
pub record StepDefined (S : Stepper) (s : OpeningCbc) (r o : List ℕ) : Type 0 where
  pub seven : (InRange s (length r) (length o) → ⊥) → S.step s r o ≡ (report s BadState 0 0, o)
  pub eight : InRange s (length r) (length o) → s.ended ≡ true → S.step s r o ≡ (report s Ended 0 0, o)
  pub works : InRange s (length r) (length o) → s.ended ≡ false
      → S.step s r o ≡ (report_by (work_at s.n s.done) s o, output_by (work_at s.n s.done) s r o)
  pub neither : InRange s (length r) (length o) → s.ended ≡ false
      → ((S.step s r o).0.answer ≡ BadState → ⊥) × ((S.step s r o).0.answer ≡ Ended → ⊥)

unfoldable pub EveryStep : Stepper → Type 0
EveryStep S = (s : OpeningCbc) (r o : List ℕ) → StepDefined S s r o

-- Demand 3
pub record Demand3 (S : Stepper) : Type 0 where
  pub same_place : SamePlace S
  pub same_reports : SameReports S
  pub same_count : SameCount S
  pub work_as_defined : WorkAsDefined S
  pub refusals_alike : RefusalsAlike S
  pub steps_too_many : StepsTooMany S
  pub refused-start : RefusedStart S
  pub every-step : EveryStep S
