-- Demand 3, proved of `start_cbc` and `step_cbc`: after every step the opening is at the closed form, so two openings with records
-- of equal length go in lockstep. Assumes nothing.
use mathlib.Core.Bool.{Bool, true, false, cond, not, ◌&&◌}
use mathlib.Core.List.{List, ◌++◌}
use mathlib.Core.Path.{◌≡◌, refl, sym, ap, ap₂, ◌∙◌}
use Prim.Native.Nat.{ℕ, zero, suc, ◌+◌, ◌-◌, ◌≤◌, ◌<◌}
use native.Mathlib.Omega.{arith}
use borrow.Author.Tests.{ltb-true, ltb-false, lt-leb}
use lib.Dec.{leb, ltb}
use lib.ListN.{length, take, drop, replicate}
use Rattle.answers.specs.Answers.{Done, BadRecord, BadState, Ended}
use Rattle.words.specs.Lists.{agree}
use Rattle.sm3.specs.Standard.{bytes_of}
use Rattle.record.specs.Limits.{mac_len}
use Rattle.record.specs.Opened.{held, text_in}
use Rattle.verdict.specs.declared.Verdict.{Verdict}
use Rattle.verdict.specs.Verdict.{verdict_of}
use Rattle.steps.specs.declared.OpeningCbc.{OpeningCbc}
use Rattle.steps.specs.declared.Stepped.{Stepped}
use Rattle.steps.specs.declared.Work.{Work}
use Rattle.steps.specs.State.{report, ended_with, all_zero, start_answer}
use Rattle.steps.specs.Step.{broken, verdict, report_by, output_by, stepped, output_after}
use Rattle.steps.specs.Work.{work_at}
use Rattle.steps.proofs.Sound.{sound, unbroken, one_more}
use Rattle.opening.specs.Closed.{report_after}
use Rattle.opening.specs.Deprotected.{body_after}
use Rattle.opening.specs.Given.{Given, size, decrypted, accepted, answer_in, length_in}
use Rattle.opening.proofs.Fits.{fits}
use Rattle.opening.proofs.Output.{out-end, length-out}
use Rattle.opening.proofs.Refused.{refused-start, refused-step, ended-step}
use Rattle.opening.proofs.Turn.{report_before, report-end}
use Rattle.demands.specs.Checks.{NotOpened}
use Rattle.demands.specs.Steppers.{ours, after_by, told, Place, place_of, place_after, Passes, Pair, SamePlace, SameReports, SameCount, WorkAsDefined, RefusalsAlike, StepsTooMany, RefusedStart, InRange, EveryStep, Demand3}
use Rattle.demands.proofs.Checks.{passes-checks, not_opened, not-opened_answer}
use Rattle.demands.proofs.Reached.{as_defined, T, place-runs, place-over, same_size, in_lockstep}
use Rattle.demands.proofs.Stepping.{places-agree, answer_7, answer_8}

-- ---- same place

-- by the law of the abstract machine
pub same_place : SamePlace ours
unfolding SamePlace
same_place g h o q p = places-agree ours g h o q (in_lockstep g h o q p)

-- so the next step does the same kind of work in both
pub same-work : (g h : Given) (o q : List ℕ) → Pair g h o q → (k : ℕ)
    → let a = place_after ours g o k in
    let b = place_after ours h q k in
    work_at a.n a.done ≡ work_at b.n b.done
unfolding SamePlace
same-work g h o q p k = ap (λ (x : Place). work_at x.n x.done) (same_place g h o q p k)

-- ---- same reports

-- before step T the report is that of the closed form: answer 0, length 0 and the steps done
report-runs : (g : Given) (o : List ℕ) → Passes g o → (k : ℕ) → k < T g
    → told (after_by ours g o k).0 ≡ record { answer = Done; length = 0; count = k }
report-runs g o p k h =
    ap (λ (y : Stepped × List ℕ). told y.0) (as_defined g o p k (omega arith)) ∙ ap told (report_before g k h)

-- so both report the same
pub same_reports : SameReports ours
unfolding SameReports
same_reports g h o q p k b =
    let c : k < T h = rw (same_size g h o q p) at b in
    report-runs g o p.first k b ∙ sym (report-runs h q p.second k c)

-- ---- same count

-- the place is that of the closed form
at_place : (g : Given) (o : List ℕ) → Passes g o → (k : ℕ) → k ≤ T g → place_after ours g o k ≡ place_of (report_after g k).opening
at_place g o p k h = ap (λ (y : Stepped × List ℕ). place_of y.0.opening) (as_defined g o p k h)

-- which counts the steps done
counts : (g : Given) (k : ℕ) → k ≤ T g → (report_after g k).count ≡ k
counts g k h = by (ltb k (T g)) refl
  where
    by : (t : Bool) → ltb k (T g) ≡ t → (report_after g k).count ≡ k
    by true e = rw (report_before g k (ltb-true k (T g) e))
    by false e =
        let n : k ≡ T g = omega (arith, ltb-false k (T g) e) in
        rw (n, report-end g)

-- both follow from the closed form
pub same_count : SameCount ours
unfolding SameCount
same_count g o p =
    record {
      ends = ap (λ (q : Place). q.ended) (at_place g o p (T g) (omega arith) ∙ place-over g);
      not_before = λ k h. ap (λ (q : Place). q.ended) (at_place g o p k (omega arith) ∙ place-runs g k (omega arith));
      count = λ k h. ap (λ (y : Stepped × List ℕ). y.0.count) (as_defined g o p k h) ∙ counts g k h;
    }

-- ---- work as defined

-- the closed form itself
pub work_as_defined : WorkAsDefined ours
unfolding WorkAsDefined
work_as_defined g o p k h = as_defined g o p k (omega arith)

-- ---- refusals look alike

-- state, report and output after the last step
pub at-end : (g : Given) (o : List ℕ) → Passes g o → after_by ours g o (T g)
    ≡ (report (ended_with (size g) (T g) true (answer_in g)) (answer_in g) (length_in g) (T g), body_after g ++ drop (size g) o)
at-end g o p =
    as_defined g o p (T g) (omega arith) ∙ ap₂ (λ (s : Stepped) (x : List ℕ). (s, x)) (report-end g) (out-end g o)

-- a record that is not accepted is answer 6, with no text and no byte
not-accepted : (g : Given) → (answer_in g ≡ Done → ⊥)
    → (answer_in g ≡ BadRecord) × (length_in g ≡ 0) × (body_after g ≡ replicate (size g) 0)
unfolding answer_in length_in body_after
not-accepted g h = by (accepted g) h
  where
    by : (t : Bool) → (cond t Done BadRecord ≡ Done → ⊥)
        → (cond t Done BadRecord ≡ BadRecord)
        × (cond t (held (decrypted g)) 0 ≡ 0)
        × (cond t (text_in (decrypted g) ++ replicate (size g - held (decrypted g)) 0) (replicate (size g) 0) ≡ replicate (size g) 0)
    by true h = absurd (h refl)
    by false h = (refl, refl, refl)

-- so a refused opening leaves nothing but the sizes and what stood behind the body's place
pub refused_end : (g : Given) (o : List ℕ) → Passes g o → ((after_by ours g o (T g)).0.answer ≡ Done → ⊥)
    → after_by ours g o (T g) ≡ (report (ended_with (size g) (T g) true BadRecord) BadRecord 0 (T g), replicate (size g) 0 ++ drop (size g) o)
refused_end g o p h =
    let e = at-end g o p in
    let n = not-accepted g (λ a. h (ap (λ (y : Stepped × List ℕ). y.0.answer) e ∙ a)) in
    e ∙ rw (n.0, n.1, n.2)

-- two refused openings with records of equal length have the sizes in common
pub refusals_alike : RefusalsAlike ours
unfolding RefusalsAlike
refusals_alike g h o q p first second =
    let a = refused_end g o p.first first in
    let b = refused_end h q p.second second in
    let n = same_size g h o q p in
    (rw (a, b, n), ap (λ (y : Stepped × List ℕ). y.1) a, ap (λ (y : Stepped × List ℕ). y.1) b)

-- ---- steps too many

module _ (g : Given) (o : List ℕ) (p : Passes g o) where
  -- the opening and the output that the last step leaves
  abbrev last : OpeningCbc
  last = ended_with (size g) (T g) true (answer_in g)

  abbrev left : List ℕ
  left = body_after g ++ drop (size g) o

  -- a step on them is answer 8, and changes neither
  step-8 : ours.step last g.r left ≡ (report last Ended 0 0, left)
  step-8 =
      let f = fits g o p.version (passes-checks p.checks) in
      let e = ended-step (size g) (answer_in g) g.r left f.body f.sized
      (omega (arith, f.room, ap length (out-end g o), length-out g f (T g))) in
      ap₂ (λ (s : Stepped) (y : List ℕ). (s, y)) e.0 e.1

  -- so is every step after step T
  beyond : (j : ℕ) → after_by ours g o (suc (T g + j)) ≡ (report last Ended 0 0, left)
  unfolding after_by
  beyond zero =
      let n : T g + 0 ≡ T g = omega arith in
      rw (n, at-end g o p) step-8
  beyond (suc j) =
      let n : T g + suc j ≡ suc (T g + j) = omega arith in
      ap (λ (i : ℕ). after_by ours g o (suc i)) n
      ∙ ap (λ (y : Stepped × List ℕ). ours.step y.0.opening g.r y.1) (beyond j)
      ∙ step-8

-- which is what is asked
pub steps_too_many : StepsTooMany ours
unfolding StepsTooMany
steps_too_many g o p k h =
    let n : k ≡ suc (T g + (k - suc (T g))) = omega arith in
    ap (after_by ours g o) n ∙ beyond g o p (k - suc (T g)) ∙ rw (at-end g o p)

-- ---- a refused start

module _ (g : Given) (o : List ℕ) (answer : ℕ) (n : NotOpened (length g.r) (length o) answer) where
  -- it hands back the all-zero opening with its number
  first-refused : ours.start g (length o) ≡ report all_zero answer 0 0
  first-refused =
      let a : start_answer (length g.r) (length o) ≡ answer = not_opened n in
      refused-start g.keys g.seq g.type g.version (length g.r) (length o) (λ e. not-opened_answer n (sym a ∙ e))
      ∙ ap (λ (x : ℕ). report all_zero x 0 0) a

  -- on which every step is answer 7
  then_7 : (k : ℕ) → after_by ours g o (suc k) ≡ (report all_zero BadState 0 0, o)
  unfolding after_by
  then_7 zero = rw (first-refused, (refused-step g.r o).0, (refused-step g.r o).1)
  then_7 (suc k) =
      ap (λ (y : Stepped × List ℕ). ours.step y.0.opening g.r y.1) (then_7 k)
      ∙ ap₂ (λ (s : Stepped) (x : List ℕ). (s, x)) (refused-step g.r o).0 (refused-step g.r o).1

pub refused-start-7 : RefusedStart ours
unfolding RefusedStart
refused-start-7 g o answer n = record { start = first-refused g o answer n; steps = then_7 g o answer n }

-- ---- answers 7 and 8 on every opening

module _ (s : OpeningCbc) (r room : ℕ) where
  -- an opening that is not broken is in its ranges
  pub in_range_lem : broken s r room ≡ false → InRange s r room
  in_range_lem e =
      let f = sound s r room e in
      record {
        least = f.body.least;
        most = f.body.most;
        whole = f.body.whole;
        steps = f.steps;
        unfinished = one_more s r room f;
        text = f.text;
        sized = f.whole;
        fits = f.fits;
      }

  -- and one in its ranges is not broken
  pub not-broken : InRange s r room → broken s r room ≡ false
  not-broken f =
      unbroken s r room
      (record {
        body = record { least = f.least; most = f.most; whole = f.whole };
        steps = f.steps;
        unfinished = by s.ended refl;
        text = f.text;
        whole = f.sized;
        fits = f.fits;
      })
    where
      by : (t : Bool) → s.ended ≡ t → (not s.ended && leb s.total s.done) ≡ false
      by true e = rw e
      by false e = rw (e, lt-leb s.total s.done (f.unfinished e))

-- an opening out of its ranges is broken
out_of_range : (s : OpeningCbc) (r room : ℕ) → (InRange s r room → ⊥) → broken s r room ≡ true
out_of_range s r room out = by (broken s r room) refl
  where
    by : (t : Bool) → broken s r room ≡ t → t ≡ true
    by true e = refl
    by false e = absurd (out (in_range_lem s r room e))

-- the answer of a piece of work is 0 or 6, and so neither 7 nor 8
work-answers : (w : Work) (s : OpeningCbc) (o : List ℕ) → ((report_by w s o).answer ≡ BadState → ⊥) × ((report_by w s o).answer ≡ Ended → ⊥)
unfolding report_by verdict verdict_of
work-answers (Work.Decipher k) s o = (λ e. omega arith, λ e. omega arith)
work-answers Work.ReadPadding s o = (λ e. omega arith, λ e. omega arith)
work-answers (Work.Inner j) s o = (λ e. omega arith, λ e. omega arith)
work-answers Work.OuterPad s o = (λ e. omega arith, λ e. omega arith)
work-answers Work.OuterHash s o = (λ e. omega arith, λ e. omega arith)
work-answers Work.Answering s o = by (s.pad_ok && agree (take mac_len (drop s.held o)) (bytes_of s.words))
  where
    verdict_answer : Bool → ℕ
    verdict_answer t = (cond {A = Verdict} t (record { answer = Done; length = s.held }) (record { answer = BadRecord; length = 0 })).answer

    by : (t : Bool) → (verdict_answer t ≡ BadState → ⊥) × (verdict_answer t ≡ Ended → ⊥)
    by true = (λ e. omega arith, λ e. omega arith)
    by false = (λ e. omega arith, λ e. omega arith)

-- an opening that is neither broken nor ended is worked on
works : (s : OpeningCbc) (r o : List ℕ) → broken s (length r) (length o) ≡ false → s.ended ≡ false
    → stepped s r o ≡ report_by (work_at s.n s.done) s o
unfolding stepped
works s r o b e =
    let work = report_by (work_at s.n s.done) s o in
    ap (λ (t : Bool). cond t (report s BadState 0 0) (cond s.ended (report s Ended 0 0) work)) b
    ∙ ap (λ (t : Bool). cond t (report s Ended 0 0) work) e

-- and writes what its work says
writes : (s : OpeningCbc) (r o : List ℕ) → broken s (length r) (length o) ≡ false → s.ended ≡ false
    → output_after s r o ≡ output_by (work_at s.n s.done) s r o
unfolding output_after
writes s r o b e = rw (b, e)

-- so each step is defined
pub every-step : EveryStep ours
unfolding EveryStep
every-step s r o =
    record {
      seven = λ out. answer_7 s r o (out_of_range s (length r) (length o) out);
      eight = λ f e. answer_8 s r o (not-broken s (length r) (length o) f) e;
      works = λ f e.
          let b = not-broken s (length r) (length o) f in
          ap₂ (λ (x : Stepped) (y : List ℕ). (x, y)) (works s r o b e) (writes s r o b e);
      neither = λ f e. rw (works s r o (not-broken s (length r) (length o) f) e) (work-answers (work_at s.n s.done) s o);
    }

-- DEMAND 3
pub demand_3 : Demand3 ours
demand_3 =
    record {
      same_place = same_place;
      same_reports = same_reports;
      same_count = same_count;
      work_as_defined = work_as_defined;
      refusals_alike = refusals_alike;
      steps_too_many = steps_too_many;
      refused-start = refused-start-7;
      every-step = every-step;
    }
