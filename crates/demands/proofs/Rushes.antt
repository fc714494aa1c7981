-- The stand-in that does everything in step 1 has the places, the counts and the end of ours: it meets the other parts of demand 3,
-- so that it is the work as defined that rules it out. Assumes nothing.
use mathlib.Core.Bool.{Bool, true, false, cond}
use mathlib.Core.List.{List}
use mathlib.Core.Path.{◌≡◌, refl, sym, ap, ◌∙◌}
use Prim.Native.Nat.{ℕ, zero, suc, ◌+◌, ◌-◌, ◌≤◌, ◌<◌}
use native.Mathlib.Nat.{suc-ne-zero}
use native.Mathlib.Numerals.{add-one}
use native.Mathlib.Omega.{arith}
use borrow.Author.Tests.{ltb-true, ltb-false, lt-ltb, le-ltb, ne_eqb}
use lib.Dec.{eqb, ltb}
use Rattle.answers.specs.Answers.{Done}
use Rattle.sizes.specs.Sizes.{total_steps}
use Rattle.steps.specs.declared.OpeningCbc.{OpeningCbc}
use Rattle.steps.specs.declared.Stepped.{Stepped}
use Rattle.steps.specs.State.{zero_words, report, ended_with, started, begun}
use Rattle.steps.specs.Step.{changed}
use Rattle.opening.specs.Deprotected.{output_of}
use Rattle.opening.specs.Given.{Given, size, accepted, answer_in, length_in}
use Rattle.demands.specs.Machine.{Keeps}
use Rattle.demands.specs.OneCall.{Held, machine, held_by}
use Rattle.demands.specs.StandIns.{rushes}
use Rattle.demands.specs.Steppers.{ours, after_by, Place, place_of, place_after, Passes, SamePlace, SameCount, RefusalsAlike}
use Rattle.demands.proofs.Checks.{passes-checks}
use Rattle.demands.proofs.Demand3.{at-end, same_count, refusals_alike}
use Rattle.demands.proofs.Machine.{lockstep}
use Rattle.demands.proofs.Reached.{T, first-places}
use Rattle.demands.proofs.Stepping.{places-agree}

-- ---- same place

-- the place that follows, at every opening
follows : Place → Place
follows p =
    cond (eqb p.done 0) (record { done = p.done + 1; n = p.n; total = p.total; ended = p.ended })
    (cond (ltb (p.done + 1) p.total)
    (record { done = p.done + 1; n = p.n; total = p.total; ended = p.ended })
    (record { done = 0; n = p.n; total = p.total; ended = true }))

-- any state
abbrev Any : Held → Type 0
Any x = Unit {0}

-- from any state a step leads there
rushes-keeps : Keeps (machine rushes) Any follows
unfolding follows changed ended_with
rushes-keeps =
    record {
      good = λ x u. u;
      moves = λ x u. by x (eqb x.opening.done 0) refl (ltb (x.opening.done + 1) x.opening.total) refl;
    }
  where
    by : (x : Held) (a : Bool) → eqb x.opening.done 0 ≡ a → (b : Bool) → ltb (x.opening.done + 1) x.opening.total ≡ b
        → place_of ((machine rushes).step x).opening ≡ follows (place_of x.opening)
    by x true e b f = rw e
    by x false e true f = rw (e, f)
    by x false e false f = rw (e, f)

-- so it goes in lockstep as ours does
pub rushes-same-place : SamePlace rushes
unfolding SamePlace after_by
rushes-same-place g h o q p =
    places-agree rushes g h o q
    (lockstep (machine rushes) rushes-keeps (held_by rushes g o 0) (held_by rushes h q 0) tt tt (first-places g h o q p))

-- ---- same count

module _ (g : Given) (o : List ℕ) (p : Passes g o) where
  -- the opening while it idles, with the verdict in the mark and the length held
  abbrev idle : ℕ → OpeningCbc
  idle k =
      record {
        words = zero_words;
        kept = zero_words;
        mac_key = g.keys.mac_key;
        enc_key = g.keys.enc_key;
        seq = g.seq;
        content_type = g.type;
        version = g.version;
        n = size g;
        total = T g;
        done = k;
        held = length_in g;
        pad_ok = accepted g;
        ended = false;
        answer = 0;
      }

  -- a step that idles
  step-idle : (k : ℕ) (x : List ℕ) → suc (suc k) < T g
      → rushes.step (idle (suc k)) g.r x ≡ (report (idle (suc (suc k))) Done 0 (suc (suc k)), x)
  unfolding changed
  step-idle k x h = rw (ne_eqb (suc k) 0 (suc-ne-zero k), add-one (suc k), lt-ltb (suc (suc k)) (T g) h)

  -- and the last
  step-last : (k : ℕ) (x : List ℕ) → suc (suc k) ≡ T g
      → rushes.step (idle (suc k)) g.r x
      ≡ (report (ended_with (size g) (T g) true (answer_in g)) (answer_in g) (length_in g) (T g), x)
  unfolding answer_in
  step-last k x e = rw (ne_eqb (suc k) 0 (suc-ne-zero k), add-one (suc k), le-ltb (suc (suc k)) (T g) (omega arith))

  -- it idles from step 1 to step T - 1
  idles : (k : ℕ) → suc k < T g → after_by rushes g o (suc k) ≡ (report (idle (suc k)) Done 0 (suc k), output_of g o)
  unfolding after_by started begun changed size
  idles zero h = rw (passes-checks p.checks)
  idles (suc k) h =
      ap (λ (y : Stepped × List ℕ). rushes.step y.0.opening g.r y.1) (idles k (omega arith)) ∙ step-idle k (output_of g o) h

  -- and answers with step T
  ends : (k : ℕ) → suc (suc k) ≡ T g → after_by rushes g o (suc (suc k))
      ≡ (report (ended_with (size g) (T g) true (answer_in g)) (answer_in g) (length_in g) (T g), output_of g o)
  unfolding after_by
  ends k e = ap (λ (y : Stepped × List ℕ). rushes.step y.0.opening g.r y.1) (idles k (omega arith)) ∙ step-last k (output_of g o) e

  -- which is the end of ours
  ends-alike : after_by rushes g o (T g) ≡ after_by ours g o (T g)
  unfolding total_steps output_of
  ends-alike =
      let n : suc (suc (T g - 2)) ≡ T g = omega arith in
      ap (after_by rushes g o) (sym n) ∙ ends (T g - 2) n ∙ rw (passes-checks p.checks) (sym (at-end g o p))

  -- before it the steps done are counted
  counts-alike : (k : ℕ) → k < T g → ((place_after rushes g o k).ended ≡ false) × ((after_by rushes g o k).0.count ≡ k)
  unfolding after_by SameCount
  counts-alike zero h = ((same_count g o p).not_before 0 h, (same_count g o p).count 0 (omega arith))
  counts-alike (suc k) h = (
    ap (λ (y : Stepped × List ℕ). y.0.opening.ended) (idles k h),
    ap (λ (y : Stepped × List ℕ). y.0.count) (idles k h),
  )

-- so it ends with step T and counts as ours does
pub rushes-same-count : SameCount rushes
unfolding SameCount
rushes-same-count g o p =
    record {
      ends = ap (λ (y : Stepped × List ℕ). y.0.opening.ended) (ends-alike g o p) ∙ (same_count g o p).ends;
      not_before = λ k h. (counts-alike g o p k h).0;
      count = λ k h. by k h (ltb k (T g)) refl;
    }
  where
    by : (k : ℕ) → k ≤ T g → (t : Bool) → ltb k (T g) ≡ t → (after_by rushes g o k).0.count ≡ k
    by k h true e = (counts-alike g o p k (ltb-true k (T g) e)).1
    by k h false e =
        let n : k ≡ T g = omega (arith, ltb-false k (T g) e) in
        rw (n, ends-alike g o p) ((same_count g o p).count (T g) (omega arith))

-- ---- refusals look alike

-- and its refusals look alike, since they are ours
pub rushes_refusals_alike : RefusalsAlike rushes
unfolding RefusalsAlike
rushes_refusals_alike g h o q p = rw (ends-alike g o p.first, ends-alike h q p.second) (refusals_alike g h o q p)
