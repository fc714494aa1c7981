-- Our machine where an accepted start leads: at the closed form after every step, so that the next place follows from this place.
-- Assumes nothing.
use mathlib.Core.Bool.{Bool, true, false, cond}
use mathlib.Core.List.{List}
use mathlib.Core.Path.{◌≡◌, refl, sym, ap, ap₂, ◌∙◌}
use Prim.Native.Nat.{ℕ, zero, suc, ◌≤◌, ◌<◌}
use native.Mathlib.Omega.{arith}
use borrow.Author.Tests.{ltb-true, ltb-false}
use lib.Dec.{ltb}
use Rattle.sizes.specs.Sizes.{total_steps}
use Rattle.steps.specs.declared.Stepped.{Stepped}
use Rattle.steps.specs.State.{ended_with}
use Rattle.opening.specs.Closed.{running, report_after, out_after, after}
use Rattle.opening.specs.Given.{Given, size}
use Rattle.opening.proofs.Closed.{goes_on, closed_form}
use Rattle.opening.proofs.Fits.{fits}
use Rattle.opening.proofs.Turn.{report_before, report-end}
use Rattle.demands.specs.Machine.{Keeps, SamePlaces}
use Rattle.demands.specs.OneCall.{Held, machine, held_by}
use Rattle.demands.specs.Steppers.{ours, after_by, Place, place_of, place_after, Passes, Pair}
use Rattle.demands.proofs.Checks.{passes-checks}
use Rattle.demands.proofs.Machine.{lockstep}
use Rattle.demands.proofs.Stepping.{ended-stays}

-- the steps are those of the definitions
ours_is_after : (g : Given) (o : List ℕ) (k : ℕ) → after_by ours g o k ≡ after g o k
unfolding after_by after
ours_is_after g o zero = refl
ours_is_after g o (suc k) = rw (ours_is_after g o k)

-- which lead to the closed form
pub as_defined : (g : Given) (o : List ℕ) → Passes g o → (k : ℕ) → k ≤ total_steps (size g)
    → after_by ours g o k ≡ (report_after g k, out_after g o k)
as_defined g o p k h = ours_is_after g o k ∙ closed_form g o p.version (passes-checks p.checks) k h

-- ---- places

-- while it runs, and when it has ended
abbrev pub runs : ℕ → ℕ → Place
runs n k = record { done = k; n = n; total = total_steps n; ended = false }

abbrev pub over : ℕ → Place
over n = record { done = 0; n = n; total = total_steps n; ended = true }

-- the place that follows
next : Place → Place
next p =
    cond p.ended p
    (cond (ltb (suc p.done) p.total)
    (record { done = suc p.done; n = p.n; total = p.total; ended = false })
    (record { done = 0; n = p.n; total = p.total; ended = true }))

-- opening, record and output of the closed form
abbrev closed : Given → List ℕ → ℕ → Held
closed g o k = record { opening = (report_after g k).opening; r = g.r; out = out_after g o k }

module _ (g : Given) where
  -- the number of steps
  abbrev pub T : ℕ
  T = total_steps (size g)

  -- the place before step T is that of a run
  pub place-runs : (k : ℕ) → k < T → place_of (report_after g k).opening ≡ runs (size g) k
  unfolding running
  place-runs k h = rw (report_before g k h)

  -- and after it that of an end
  pub place-over : place_of (report_after g T).opening ≡ over (size g)
  unfolding ended_with
  place-over = rw (report-end g)

module _ (g : Given) (o : List ℕ) (p : Passes g o) where
  -- a step before T leads on in the closed form
  step_on : (k : ℕ) → k < T g → (machine ours).step (closed g o k) ≡ closed g o (suc k)
  step_on k h =
      let t = goes_on g (fits g o p.version (passes-checks p.checks)) k h in
      ap₂ (λ (s : Stepped) (x : List ℕ). record { opening = s.opening; r = g.r; out = x }) t.0 t.1

  -- a step after T changes nothing
  step-over : (machine ours).step (closed g o (T g)) ≡ closed g o (T g)
  step-over = ended-stays (closed g o (T g)) (ap (λ (q : Place). q.ended) (place-over g))

  -- a step before T leads to the place that follows
  place_on : (k : ℕ) → k < T g → place_of (report_after g (suc k)).opening ≡ next (place_of (report_after g k).opening)
  unfolding next
  place_on k h = rw (place-runs g k h) (by (ltb (suc k) (T g)) refl)
    where
      by : (t : Bool) → ltb (suc k) (T g) ≡ t → place_of (report_after g (suc k)).opening ≡ next (runs (size g) k)
      by true e = rw (e, place-runs g (suc k) (ltb-true (suc k) (T g) e))
      by false e =
          let n : suc k ≡ T g = omega (arith, ltb-false (suc k) (T g) e) in
          rw (e, n, place-over g)

  -- and so does one after it
  place-stays : place_of (report_after g (T g)).opening ≡ next (place_of (report_after g (T g)).opening)
  unfolding next
  place-stays = rw (place-over g)

-- reached from an accepted start
record Reached (x : Held) : Type 0 where
  g : Given
  o : List ℕ
  passes : Passes g o
  k : ℕ
  within : k ≤ total_steps (size g)
  is : x ≡ closed g o k

-- a step leads from there to there, and to the place that follows
keeps-at : (g : Given) (o : List ℕ) → Passes g o → (k : ℕ) → k ≤ T g
    → Reached ((machine ours).step (closed g o k))
    × (place_of ((machine ours).step (closed g o k)).opening ≡ next (place_of (report_after g k).opening))
keeps-at g o p k h = by (ltb k (T g)) refl
  where
    by : (t : Bool) → ltb k (T g) ≡ t
        → Reached ((machine ours).step (closed g o k))
        × (place_of ((machine ours).step (closed g o k)).opening ≡ next (place_of (report_after g k).opening))
    by true e =
        let b = ltb-true k (T g) e in (
          record { g = g; o = o; passes = p; k = suc k; within = b; is = step_on g o p k b },
          ap (machine ours).place (step_on g o p k b) ∙ place_on g o p k b,
        )
    by false e =
        let n : k ≡ T g = omega (arith, ltb-false k (T g) e) in
        rw n (
          record { g = g; o = o; passes = p; k = T g; within = omega arith; is = step-over g o p },
          ap (machine ours).place (step-over g o p) ∙ place-stays g o p,
        )

-- so the states reached are kept, and the next place follows from this place
keeps : Keeps (machine ours) Reached next
keeps =
    record {
      good = λ x a. rw a.is (keeps-at a.g a.o a.passes a.k a.within).0;
      moves = λ x a. rw a.is (keeps-at a.g a.o a.passes a.k a.within).1;
    }

-- an accepted start is the closed form before the first step
starts : (g : Given) (o : List ℕ) → Passes g o → held_by ours g o 0 ≡ closed g o 0
starts g o p =
    ap (λ (y : Stepped × List ℕ). record { opening = y.0.opening; r = g.r; out = y.1 }) (as_defined g o p 0 (omega arith))

-- so it is reached
reached : (g : Given) (o : List ℕ) → Passes g o → Reached (held_by ours g o 0)
reached g o p = record { g = g; o = o; passes = p; k = 0; within = omega arith; is = starts g o p }

-- at a place that follows from n
pub at_first : (g : Given) (o : List ℕ) → Passes g o → place_after ours g o 0 ≡ runs (size g) 0
unfolding total_steps
at_first g o p = ap (machine ours).place (starts g o p) ∙ place-runs g 0 (omega arith)

-- n follows from the record's length
pub same_size : (g h : Given) (o q : List ℕ) → Pair g h o q → size g ≡ size h
unfolding size
same_size g h o q p = omega (arith, p.equal)

-- so the first places agree for records of equal length
pub first-places : (g h : Given) (o q : List ℕ) → Pair g h o q → place_after ours g o 0 ≡ place_after ours h q 0
first-places g h o q p = at_first g o p.first ∙ rw (same_size g h o q p) (sym (at_first h q p.second))

-- and from there the two go in lockstep
pub in_lockstep : (g h : Given) (o q : List ℕ) → Pair g h o q → SamePlaces (machine ours) (held_by ours g o 0) (held_by ours h q 0)
in_lockstep g h o q p =
    lockstep (machine ours) keeps (held_by ours g o 0) (held_by ours h q 0) (reached g o p.first) (reached h q p.second) (first-places g h o q p)
