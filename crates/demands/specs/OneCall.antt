-- The one call and the steps, over ANY stepper and opener: what the call reports and leaves is what the start and T steps report and
-- leave, and its loop makes those steps. Assumes nothing.
use Rattle.std.specs.Prelude.{List, ◌≡◌, ℕ, ◌≤◌, length}
use Rattle.sizes.specs.Sizes.{total_steps}
use Rattle.steps.specs.declared.OpeningCbc.{OpeningCbc}
use Rattle.opening.specs.Given.{Given, size}
use Rattle.demands.specs.Checks.{Openable, NotOpened}
use Rattle.demands.specs.Machine.{Machine, loop, until}
use Rattle.demands.specs.Openers.{Opener}
use Rattle.demands.specs.Steppers.{Stepper, after_by, told, Place, place_of, place_after, Passes, Pair}

-- ONE CALL. Where the checks pass, answer, length, count and output are those after the start and T steps; where they do not, those of
-- the start, and the output is as found.
pub record StartAndSteps (S : Stepper) (opens : Opener) (g : Given) (o : List ℕ) : Type 0 where
  pub opened : Openable (length g.r) (length o)
      → opens g o ≡ (told (after_by S g o (total_steps (size g))).0, (after_by S g o (total_steps (size g))).1)
  pub refused : (answer : ℕ) → NotOpened (length g.r) (length o) answer → opens g o ≡ (told (S.start g (length o)), o)

unfoldable pub OneCall : Stepper → Opener → Type 0
OneCall S opens = (g : Given) (o : List ℕ) → length g.version ≡ 2 → StartAndSteps S opens g o

-- ---- loops of steps

-- what a caller holds between two steps: opening, record and output
pub record Held : Type 0 where
  pub opening : OpeningCbc
  pub r : List ℕ
  pub out : List ℕ

-- a stepper as a machine: a step hands back opening and output, the record stays
abbrev pub machine : Stepper → Machine Held Place
machine S =
    record {
      step = λ x.
          let y = S.step x.opening x.r x.out in
          record { opening = y.0.opening; r = x.r; out = y.1 };
      place = λ x. place_of x.opening;
      ended = λ p. p.ended;
    }

-- what is held after the start and k steps
abbrev pub held_by : Stepper → Given → List ℕ → ℕ → Held
held_by S g o k = record { opening = (after_by S g o k).0.opening; r = g.r; out = (after_by S g o k).1 }

-- ITS LOOP. As many turns as the start's opening says in all lead to what is held after T steps.
unfoldable pub LoopIsSteps : Stepper → Type 0
LoopIsSteps S =
    (g : Given) (o : List ℕ) → Passes g o
    → loop (machine S) (place_after S g o 0).total (held_by S g o 0) ≡ held_by S g o (total_steps (size g))

-- UNTIL THE END. A loop that looks at the ended mark alone makes T turns, and leads there too.
unfoldable pub UntilIsSteps : Stepper → Type 0
UntilIsSteps S =
    (g : Given) (o : List ℕ) → Passes g o → (most : ℕ) → total_steps (size g) ≤ most
    → until (machine S) most (held_by S g o 0) ≡ (held_by S g o (total_steps (size g)), total_steps (size g))

-- TWO CALLS. For records of equal length the loop makes the same number of turns and ends at the same place.
unfoldable pub SameTurns : Stepper → Type 0
SameTurns S =
    (g h : Given) (o q : List ℕ) → Pair g h o q
    → let s = held_by S g o 0 in
    let t = held_by S h q 0 in
    let n = (place_after S g o 0).total in
    let m = (place_after S h q 0).total in
    (n ≡ m) × (place_of (loop (machine S) n s).opening ≡ place_of (loop (machine S) m t).opening)
