-- Any machine of steps whose next place follows from this place, at the states that its runs reach: two runs from one place never
-- part, and a loop of steps takes the same number of turns. Assumes nothing.
use mathlib.Core.Path.{◌≡◌, refl, sym, ap, ◌∙◌}
use Prim.Native.Nat.{ℕ, zero, suc, ◌≤◌}
use native.Mathlib.Omega.{arith}
use Rattle.demands.specs.Machine.{Machine, run, Keeps, SamePlaces, EndsAt, loop, until}

module _ {State Place : Type 0} (M : Machine State Place) where
  -- ---- lockstep

  -- a run from a good state is through good states
  pub stays-good : {Good : State → Type 0} {next : Place → Place} → Keeps M Good next → (s : State) → Good s → (k : ℕ) → Good (run M s k)
  unfolding run
  stays-good l s a zero = a
  stays-good l s a (suc k) = l.good (run M s k) (stays-good l s a k)

  -- LOCKSTEP. Two runs from good states at one place are at the same place after every number of steps.
  pub lockstep : {Good : State → Type 0} {next : Place → Place} → Keeps M Good next → (s t : State) → Good s → Good t
      → M.place s ≡ M.place t → SamePlaces M s t
  unfolding run SamePlaces
  lockstep l s t a b e zero = e
  lockstep {next = next} l s t a b e (suc k) =
      l.moves (run M s k) (stays-good l s a k) ∙ ap next (lockstep l s t a b e k) ∙ sym (l.moves (run M t k) (stays-good l t b k))

  -- STUCK. A state that a step leaves as it is stays for ever.
  pub stuck : (s : State) → M.step s ≡ s → (k : ℕ) → run M s k ≡ s
  unfolding run
  stuck s e zero = refl
  stuck s e (suc k) = ap M.step (stuck s e k) ∙ e

  -- ---- loops

  -- a step first or a step last
  pub step-first : (s : State) (k : ℕ) → run M (M.step s) k ≡ run M s (suc k)
  unfolding run
  step-first s zero = refl
  step-first s (suc k) = ap M.step (step-first s k)

  -- THE LOOP. A loop of k turns is a run of k steps.
  pub loop_is_run : (k : ℕ) (s : State) → loop M k s ≡ run M s k
  unfolding loop run
  loop_is_run zero s = refl
  loop_is_run (suc k) s = loop_is_run k (M.step s) ∙ step-first s k

  -- ONE CALL. Loops whose number of turns is read off their first place: from two states in lockstep they take the same number of
  -- turns and end at the same place.
  pub same_call : (turns : Place → ℕ) (s t : State) → SamePlaces M s t
      → (turns (M.place s) ≡ turns (M.place t)) × (M.place (loop M (turns (M.place s)) s) ≡ M.place (loop M (turns (M.place t)) t))
  unfolding SamePlaces run
  same_call turns s t p =
      let e = ap turns (p 0) in
      (e, rw (← e, loop_is_run (turns (M.place s)) s, loop_is_run (turns (M.place s)) t) (p (turns (M.place s))))

  -- UNTIL THE END. Where a run ends with step T, and not before, a loop until the end makes T turns, and leads there.
  pub until-ends : (most T : ℕ) (s : State) → T ≤ most → EndsAt M s T → until M most s ≡ (run M s T, T)
  unfolding until EndsAt run
  until-ends zero zero s h e = refl
  until-ends (suc most) zero s h e = rw e.0
  until-ends zero (suc T) s h e = absurd (omega arith)
  until-ends (suc most) (suc T) s h e =
      let on = until-ends most T (M.step s) (omega arith)
      (rw (step-first s T) e.0, λ k b. rw (step-first s k) (e.1 (suc k) (omega arith))) in
      rw (e.1 0 (omega arith), on, step-first s T)
