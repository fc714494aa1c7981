-- Any machine of steps: a state, a step that always gives a state, and what of a state can be seen from outside, its place; its runs,
-- and the loops over its steps. Assumes nothing.
use Rattle.std.specs.Prelude.{Bool, true, false, cond, ◌≡◌, ℕ, zero, suc, ◌<◌}

pub record Machine (State Place : Type 0) : Type 0 where
  pub step : State → State
  pub place : State → Place
  pub ended : Place → Bool

module _ {State Place : Type 0} (M : Machine State Place) where
  -- k steps
  unfoldable pub run : State → ℕ → State
  run s zero = s
  run s (suc k) = M.step (run s k)

  -- states from which a step leads to such a state, at the place that follows from this place
  pub record Keeps (Good : State → Type 0) (next : Place → Place) : Type 0 where
    pub good : (s : State) → Good s → Good (M.step s)
    pub moves : (s : State) → Good s → M.place (M.step s) ≡ next (M.place s)

  -- two runs are at the same place after every number of steps
  unfoldable pub SamePlaces : State → State → Type 0
  SamePlaces s t = (k : ℕ) → M.place (run s k) ≡ M.place (run t k)

  -- a run ends with step T, and not before
  unfoldable pub EndsAt : State → ℕ → Type 0
  EndsAt s T = (M.ended (M.place (run s T)) ≡ true) × ((k : ℕ) → k < T → M.ended (M.place (run s k)) ≡ false)

  -- a loop of so many turns, each on what the last one left
  unfoldable pub loop : ℕ → State → State
  loop zero s = s
  loop (suc k) s = loop k (M.step s)

  -- a loop until the place says that it has ended, of so many turns at most: the last state, and how many turns were made
  unfoldable pub until : ℕ → State → State × ℕ
  until zero s = (s, 0)
  until (suc most) s = cond (M.ended (M.place s)) (s, 0) ((until most (M.step s)).0, suc (until most (M.step s)).1)
