-- The steps of a record by its size answer. Assumes nothing.
use mathlib.Core.Bool.{Bool, true, false, cond}
use mathlib.Core.Path.{◌≡◌, refl, sym}
use Prim.Native.Nat.{ℕ, ◌-◌, ◌%◌, ◌≤◌, ◌<◌}
use native.Mathlib.Omega.{arith}
use borrow.Author.Tests.{ne_eqb}
use lib.Dec.{eqb, ltb}
use Rattle.std.specs.Prelude.{Result, Ok, Err}
use Rattle.std.specs.Result.{result_unwrap_or}
use Rattle.answers.specs.Answers.{Done, Short, Ragged, TooBig, number, number_of}
use Rattle.answers.specs.declared.Refusal.{Refusal}
use Rattle.record.specs.Limits.{iv_len}
use Rattle.sizes.specs.Sizes.{min_record, max_body, size_answer, total_steps}
use Rattle.sizes.proofs.Passed.{passed, number_refuses}
use Rattle.lines.specs.Judgement.{size_refusal, steps_of}

-- a size answer is 0, or 3 to 5
size_figures : (r : ℕ) → (size_answer r ≤ 5) × (0 < size_answer r → 3 ≤ size_answer r)
unfolding size_answer
size_figures r = by (ltb r min_record) (eqb ((r - iv_len) % 16) 0) (ltb max_body (r - iv_len))
  where
    by : (s t u : Bool) → (cond s Short (cond t (cond u TooBig Done) Ragged) ≤ 5)
        × (0 < cond s Short (cond t (cond u TooBig Done) Ragged) → 3 ≤ cond s Short (cond t (cond u TooBig Done) Ragged))
    by true t u = (omega arith, λ h. omega arith)
    by false true true = (omega arith, λ h. omega arith)
    by false true false = (omega arith, λ h. omega arith)
    by false false u = (omega arith, λ h. omega arith)

-- the refusal with that number is the definition's
size_refused : (why : Refusal) (n : ℕ) → number why ≡ n → n ≤ 5 → (0 < n → 3 ≤ n) → size_refusal n ≡ why
size_refused Refusal.Short n e h i = rw (← e)
size_refused Refusal.Ragged n e h i = rw (← e)
size_refused Refusal.TooBig n e h i = rw (← e)
size_refused Refusal.TooLong n e h i = absurd (omega arith)
size_refused Refusal.NoRoom n e h i = absurd (omega arith)
size_refused Refusal.BadRecord n e h i = absurd (omega arith)
size_refused Refusal.BadState n e h i = absurd (omega arith)
size_refused Refusal.Ended n e h i = absurd (omega arith)
size_refused Refusal.WrongSize n e h i = absurd (omega arith)

-- a record whose size is refused
pub steps_of-refused : (why : Refusal) (r : ℕ) → number why ≡ size_answer r → steps_of r ≡ Err why
unfolding steps_of
steps_of-refused why r e =
    let figures = size_figures r in
    rw (size_refused why (size_answer r) e figures.0 figures.1, ← e, ne_eqb (number why) Done (number_refuses why))

-- one whose size is not has an IV
pub record_long : (r : ℕ) → Done ≡ size_answer r → 16 ≤ r
record_long r e = omega (arith, (passed r (sym e)).0)

-- and its steps are T
pub steps_of-passed : (r : ℕ) → Done ≡ size_answer r → steps_of r ≡ Ok (total_steps (r - iv_len))
unfolding steps_of
steps_of-passed r e = rw (← e)

-- ---- the two numbers of what is said

-- the size answer by its three tests
abbrev size_by : Bool → Bool → Bool → ℕ
size_by s t u = cond s Short (cond t (cond u TooBig Done) Ragged)

-- and the steps by the answer
abbrev steps_by : ℕ → ℕ → Result ℕ Refusal
steps_by r n = cond (eqb n Done) (Ok (total_steps (r - iv_len))) (Err (size_refusal n))

-- both at once: the answer, and T or 0
steps-values : (r : ℕ)
    → (number_of (steps_of r) ≡ size_answer r)
    × (result_unwrap_or (steps_of r) 0 ≡ cond (eqb (size_answer r) Done) (total_steps (r - iv_len)) 0)
unfolding steps_of size_answer
steps-values r = by (ltb r min_record) (eqb ((r - iv_len) % 16) 0) (ltb max_body (r - iv_len))
  where
    by : (s t u : Bool)
        → (number_of (steps_by r (size_by s t u)) ≡ size_by s t u)
        × (result_unwrap_or (steps_by r (size_by s t u)) 0 ≡ cond (eqb (size_by s t u) Done) (total_steps (r - iv_len)) 0)
    by true t u = (refl, refl)
    by false true true = (refl, refl)
    by false true false = (refl, refl)
    by false false u = (refl, refl)

-- the number of the steps' result is the size answer
pub number-steps : (r : ℕ) → number_of (steps_of r) ≡ size_answer r
number-steps r = (steps-values r).0

-- and its value, 0 for a refusal, is the total
pub total-steps : (r : ℕ) → result_unwrap_or (steps_of r) 0 ≡ cond (eqb (size_answer r) Done) (total_steps (r - iv_len)) 0
total-steps r = (steps-values r).1

-- what the proof of `sized_line` cites
pub ruleset said = (number-steps, total-steps)

-- what the proof of `steps_of` cites
pub ruleset sizing = (steps_of-refused, steps_of-passed, record_long)
