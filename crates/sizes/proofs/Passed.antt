-- What the size tests say of a record that passes them. Assumes nothing.
use mathlib.Core.Bool.{Bool, true, false, cond, ◌&&◌, false≢true}
use mathlib.Core.Path.{◌≡◌, refl}
use Prim.Native.Nat.{ℕ, ◌+◌, ◌-◌, ◌%◌, ◌≤◌, ◌<◌}
use native.Mathlib.Omega.{arith}
use borrow.Author.Tests.{ltb-false, eqb-true, leb-true, le-leb, eq-eqb}
use lib.Dec.{eqb, leb, ltb}
use Rattle.answers.specs.Answers.{Done, Short, Ragged, TooBig, number}
use Rattle.answers.specs.declared.Refusal.{Refusal}
use Rattle.sizes.specs.Sizes.{size_answer, allowed, mac_steps, total_steps}

-- a refusal's number is not that of done
pub number_refuses : (why : Refusal) → number why ≡ Done → ⊥
number_refuses Refusal.TooLong e = absurd (omega arith)
number_refuses Refusal.NoRoom e = absurd (omega arith)
number_refuses Refusal.Short e = absurd (omega arith)
number_refuses Refusal.Ragged e = absurd (omega arith)
number_refuses Refusal.TooBig e = absurd (omega arith)
number_refuses Refusal.BadRecord e = absurd (omega arith)
number_refuses Refusal.BadState e = absurd (omega arith)
number_refuses Refusal.Ended e = absurd (omega arith)
number_refuses Refusal.WrongSize e = absurd (omega arith)

-- a body's length that is allowed: 48 to 16,432, in whole blocks
pub record Allowed (n : ℕ) : Type 0 where
  pub least : 48 ≤ n
  pub most : n ≤ 16432
  pub whole : n % 16 ≡ 0

-- what the test says
pub allowed_facts : (n : ℕ) → allowed n ≡ true → Allowed n
unfolding allowed
allowed_facts n e = go (leb 48 n) refl (leb n 16432) refl (eqb (n % 16) 0) refl e
  where
    go : (a : Bool) → leb 48 n ≡ a → (b : Bool) → leb n 16432 ≡ b → (c : Bool) → eqb (n % 16) 0 ≡ c → (a && (b && c)) ≡ true → Allowed n
    go true f true g true h _ = record { least = leb-true 48 n f; most = leb-true n 16432 g; whole = eqb-true (n % 16) 0 h }
    go true f true g false h z = absurd (false≢true z)
    go true f false g c h z = absurd (false≢true z)
    go false f b g c h z = absurd (false≢true z)

-- and what makes it hold
pub facts_allowed : (n : ℕ) → Allowed n → allowed n ≡ true
unfolding allowed
facts_allowed n a = rw (le-leb 48 n a.least, le-leb n 16432 a.most, eq-eqb (n % 16) 0 a.whole)

-- a record that is not refused for its size has an IV and an allowed body
pub passed : (r : ℕ) → size_answer r ≡ Done → (r ≡ r - 16 + 16) × Allowed (r - 16)
unfolding size_answer
passed r e = go (ltb r 64) refl (eqb ((r - 16) % 16) 0) refl (ltb 16432 (r - 16)) refl e
  where
    go : (a : Bool) → ltb r 64 ≡ a → (b : Bool) → eqb ((r - 16) % 16) 0 ≡ b → (c : Bool) → ltb 16432 (r - 16) ≡ c
        → cond a Short (cond b (cond c TooBig Done) Ragged) ≡ Done → (r ≡ r - 16 + 16) × Allowed (r - 16)
    go false f true g false h _ =
        (omega (arith, ltb-false r 64 f), record { least = omega (arith, ltb-false r 64 f); most = ltb-false 16432 (r - 16) h; whole = eqb-true ((r - 16) % 16) 0 g })
    go true f b g c h z = absurd (omega arith)
    go false f true g true h z = absurd (omega arith)
    go false f false g c h z = absurd (omega arith)

-- T is below 1,289 for every allowed length
pub total-small : (n : ℕ) → Allowed n → total_steps n < 1289
unfolding total_steps mac_steps
total-small n a = omega (arith, a.most)
