-- Numbers 0 or 1 for a test, and a choice by one. Assumes nothing.
use Rattle.std.specs.Prelude.{ℕ, ◌%◌, Bool, cond, ◌==◌}

-- a test as a number
abbrev pub bit : Bool → ℕ
bit b = cond b 1 0

-- b where the lowest bit of the choice is 1, else a
unfoldable pub chosen : {A : Type 0} → ℕ → A → A → A
chosen choice a b = cond (choice % 2 == 1) b a
