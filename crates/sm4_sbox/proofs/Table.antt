-- A rule of a table from one test that computes: what holds at every entry holds at entry k. Assumes nothing.
use mathlib.Core.Bool.{Bool, true, false, ◌&&◌}
use mathlib.Core.List.{List, [], ◌∷◌}
use Prim.Native.Nat.{ℕ, zero, suc, ◌+◌, ◌<◌}
use native.Mathlib.Nat.{add-zero, add-suc, suc-add, zero-add, not-suc-le-zero, le_of_suc-le-suc}
use lib.Dec.{T}
use lib.ListN.{length, get_or}

-- the test: p of each entry and its place, the first place being i
abbrev pub every : (ℕ → ℕ → Bool) → ℕ → List ℕ → Bool
every p i [] = true
every p i (x ∷ l) = p i x && every p (suc i) l

-- both of two tests, from their conjunction
pub both : (a b : Bool) → T (a && b) → T a × T b
both true b t = (tt, t)
both false b t = absurd t

-- the rule at entry k of a table whose first place is i
every_from : (p : ℕ → ℕ → Bool) (i : ℕ) (l : List ℕ) → T (every p i l) → (k : ℕ) → k < length l
    → T (p (i + k) (get_or l k 0))
every_from p i [] t k h = absurd (not-suc-le-zero h)
every_from p i (x ∷ l) t zero h = rw (add-zero i) (both (p i x) (every p (suc i) l) t).0
every_from p i (x ∷ l) t (suc k) h =
    rw (add-suc i k, ← suc-add i k)
    (every_from p (suc i) l (both (p i x) (every p (suc i) l) t).1 k (le_of_suc-le-suc h))

-- the rule at entry k
pub at_entry : (p : ℕ → ℕ → Bool) (l : List ℕ) → T (every p 0 l) → (k : ℕ) → k < length l → T (p k (get_or l k 0))
at_entry p l t k h = rw zero-add at (every_from p 0 l t k h)
