-- Rounds done in parts are the rounds. Assumes nothing.
use mathlib.Core.List.{List}
use mathlib.Core.Path.{◌≡◌, refl, sym, ap, ◌∙◌}
use Prim.Native.Nat.{ℕ, zero, suc, ◌+◌, ◌*◌}
use native.Mathlib.Nat.{add-zero, add-suc}
use native.Mathlib.Omega.{arith}
use Rattle.sm3_compress.specs.Rounds.{rounds_from}
use Rattle.sm3_compress.specs.Standard.{at, round, rounds}

-- one round more: round j is the one behind the first n from s on
round-more : (w w' v₀ v r : List ℕ) (s n m j : ℕ) → j ≡ s + n → m ≡ suc n → v ≡ rounds_from w w' s n v₀
    → r ≡ round j v (at w j) (at w' j) → r ≡ rounds_from w w' s m v₀
unfolding rounds_from
round-more w w' v₀ v r s n m j place count before turn =
    turn
    ∙ ap (λ (q : List ℕ). round j q (at w j) (at w' j)) before
    ∙ ap (λ (k : ℕ). round k (rounds_from w w' s n v₀) (at w k) (at w' k)) place
    ∙ ap (λ (k : ℕ). rounds_from w w' s k v₀) (sym count)

-- four rounds more, each on what the one before it left: a turn of either loop
pub four-more : (w w' v₀ v v1 v2 v3 v4 : List ℕ) (s i j : ℕ) → j ≡ s + i * 4 → v ≡ rounds_from w w' s (i * 4) v₀
    → v1 ≡ round j v (at w j) (at w' j)
    → v2 ≡ round (j + 1) v1 (at w (j + 1)) (at w' (j + 1))
    → v3 ≡ round (j + 2) v2 (at w (j + 2)) (at w' (j + 2))
    → v4 ≡ round (j + 3) v3 (at w (j + 3)) (at w' (j + 3))
    → v4 ≡ rounds_from w w' s ((i + 1) * 4) v₀
four-more w w' v₀ v v1 v2 v3 v4 s i j place before e1 e2 e3 e4 =
    let n = i * 4 in
    let d1 = round-more w w' v₀ v v1 s n (n + 1) j (omega arith) (omega arith) before e1 in
    let d2 = round-more w w' v₀ v1 v2 s (n + 1) (n + 2) (j + 1) (omega arith) (omega arith) d1 e2 in
    let d3 = round-more w w' v₀ v2 v3 s (n + 2) (n + 3) (j + 2) (omega arith) (omega arith) d2 e3 in
    round-more w w' v₀ v3 v4 s (n + 3) ((i + 1) * 4) (j + 3) (omega arith) (omega arith) d3 e4

-- n rounds behind the first s are the first s + n
pub rounds_from_lem : (w w' v : List ℕ) (s n : ℕ) → rounds_from w w' s n (rounds w w' s v) ≡ rounds w w' (s + n) v
unfolding rounds_from rounds
rounds_from_lem w w' v s zero = rw (add-zero s) refl
rounds_from_lem w w' v s (suc n) =
    rw (add-suc s n) (ap (λ (q : List ℕ). round (s + n) q (at w (s + n)) (at w' (s + n))) (rounds_from_lem w w' v s n))
