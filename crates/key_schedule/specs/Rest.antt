-- P_hash from the middle: what the blocks from A(i) on come to. Assumes nothing.
use Rattle.std.specs.Prelude.{List, ◌++◌, ℕ, take}
use Rattle.words.specs.Lists.{join}
use Rattle.key_schedule.specs.Standard.{A, blocks}

-- block j of those that start with A(i) = a
unfoldable pub block_from : (List ℕ → List ℕ → List ℕ) → List ℕ → List ℕ → List ℕ → ℕ → List ℕ
block_from M secret seed a j = M secret (A M secret a j ++ seed)

-- n bytes of them
unfoldable pub rest : (List ℕ → List ℕ → List ℕ) → List ℕ → List ℕ → List ℕ → ℕ → List ℕ
rest M secret seed a n = take n (join (blocks n) (block_from M secret seed a))
