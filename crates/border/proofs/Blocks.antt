-- One block of SM4 at the border, whichever way it goes: what the test of its sizes says, and a block laid over room for
-- just a block. Assumes nothing.
use mathlib.Core.Bool.{Bool, true, false, cond}
use mathlib.Core.List.{List}
use mathlib.Core.Path.{◌≡◌, sym, ◌∙◌}
use Prim.Native.Nat.{ℕ}
use lib.ListN.{length}
use Rattle.border.specs.Border.{key_size, block_size, block_sizes}
use Rattle.border.proofs.Sizes.{block-long}

-- every size is right
pub record Right (key block out : List ℕ) : Type 0 where
  pub sizes : block_sizes key block out ≡ true
  pub long : (length key ≡ key_size) × (length block ≡ block_size) × (length out ≡ block_size)

-- t is what the test said
module _ {t : Bool} (key block out : List ℕ) (e : t ≡ block_sizes key block out) where
  -- it failed: a size is not right
  pub failed : t ≡ false → block_sizes key block out ≡ false
  failed n = sym e ∙ n

  -- it held: every size is right
  pub passed : t ≡ true → Right key block out
  passed n = let w = sym e ∙ n in record { sizes = w; long = block-long key block out w }

-- what was put there is all there is
pub laid : {key block out y out' : List ℕ} → Right key block out → out' ≡ y → out' ≡ cond (block_sizes key block out) y out
laid s e = rw s.sizes e
