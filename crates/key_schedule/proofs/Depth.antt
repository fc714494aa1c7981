-- How deep p_sm3 goes: a call for each block, so at most 32. Assumes nothing.
use mathlib.Core.Path.{◌≡◌}
use Prim.Native.Nat.{ℕ, suc, ◌-◌, ◌*◌, ◌≤◌, ◌<◌}
use native.Mathlib.Omega.{arith}
use Rattle.key_schedule.specs.Sizes.{Asked}
use Rattle.key_schedule.specs.Standard.{blocks}

-- where more than a block is asked for, what remains takes one call less
pub blocks_more : (n : ℕ) → 32 < n → blocks n ≡ suc (blocks (n - 32))
blocks_more n h = omega arith

-- ONE TO 32. What a call is asked for takes 1 to 32 blocks: its measure, which every call that it makes of itself lowers.
pub one-to-32 : (n : ℕ) → Asked n → (1 ≤ blocks n) × (blocks n ≤ 32)
one-to-32 n a = (omega arith, omega arith)

-- up to 32 bytes take one
pub blocks_some : (n : ℕ) → 0 < n → n ≤ 32 → blocks n ≡ 1
blocks_some n h k = omega arith

-- the blocks have the bytes
pub blocks_enough : (n : ℕ) → n ≤ blocks n * 32
blocks_enough n = omega arith
