-- `cbc::block_at` meets its contract: the first 16 bytes of what is left from at on. Assumes nothing.
use mathlib.Core.List.{List}
use mathlib.Core.Path.{◌∙◌}
use Prim.Native.Nat.{ℕ, ◌-◌}
use native.Mathlib.Omega.{arith}
use lib.ListN.{length, drop}
use lib.Seq.{take-take}
use Rattle.cbc.proofs.block_at.Goals as goal

pub returns : goal.returns
returns c =
    let d : List ℕ = c.args.«data».now in
    let at : ℕ = c.args.at in
    let chunk = rw c.unwrap.ensures at c.first_chunk.ensures.cases in
    chunk.same ∙ take-take 16 (length d - at) (drop at d) (omega arith)
