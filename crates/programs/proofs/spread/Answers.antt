-- `programs::spread` meets its contract: the byte behind byte i is a step on. Assumes nothing.
use Rattle.std.proofs.Common.{◌≡◌, ℕ, ◌+◌, ◌%◌, ◌^◌, refl, mul-zero, mul-one, mul-add, arith}
use Rattle.words.specs.Lists.{table}
use Rattle.words.proofs.Lists.{table_more}
use Rattle.programs.specs.Rule.{byte}
use Rattle.programs.proofs.spread.Goals as goal

-- the byte behind byte i
byte_more : (step first i x : ℕ) → x ≡ byte step first i → (x + step) % 2 ^ 8 ≡ byte step first (i + 1)
unfolding byte
byte_more step first i x e = rw (mul-add step i 1, mul-one step) (omega arith)

pub loop-byte-init : goal.loop-byte-init
unfolding byte table
loop-byte-init c = (rw (mul-zero c.args.step) (omega arith), refl)

pub loop-byte-preserved : goal.loop-byte-preserved
loop-byte-preserved c =
    let a = c.args in
    let l = c.loop-byte in
    let next = byte_more a.step a.first l.byte-index l.x l.invariant.0 in
    (next, table_more _ _ _ _ (omega arith) l.invariant.0 l.invariant.1)
