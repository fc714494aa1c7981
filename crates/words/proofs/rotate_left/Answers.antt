-- `words::rotate_left` meets its contract: the two shifts share no digit, so `|` adds them; by 0 both are x. Assumes nothing.
use Rattle.std.proofs.Common.{◌≡◌, ℕ, zero, suc, ◌-◌, ◌*◌, ◌/◌, ◌%◌, ◌^◌, ◌<◌, sym, ◌∙◌, arith}
use lib.Bits.{bit_or, or_self}
use Rattle.words.specs.Word.{◌⋘◌}
use Rattle.words.proofs.Word.{rotl-or, rotl-zero}
use Rattle.words.proofs.rotate_left.Goals as goal

-- the two shifts, by 0 too
shifts : (x k : ℕ) → x < 2 ^ 32 → k < 32 → bit_or (x * 2 ^ k % 2 ^ 32) (x / 2 ^ ((32 - k) % 32)) ≡ x ⋘ k
shifts x zero h b =
    let e : x * 2 ^ 0 % 2 ^ 32 ≡ x = omega arith in
    let d : x / 2 ^ 0 ≡ x = omega arith in
    rw (e, d) (or_self x ∙ sym (rotl-zero x h))
shifts x (suc k) h b =
    let e : (32 - suc k) % 32 ≡ 32 - suc k = omega arith in
    rw e (rotl-or x (suc k) (32 - suc k) (omega arith) h)

pub returns : goal.returns
returns c = c.rotate_left.ensures ∙ shifts c.args.x (c.args.n % 32) c.ranges.x.fits (omega arith)
