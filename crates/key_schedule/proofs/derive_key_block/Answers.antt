-- `key_schedule::derive_key_block` meets its contract: a refusal where a length is not right, else the PRF. Assumes nothing.
use Rattle.std.proofs.Common.{◌≡◌, true, false, length, sym, ◌∙◌, ⊎_elim, arith}
use Rattle.std.proofs.lemmas.Bool.{lt-leb}
use borrow.Author.Tests.{le-leb}
use lib.Dec.{leb}
use Rattle.words.proofs.Tests.{left_fails, right_fails}
use Rattle.key_schedule.specs.Sizes.{max_key_block, inputs_right, key_block_sizes}
use Rattle.key_schedule.specs.Standard.{key_block}
use Rattle.key_schedule.proofs.Sizes.{inputs-lengths}
use Rattle.key_schedule.proofs.derive_key_block.Goals as goal

-- either test of the code fails, and so does the definition's
pub returns-then-not-inputs_right : goal.returns-then-not-inputs_right
unfolding key_block_sizes
returns-then-not-inputs_right c =
    let a = c.args in
    let i = inputs_right a.master_secret.now a.client_random.now a.server_random.now in
    let o = leb (length a.out.now) max_key_block in
    let wrong : key_block_sizes a.master_secret.now a.client_random.now a.server_random.now a.out.now ≡ false =
    ⊎_elim (λ h. left_fails i o (sym c.inputs_right.ensures ∙ h))
    (λ h. right_fails i o (lt-leb (length a.out.now) max_key_block h.1))
    c.then-not-inputs_right.either in
    record { result = rw wrong; output = rw wrong }

-- inputs that pass are short
pub invariant_of-expansion : goal.invariant_of-expansion
invariant_of-expansion c =
    let n = inputs-lengths _ _ _ (sym c.inputs_right.ensures ∙ c.if-not-inputs_right.false) in
    record {
      small = record { secret-small = omega arith; label_small = omega arith; first_small = omega arith; second-small = omega arith };
    }

-- neither fails, so the definition's test holds
pub returns : goal.returns
unfolding key_block key_block_sizes
returns c =
    let a = c.args in
    let inputs : inputs_right a.master_secret.now a.client_random.now a.server_random.now ≡ true =
    sym c.inputs_right.ensures ∙ c.if-not-inputs_right.false in
    let right : key_block_sizes a.master_secret.now a.client_random.now a.server_random.now a.out.now ≡ true =
    rw inputs (le-leb (length a.out.now) max_key_block c.if-out-gt-MAX_KEY_BLOCK.false) in
    record { result = rw right; output = rw right c.prf.ensures }
