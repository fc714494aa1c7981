-- `key_schedule::derive_master_secret` meets its contract: a refusal where a length is not right, else the PRF. Assumes nothing.
use Rattle.std.proofs.Common.{◌≡◌, ◌++◌, true, false, length, sym, ap, ◌∙◌, ⊎_elim, arith, eq-eqb, ne_eqb}
use lib.Dec.{eqb}
use Rattle.words.proofs.Tests.{left_fails, right_fails}
use Rattle.key_schedule.specs.Sizes.{master_secret_len, inputs_right, master_secret_sizes}
use Rattle.key_schedule.specs.Standard.{master_secret_label, PRF, master_secret}
use Rattle.key_schedule.proofs.Sizes.{inputs-lengths}
use Rattle.key_schedule.proofs.derive_master_secret.Goals as goal

-- either test of the code fails, and so does the definition's
pub returns-then-not-inputs_right : goal.returns-then-not-inputs_right
unfolding master_secret_sizes
returns-then-not-inputs_right c =
    let a = c.args in
    let i = inputs_right a.pre_master.now a.client_random.now a.server_random.now in
    let o = eqb (length a.out.now) master_secret_len in
    let wrong : master_secret_sizes a.pre_master.now a.client_random.now a.server_random.now a.out.now ≡ false =
    ⊎_elim (λ h. left_fails i o (sym c.inputs_right.ensures ∙ h))
    (λ h. right_fails i o (ne_eqb (length a.out.now) master_secret_len h.1))
    c.then-not-inputs_right.either in
    record { result = rw wrong; output = rw wrong }

-- inputs that pass are short
pub invariant_of-expansion : goal.invariant_of-expansion
invariant_of-expansion c =
    let n = inputs-lengths _ _ _ (sym c.inputs_right.ensures ∙ c.if-not-inputs_right.false) in
    record {
      small = record { secret-small = omega arith; label_small = omega arith; first_small = omega arith; second-small = omega arith };
    }

-- neither fails, so the definition's test holds
pub returns : goal.returns
unfolding master_secret master_secret_sizes
returns c =
    let a = c.args in
    let inputs : inputs_right a.pre_master.now a.client_random.now a.server_random.now ≡ true =
    sym c.inputs_right.ensures ∙ c.if-not-inputs_right.false in
    let room : length a.out.now ≡ master_secret_len = c.if-out-ne-MASTER_SECRET_LEN.false in
    let right : master_secret_sizes a.pre_master.now a.client_random.now a.server_random.now a.out.now ≡ true =
    rw inputs (eq-eqb (length a.out.now) master_secret_len room) in
    record {
      result = rw right;
      output =
          rw right
          (c.prf.ensures
          ∙ ap (PRF a.pre_master.now master_secret_label (a.client_random.now ++ a.server_random.now)) room);
    }
