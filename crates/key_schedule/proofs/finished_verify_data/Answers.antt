-- `key_schedule::finished_verify_data` meets its contract: a refusal where a length is not right, else the PRF with the role's
-- label. Assumes nothing.
use mathlib.Core.Bool.{true, false, ◌&&◌}
use mathlib.Core.List.{List, [], ◌++◌, append-nil}
use mathlib.Core.Logic.{⊎_elim}
use mathlib.Core.Path.{◌≡◌, ap, ◌∙◌}
use Prim.Native.Nat.{ℕ}
use borrow.Author.Tests.{eq-eqb, ne_eqb}
use lib.Dec.{eqb}
use lib.ListN.{length}
use Rattle.answers.specs.Answers.{Done}
use Rattle.words.proofs.Tests.{left_fails, right_fails}
use Rattle.key_schedule.specs.declared.TlcpRole.{TlcpRole}
use Rattle.key_schedule.specs.Promise.{Finished}
use Rattle.key_schedule.specs.Sizes.{master_secret_len, random_len, finished_verify_data_len, finished_sizes}
use Rattle.key_schedule.specs.Standard.{label_of, PRF, finished}
use Rattle.key_schedule.proofs.finished_verify_data.Goals as goal

-- one of the code's tests fails, and so does the definition's
pub returns-then-master_secret-ne-MASTER_SECRET_LEN : goal.returns-then-master_secret-ne-MASTER_SECRET_LEN
unfolding finished_sizes
returns-then-master_secret-ne-MASTER_SECRET_LEN c =
    let a = c.args in
    let m = eqb (length a.master_secret.now) master_secret_len in
    let h = eqb (length a.transcript_hash.now) random_len in
    let o = eqb (length a.out.now) finished_verify_data_len in
    let wrong : finished_sizes a.master_secret.now a.transcript_hash.now a.out.now ≡ false =
    ⊎_elim (λ p. left_fails (m && h) o (left_fails m h (ne_eqb (length a.master_secret.now) master_secret_len p)))
    (⊎_elim (λ p. left_fails (m && h) o (right_fails m h (ne_eqb (length a.transcript_hash.now) random_len p.1)))
    (λ p. right_fails (m && h) o (ne_eqb (length a.out.now) finished_verify_data_len p.2)))
    c.then-master_secret-ne-MASTER_SECRET_LEN.either in
    record { result = rw wrong; output = rw wrong }

-- none fails: what the PRF left, with the label of the role
done : (m h out x : List ℕ) (role : TlcpRole) → length m ≡ master_secret_len → length h ≡ random_len
    → length out ≡ finished_verify_data_len
    → x ≡ PRF m (label_of role) (h ++ []) (length out) → Finished m role h out Done x
unfolding finished finished_sizes
done m h out x role e f g p =
    let right : finished_sizes m h out ≡ true =
    rw (eq-eqb (length m) master_secret_len e, eq-eqb (length h) random_len f, eq-eqb (length out) finished_verify_data_len g) in
    record {
      result = rw right;
      output =
          rw right
          (p
          ∙ ap (λ (y : List ℕ). PRF m (label_of role) y (length out)) (append-nil h)
          ∙ ap (PRF m (label_of role) h) g);
    }

pub returns : goal.returns
returns c =
    let a = c.args in
    done a.master_secret.now a.transcript_hash.now a.out.now _ a.role c.if-master_secret-ne-MASTER_SECRET_LEN.false
    c.if-transcript_hash-ne-RANDOM_LEN.false c.if-out-ne-FINISHED_VERIFY_DATA_LEN.false
    (c.prf.ensures ∙ ap (λ (l : List ℕ). PRF a.master_secret.now l (a.transcript_hash.now ++ []) (length a.out.now)) c.label.ensures)
