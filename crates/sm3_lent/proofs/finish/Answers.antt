-- `sm3_lent::finish` meets its contract: the size comes first, then what `finalize` answers. Assumes nothing.
use Rattle.std.proofs.Common.{sym, ap, ◌∙◌}
use Rattle.sm3.specs.State.{Digest}
use Rattle.sm3_lent.proofs.Size.{right-size, wrong_size}
use Rattle.sm3_lent.proofs.finish.Goals as goal

pub returns-then-digest-ne-DIGEST_SIZE : goal.returns-then-digest-ne-DIGEST_SIZE
returns-then-digest-ne-DIGEST_SIZE c =
    let s = wrong_size c.args.h.now c.args.digest.now c.if-digest-ne-DIGEST_SIZE.true in
    record { result = sym s.0; output = sym s.1 }

pub returns-in-Ok : goal.returns-in-Ok
returns-in-Ok c =
    let s = right-size c.args.h.now c.args.digest.now c.if-digest-ne-DIGEST_SIZE.false in
    record {
      result = ap (λ (d : Digest). d.answer) c.in-Ok.ensures ∙ sym s.0;
      output = c.copy_from_slice.ensures.after ∙ ap (λ (d : Digest). d.bytes) c.in-Ok.ensures ∙ sym s.1;
    }

pub returns-in-Err : goal.returns-in-Err
returns-in-Err c =
    let s = right-size c.args.h.now c.args.digest.now c.if-digest-ne-DIGEST_SIZE.false in
    record {
      result = ap (λ (d : Digest). d.answer) c.in-Err.ensures ∙ sym s.0;
      output = c.copy_from_slice-in-Err.ensures.after ∙ ap (λ (d : Digest). d.bytes) c.in-Err.ensures ∙ sym s.1;
    }
