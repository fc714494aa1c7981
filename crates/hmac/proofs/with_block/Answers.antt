-- `hmac::with_block` meets its contract: a fresh state is not refused. Assumes nothing.
use Rattle.std.proofs.Common.{◌<◌, refl, ap, ◌∙◌, arith, List, ℕ}
use Rattle.sm3.specs.declared.Sm3.{Sm3}
use Rattle.sm3.specs.State.{fresh, taken}
use Rattle.sm3.proofs.OneOutcome.{update-ok, update-fits}
use Rattle.hmac.proofs.with_block.Goals as goal

pub unwrap-requires : goal.unwrap-requires
unfolding fresh
unwrap-requires c =
    let h = c.new.result in
    let fits : h.buffer_len < 64 = rw c.new.ensures (omega arith) in
    rw (update-ok h c.args.block c.update.result fits c.update.ensures) refl

pub returns : goal.returns
returns c =
    let b : List ℕ = c.args.block in
    let u = update-fits c.new.result c.unwrap.result b (rw c.unwrap.ensures at c.update.ensures) in
    u.1 ∙ ap (λ (h : Sm3). taken h b) c.new.ensures
