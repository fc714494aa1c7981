-- `sm3::hash` meets its contract: one part taken in by a fresh state, cut nowhere. Assumes nothing.
use Rattle.std.proofs.Common.{◌≡◌, List, ℕ, ap, ◌∙◌, arith}
use Rattle.sm3.specs.declared.Sm3.{Sm3}
use Rattle.sm3.specs.State.{Digest, fresh, taken, finalized}
use Rattle.sm3.proofs.Cutting.{whole}
use Rattle.sm3.proofs.Taken.{taken-fits}
use Rattle.sm3.proofs.hash.Goals as goal

pub take_in-requires : goal.take_in-requires
unfolding fresh
take_in-requires c = rw c.new.ensures (omega arith)

pub digest-requires : goal.digest-requires
digest-requires c = rw c.take_in.ensures (taken-fits c.new.result c.args.message.now)

pub returns : goal.returns
returns c =
    let m : List ℕ = c.args.message.now in
    let t : c.take_in.result ≡ taken fresh m = c.take_in.ensures ∙ ap (λ (h : Sm3). taken h m) c.new.ensures in
    c.digest.ensures ∙ ap (λ (h : Sm3). (finalized h).bytes) t ∙ ap (λ (d : Digest). d.bytes) (whole m)
