-- `Expansion::prf` meets its contract: P_hash is the rest from A(1) on, and none of it is nothing. Assumes nothing.
use mathlib.Core.List.{List, ◌++◌}
use mathlib.Core.Path.{sym, ap, ◌∙◌}
use Prim.Native.Nat.{ℕ}
use lib.ListN.{length}
use Rattle.sm3.specs.Standard.{SM3}
use Rattle.hmac.specs.Rfc2104.{HMAC}
use Rattle.key_schedule.specs.Rest.{rest}
use Rattle.key_schedule.specs.Standard.{PRF}
use Rattle.key_schedule.proofs.Blocks.{P_hash-start}
use Rattle.key_schedule.proofs.Lengths.{PRF-none}
use Rattle.key_schedule.proofs.Expansion.prf.Goals as goal

pub returns-then-out-gt0 : goal.returns-then-out-gt0
unfolding PRF
returns-then-out-gt0 c =
    let e = c.args.self.now in
    let seed = e.label.now ++ (e.first.now ++ e.second.now) in
    let n = length c.args.out.now in
    c.p_sm3.ensures
    ∙ ap (λ (x : List ℕ). rest (HMAC SM3) e.secret.now seed x n) c.mac.ensures
    ∙ sym (P_hash-start (HMAC SM3) e.secret.now seed n)

pub returns-else-out-gt0 : goal.returns-else-out-gt0
returns-else-out-gt0 c =
    let e = c.args.self.now in
    PRF-none e.secret.now e.label.now (e.first.now ++ e.second.now) c.args.out.now c.if-out-gt0.false
