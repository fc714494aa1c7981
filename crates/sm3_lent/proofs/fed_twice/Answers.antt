-- `sm3_lent::fed_twice` meets its contract: each update leaves what taking the part in leaves, and the second begins where the
-- first ended. Assumes nothing.
use Rattle.std.proofs.Common.{ap, ◌∙◌}
use Rattle.sm3.specs.declared.Sm3.{Sm3}
use Rattle.sm3.specs.Cutting.{fed}
use Rattle.sm3.specs.State.{updated}
use Rattle.sm3_lent.proofs.fed_twice.Goals as goal

pub returns : goal.returns
unfolding fed
returns c =
    let first = c.args.first.now in
    let second = c.args.second.now in
    c.update-taken-2.ensures.state
    ∙ ap (λ (h : Sm3). (updated h second).hasher)
    (c.update-taken.ensures.state ∙ ap (λ (h : Sm3). (updated h first).hasher) c.new-h.ensures)
