-- `border::role_of` meets its contract: the test of the definition. Assumes nothing.
use borrow.Author.Tests.{eq-eqb, ne_eqb}
use Rattle.border.specs.Border.{role_of}
use Rattle.border.proofs.role_of.Goals as goal

pub returns-then-role-eq0 : goal.returns-then-role-eq0
unfolding role_of
returns-then-role-eq0 c = rw (eq-eqb c.args.role 0 c.if-role-eq0.true)

pub returns-else-role-eq0 : goal.returns-else-role-eq0
unfolding role_of
returns-else-role-eq0 c = rw (ne_eqb c.args.role 0 c.if-role-eq0.false)
