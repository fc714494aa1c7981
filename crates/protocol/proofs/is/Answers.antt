-- `protocol::is` meets its contract. The check finds this answer too; with it, the edit all_bytes_where_malformed is refused at an
-- equation and not at a limit of the search. Assumes nothing.
use Rattle.std.proofs.Common.{ap, ◌∙◌}
use Rattle.std.specs.Prelude.{is_some}
use Rattle.protocol.specs.Kinds.{is_kind}
use Rattle.protocol.proofs.is.Goals as goal

pub returns-in-Bytes : goal.returns-in-Bytes
unfolding is_kind
returns-in-Bytes c = rw c.in-Bytes.is (c.is_some-in-Bytes.ensures ∙ ap is_some c.size.ensures)
