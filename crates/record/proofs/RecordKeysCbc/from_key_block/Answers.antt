-- `record::RecordKeysCbc::from_key_block` meets its contract: the half of the role. Assumes nothing.
use mathlib.Core.Path.{sym, ap, ◌∙◌}
use Rattle.key_schedule.specs.declared.TlcpRole.{TlcpRole}
use Rattle.record.specs.KeyBlock.{halved_by, keys_of}
use Rattle.record.proofs.RecordKeysCbc.from_key_block.Goals as goal

pub returns-in-Client : goal.returns-in-Client
unfolding keys_of
returns-in-Client c =
    let b = c.args.key_block.now in
    c.client_half.ensures ∙ ap (λ (r : TlcpRole). halved_by (keys_of r) b) (sym c.in-Client.is)

pub returns-in-Server : goal.returns-in-Server
unfolding keys_of
returns-in-Server c =
    let b = c.args.key_block.now in
    c.server_half.ensures ∙ ap (λ (r : TlcpRole). halved_by (keys_of r) b) (sym c.in-Server.is)
