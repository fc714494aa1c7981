-- `record::RecordKeysCbc::server_half` meets its contract: the server's places in the key block. Assumes nothing.
use Rattle.record.specs.KeyBlock.{server_keys, keys_at, halved_by}
use Rattle.record.proofs.RecordKeysCbc.server_half.Goals as goal

pub returns : goal.returns
unfolding halved_by server_keys keys_at
returns c = c.half_at.ensures
