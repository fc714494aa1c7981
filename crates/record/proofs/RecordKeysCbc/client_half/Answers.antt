-- `record::RecordKeysCbc::client_half` meets its contract: the client's places in the key block. Assumes nothing.
use Rattle.record.specs.KeyBlock.{client_keys, keys_at, halved_by}
use Rattle.record.proofs.RecordKeysCbc.client_half.Goals as goal

pub returns : goal.returns
unfolding halved_by client_keys keys_at
returns c = c.half_at.ensures
