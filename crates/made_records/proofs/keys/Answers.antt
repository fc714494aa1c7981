-- `made_records::keys` meets its contract: the key block is the rule's 128 bytes, so it is not refused. Assumes nothing.
use Rattle.std.specs.Prelude.{Result, Ok, List, ℕ}
use Rattle.std.proofs.Common.{◌≡◌, refl, ap}
use Rattle.answers.specs.declared.Refusal.{Refusal}
use Rattle.words.specs.Lists.{table}
use Rattle.words.proofs.Lists.{length-table}
use Rattle.record.specs.declared.RecordKeysCbc.{RecordKeysCbc}
use Rattle.record.specs.KeyBlock.{Halved, client_keys, half_by, halved_by}
use Rattle.record.proofs.OneOutcome.{half_by-one_outcome}
use Rattle.programs.specs.Rule.{byte}
use Rattle.made_records.specs.Made.{keys}
use Rattle.made_records.proofs.keys.Goals as goal

-- the half of those bytes is the client's keys
client : (b : List ℕ) (r : Result RecordKeysCbc Refusal) → b ≡ table (byte 13 1) 128
    → half_by r ≡ halved_by client_keys b → half_by r ≡ half_by (Ok keys)
unfolding keys halved_by
client b r block e = rw (block, length-table (byte 13 1) 128) at e

-- so there is one
pub unwrap-requires : goal.unwrap-requires
unwrap-requires c =
    let half : c.client_half.result ≡ Ok keys =
    half_by-one_outcome _ _ (client _ _ c.spread.ensures.output c.client_half.ensures) in
    rw half refl

-- and it is what is handed back
pub returns : goal.returns
returns c =
    let is = rw c.unwrap.ensures at c.client_half.ensures in
    ap (λ (h : Halved). h.keys) (client _ (Ok c.unwrap.result) c.spread.ensures.output is)
