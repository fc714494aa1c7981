-- `record::half_at` meets its contract: a refusal at another length, else a part for each key. Assumes nothing.
use Rattle.std.proofs.Common.{◌≡◌, List, ℕ, length, ap₂, eq-eqb, ne_eqb}
use Rattle.answers.specs.Answers.{Done}
use Rattle.record.specs.KeyBlock.{keys_at, halved_by}
use Rattle.record.specs.Limits.{cbc_key_block_len}
use Rattle.record.proofs.half_at.Goals as goal

pub returns-then-key_block-ne-CBC_KEY_BLOCK_LEN : goal.returns-then-key_block-ne-CBC_KEY_BLOCK_LEN
unfolding halved_by
returns-then-key_block-ne-CBC_KEY_BLOCK_LEN c =
    rw (ne_eqb (length c.args.key_block.now) cbc_key_block_len c.if-key_block-ne-CBC_KEY_BLOCK_LEN.true)

pub returns : goal.returns
unfolding halved_by keys_at
returns c =
    let b : List ℕ = c.args.key_block.now in
    let n : length b ≡ cbc_key_block_len = c.if-key_block-ne-CBC_KEY_BLOCK_LEN.false in
    rw (eq-eqb (length b) cbc_key_block_len n)
    (ap₂ (λ (k x : List ℕ). record { answer = Done; keys = record { mac_key = k; enc_key = x } })
    c.copy_from_slice.ensures.after c.copy_from_slice-2.ensures.after)
