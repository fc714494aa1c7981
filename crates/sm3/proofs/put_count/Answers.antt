-- `sm3::put_count` meets its contract: the last 8 bytes are laid over, and their number is taken modulo 2^64. Assumes nothing.
use Rattle.std.proofs.Common.{ℕ, List, ap, ◌∙◌, rules}
use Rattle.words.specs.Lists.{put}
use Rattle.sm3.proofs.Ending.{shifted_count, put-counted}
use Rattle.sm3.proofs.put_count.Goals as goal

pub returns : goal.returns
returns c =
    let a = c.args in
    c.copy_at.ensures.output
    ∙ ap (λ (x : List ℕ). put 56 x a.block) (c.u64_to_be_bytes-bytes.ensures ∙ shifted_count a.total)
    ∙ put-counted a.block a.total (search rules)
