-- `Sm3::digest` meets its contract: the ending in one block, and in two. Assumes nothing.
use Rattle.std.proofs.Common.{ℕ, List, ◌++◌, take, sym, refl, ap, ◌∙◌, ap₂, arith, rules}
use Rattle.sm3_compress.specs.Standard.{CF}
use Rattle.sm3.specs.Standard.{count, bytes_of}
use Rattle.sm3.specs.State.{Digest, pending}
use Rattle.sm3.proofs.Ending.{one_block, two_blocks, digested}
use Rattle.sm3.proofs.Sm3.digest.Goals as goal

pub returns-then-self-lt56 : goal.returns-then-self-lt56
unfolding pending
returns-then-self-lt56 c =
    let s = c.args.self in
    let block = c.mark-block.ensures in
    let last = c.put_count.ensures ∙ ap (λ (b : List ℕ). take 56 b ++ count s.total_len) block in
    let words = c.compress.ensures ∙ ap (CF s.state) last in
    ap (λ (d : Digest). d.bytes)
    (digested s c.digest_of.result (omega arith)
    (c.digest_of.ensures
    ∙ ap bytes_of (words ∙ sym (one_block s.buffer s.buffer_len (search rules) (omega arith) s.state s.total_len (omega arith)))))

pub returns : goal.returns
unfolding pending
returns c =
    let s = c.args.self in
    let block = c.mark-block.ensures in
    let first = c.compress-next.ensures ∙ ap (CF s.state) block in
    let words = c.compress-2.ensures ∙ ap₂ CF first c.put_count-2.ensures in
    ap (λ (d : Digest). d.bytes)
    (digested s c.digest_of-2.result (omega arith)
    (c.digest_of-2.ensures
    ∙ ap bytes_of (words ∙ sym (two_blocks s.buffer s.buffer_len (search rules) (omega arith) s.state _ s.total_len (omega arith) refl))))
