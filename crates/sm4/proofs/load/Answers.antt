-- `sm4::load` meets its contract: each word is the number of its four bytes. Assumes nothing.
use mathlib.Core.Path.{◌≡◌, ap, ◌∙◌}
use Prim.Native.Nat.{ℕ, ◌/◌}
use borrow.Author.Rules.{rules}
use lib.ListN.{length}
use Rattle.std.specs.Simd.{first_chunks}
use Rattle.words.specs.Lists.{table}
use Rattle.words.proofs.Lists.{as_table}
use Rattle.sm4.specs.Standard.{words_of}
use Rattle.sm4.proofs.load.Goals as goal

pub returns : goal.returns
unfolding words_of table
returns c =
    let b = c.args.b in
    let len : length b ≡ 16 = search rules in
    let front : c.as_chunks.result.0.now ≡ first_chunks 4 4 b =
    c.as_chunks.ensures.front ∙ ap (λ (n : ℕ). first_chunks 4 (n / 4) b) len in
    simp (
      c.u32_from_be_bytes-4.ensures,
      c.u32_from_be_bytes-3.ensures,
      c.u32_from_be_bytes-2.ensures,
      c.u32_from_be_bytes.ensures,
      front,
    ) (rw (as_table b 16 len))
