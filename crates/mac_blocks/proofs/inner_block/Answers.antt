-- `mac_blocks::inner_block` meets its contract: one compression, and a choice by the block's number. Assumes nothing.
use mathlib.Core.Bool.{Bool, cond}
use mathlib.Core.List.{List, ◌++◌}
use mathlib.Core.Path.{◌≡◌, ap, ap₂, ◌∙◌}
use Prim.Native.Nat.{ℕ}
use lib.Dec.{eqb}
use lib.ListN.{take}
use Rattle.words.specs.Choice.{bit}
use Rattle.words.proofs.Choice.{bit_test}
use Rattle.sm3_compress.specs.Standard.{CF}
use Rattle.mac_blocks.specs.Schedule.{schedule, final, inner_block}
use Rattle.mac_blocks.proofs.inner_block.Goals as goal

pub returns : goal.returns
unfolding inner_block
returns c =
    let a = c.args in
    let v : List ℕ = a.so_far.words in
    let m : List ℕ = a.header ++ take a.plaintext_len a.«data».now in
    let text = c.new-message.ensures in
    let next : c.compress-words.result ≡ CF v (schedule m a.b) =
    c.compress-words.ensures ∙ ap (CF v) (c.block.ensures ∙ ap (λ (l : List ℕ). schedule l a.b) text) in
    let test =
    bit_test (eqb a.b (final m)) (c.is_final.ensures ∙ ap (λ (l : List ℕ). bit (eqb a.b (final l))) text) in
    ap₂ (λ (w k : List ℕ). record { words = w; kept = k }) next
    (c.keep.ensures ∙ ap₂ (λ (t : Bool) (w : List ℕ). cond t w a.so_far.kept) test next)
