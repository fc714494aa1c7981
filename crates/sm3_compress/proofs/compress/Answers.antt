-- `sm3_compress::compress` meets its contract: the expansion, the rounds over it, the exclusive or with the state.
-- Assumes nothing.
use mathlib.Core.List.{List}
use mathlib.Core.Path.{ap, ◌∙◌}
use Prim.Native.Nat.{ℕ}
use Rattle.words.specs.Lists.{xor_each}
use Rattle.words.proofs.Lists.{zip_with-xor}
use Rattle.sm3_compress.specs.Standard.{CF}
use Rattle.sm3_compress.proofs.compress.Goals as goal

pub returns : goal.returns
unfolding CF
returns c =
    let state = c.args.state in
    c.xor_each.ensures
    ∙ zip_with-xor _ _
    ∙ ap (λ (v : List ℕ). xor_each v state) (c.all_rounds-last.ensures ∙ rw (c.primes-wp.ensures, c.expand-w.ensures))
