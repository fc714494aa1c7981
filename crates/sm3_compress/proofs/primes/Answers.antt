-- `sm3_compress::primes` meets its contract: word j is W'_j. Assumes nothing.
use Rattle.std.proofs.Common.{rules}
use Rattle.words.specs.Word.{◌⊕◌}
use Rattle.words.proofs.Made.{made_table}
use Rattle.sm3_compress.specs.Standard.{prime_at, W'}
use Rattle.sm3_compress.proofs.primes.Goals as goal

pub returns : goal.returns
unfolding W' prime_at ◌⊕◌
returns c = made_table _ _ _ (prime_at c.args.w.now) 64 (λ i y q b k. search rules) c.from_fn.ensures.items
