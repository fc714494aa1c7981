-- What the test of the lengths says of arguments that pass it. Assumes nothing.
use mathlib.Core.Bool.{true, ◌&&◌}
use mathlib.Core.List.{List}
use mathlib.Core.Path.{◌≡◌}
use Prim.Native.Nat.{ℕ}
use borrow.Author.Tests.{eqb-true}
use lib.Dec.{eqb}
use lib.ListN.{length}
use Rattle.words.proofs.Tests.{both}
use Rattle.key_schedule.specs.Sizes.{master_secret_len, random_len, inputs_right}

-- inputs that pass have their lengths
pub inputs-lengths : (secret client server : List ℕ) → inputs_right secret client server ≡ true
    → (length secret ≡ master_secret_len) × (length client ≡ random_len) × (length server ≡ random_len)
unfolding inputs_right
inputs-lengths secret client server h =
    let p = both (eqb (length secret) master_secret_len && eqb (length client) random_len) (eqb (length server) random_len) h in
    let q = both (eqb (length secret) master_secret_len) (eqb (length client) random_len) p.0 in
    (eqb-true (length secret) master_secret_len q.0, eqb-true (length client) random_len q.1, eqb-true (length server) random_len p.1)
