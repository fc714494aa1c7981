-- What the tests of sizes say when they pass. Assumes nothing.
use mathlib.Core.Bool.{true, ◌&&◌}
use mathlib.Core.List.{List}
use mathlib.Core.Path.{◌≡◌}
use Prim.Native.Nat.{ℕ}
use borrow.Author.Tests.{eqb-true}
use lib.ListN.{length}
use Rattle.words.proofs.Tests.{both}
use Rattle.record.specs.Limits.{mac_len, cbc_key_block_len}
use Rattle.border.specs.Border.{key_size, block_size, has, key_sizes, block_sizes, halves_sizes}

-- of the size asked
pub is_long : (n : ℕ) (x : List ℕ) → has n x ≡ true → length x ≡ n
unfolding has
is_long n x e = eqb-true (length x) n e

-- a record's two keys
pub keys-long : (mac enc : List ℕ) → key_sizes mac enc ≡ true → (length mac ≡ mac_len) × (length enc ≡ key_size)
unfolding key_sizes
keys-long mac enc e =
    let t = both (has mac_len mac) (has key_size enc) e in
    (is_long mac_len mac t.0, is_long key_size enc t.1)

-- a key block of the right size, and room for just the keys of either side
pub record Halves (block clientMac serverMac clientEnc serverEnc : List ℕ) : Type 0 where
  pub whole : has cbc_key_block_len block ≡ true
  pub client : (length clientMac ≡ mac_len) × (length clientEnc ≡ key_size)
  pub server : (length serverMac ≡ mac_len) × (length serverEnc ≡ key_size)

pub halves_long : (block clientMac serverMac clientEnc serverEnc : List ℕ)
    → halves_sizes block clientMac serverMac clientEnc serverEnc ≡ true → Halves block clientMac serverMac clientEnc serverEnc
unfolding halves_sizes
halves_long block clientMac serverMac clientEnc serverEnc e =
    let t = both (has cbc_key_block_len block) (key_sizes clientMac clientEnc && key_sizes serverMac serverEnc) e in
    let u = both (key_sizes clientMac clientEnc) (key_sizes serverMac serverEnc) t.1 in
    record { whole = t.0; client = keys-long clientMac clientEnc u.0; server = keys-long serverMac serverEnc u.1 }

-- a key, a block and room for just a block
pub block-long : (key block out : List ℕ) → block_sizes key block out ≡ true
    → (length key ≡ key_size) × (length block ≡ block_size) × (length out ≡ block_size)
unfolding block_sizes
block-long key block out e =
    let t = both (has key_size key) (has block_size block && has block_size out) e in
    let u = both (has block_size block) (has block_size out) t.1 in
    (is_long key_size key t.0, is_long block_size block u.0, is_long block_size out u.1)
