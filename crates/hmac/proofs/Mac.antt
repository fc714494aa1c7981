-- The running MAC is RFC 2104's, however the message is cut; and it is two passes of blocks. Assumes nothing.
use mathlib.Core.Bool.{cond}
use mathlib.Core.List.{List, [], ◌∷◌, ◌++◌, append-nil, append_assoc}
use mathlib.Core.Path.{◌≡◌, refl, sym, ap, ◌∙◌}
use Prim.Native.Nat.{ℕ, ◌+◌, ◌^◌, ◌<◌}
use native.Mathlib.Omega.{arith}
use borrow.Author.Tests.{le-ltb}
use lib.Dec.{ltb}
use lib.ListN.{length, replicate, length-append}
use Rattle.answers.specs.Answers.{Done}
use Rattle.words.specs.Lists.{xor_each}
use Rattle.sm3_compress.specs.Standard.{CF}
use Rattle.sm3.specs.declared.Sm3.{Sm3}
use Rattle.sm3.specs.Cutting.{joined, fed as fedHash}
use Rattle.sm3.specs.Standard.{IV, zeros, count, ending, padded, iteration, bytes_of, SM3}
use Rattle.sm3.specs.State.{Digest, fresh, taken, hashed, finalized as digested}
use Rattle.sm3.proofs.Cutting.{fed-fits, taken-cut, taken_twice}
use Rattle.sm3.proofs.Ending.{length-count}
use Rattle.sm3.proofs.Iteration.{iteration-block, iteration-one}
use Rattle.sm3.proofs.Standard.{hash-standard, length-SM3}
use Rattle.sm3.proofs.Taken.{update_takes, taken-fits}
use Rattle.hmac.specs.declared.HmacSm3.{HmacSm3}
use Rattle.hmac.specs.Cutting.{fed}
use Rattle.hmac.specs.Rfc2104.{ipad, opad, extended, K', HMAC}
use Rattle.hmac.specs.State.{hash_bytes, started, updated, tag, finalized, mac}
use Rattle.hmac.proofs.KeyBlock.{length-padded}
use Rattle.hmac.proofs.Range.{in_range_lem}

-- ---- the updates go to the inner hash

-- of a state in range
pub updated-mac : (m : HmacSm3) (d : List ℕ) → m.inner.buffer_len < 64 → m.outer.buffer_len < 64
    → (updated m d).mac ≡ record { inner = taken m.inner d; outer = m.outer }
unfolding updated
updated-mac m d h k = rw (in_range_lem m h k)

-- of all parts
fed-mac : (m : HmacSm3) (ds : List (List ℕ)) → m.inner.buffer_len < 64 → m.outer.buffer_len < 64
    → fed m ds ≡ record { inner = fedHash m.inner ds; outer = m.outer }
unfolding fed fedHash
fed-mac m [] h k = refl
fed-mac m (d ∷ ds) h k =
    ap (λ (n : HmacSm3). fed n ds) (updated-mac m d h k)
    ∙ fed-mac (record { inner = taken m.inner d; outer = m.outer }) ds (taken-fits m.inner d) k
    ∙ ap (λ (s : Sm3). record { inner = fedHash s ds; outer = m.outer }) (sym (update_takes m.inner d h))

-- ---- RFC 2104 over the hash that the code has

-- the inner digest, through the outer hash
tag-fed : (i o : List ℕ) (ds : List (List ℕ))
    → tag (record { inner = fedHash (taken fresh i) ds; outer = taken fresh o }) ≡ (hashed (o ++ (hashed (i ++ joined ds)).bytes)).bytes
unfolding tag
tag-fed i o ds =
    ap (λ (x : Digest). x.bytes) (taken_twice o (digested (fedHash (taken fresh i) ds)).bytes)
    ∙ ap (λ (x : Digest). (hashed (o ++ x.bytes)).bytes) (taken-cut i ds)

-- every way of cutting a message into updates gives the MAC of the whole message
pub cut : (K : List ℕ) (ds : List (List ℕ)) → finalized (fed (started K).mac ds) ≡ mac K (joined ds)
unfolding started finalized mac HMAC hash_bytes
cut K ds =
    let i : List ℕ = xor_each (K' hash_bytes K) ipad in
    let o : List ℕ = xor_each (K' hash_bytes K) opad in
    let s : HmacSm3 = record { inner = fedHash (taken fresh i) ds; outer = taken fresh o } in
    ap finalized (fed-mac (started K).mac ds (taken-fits fresh i) (taken-fits fresh o))
    ∙ rw (in_range_lem s (fed-fits (taken fresh i) ds (taken-fits fresh i)) (taken-fits fresh o))
    (ap (λ (x : List ℕ). record { answer = Done; bytes = x }) (tag-fed i o ds))

-- and so does no cut at all
pub uncut : (K m : List ℕ) → finalized (updated (started K).mac m).mac ≡ mac K m
unfolding fed joined
uncut K m = cut K (m ∷ []) ∙ ap (mac K) (append-nil m)

-- ---- below 2^61 bytes that hash is SM3

-- of few enough bytes
hash-bytes : (x : List ℕ) → length x < 2 ^ 61 → hash_bytes x ≡ SM3 x
unfolding hash_bytes
hash-bytes x h = ap (λ (d : Digest). d.bytes) (hash-standard x h)

-- a block in front of x, by the words after it
SM3-block : (b x : List ℕ) → length b ≡ 64 → SM3 (b ++ x) ≡ bytes_of (iteration (CF IV b) (x ++ ending (64 + length x) (64 + length x)))
unfolding SM3 padded
SM3-block b x e =
    let n : length (b ++ x) ≡ 64 + length x = length-append b x ∙ ap (λ (k : ℕ). k + length x) e in
    rw (n, append_assoc b x (ending (64 + length x) (64 + length x)))
    (ap bytes_of (iteration-block IV b (x ++ ending (64 + length x) (64 + length x)) e))

-- a digest and its ending behind a block fill one block more
digest_block : (x : List ℕ) → length x ≡ 32 → length (x ++ ending 96 96) ≡ 64
unfolding ending zeros
digest_block x e = length-append x (0x80 ∷ (replicate 23 0 ++ count 96)) ∙ omega (arith, length-append (replicate 23 0) (count 96), length-count 96)

module _ (K m : List ℕ) where
  -- the key's blocks
  unfoldable pub inner_block : List ℕ
  inner_block = xor_each (K' SM3 K) ipad

  unfoldable pub outer_block : List ℕ
  outer_block = xor_each (K' SM3 K) opad

  -- each is a block
  length-inner : length inner_block ≡ 64
  unfolding inner_block
  length-inner = length-padded SM3 K 0x36 (omega (arith, length-SM3 K))

  length_outer : length outer_block ≡ 64
  unfolding outer_block
  length_outer = length-padded SM3 K 0x5c (omega (arith, length-SM3 K))

  -- HMAC of RFC 2104 over SM3 of GB/T 32905
  pub mac-standard : length K < 2 ^ 61 → 64 + length m < 2 ^ 61 → mac K m ≡ record { answer = Done; bytes = HMAC SM3 K m }
  unfolding mac HMAC K' inner_block outer_block
  mac-standard h k =
      let key : K' hash_bytes K ≡ K' SM3 K = ap (λ (x : List ℕ). extended (cond (ltb 64 (length K)) x K)) (hash-bytes K h) in
      let inner : hash_bytes (inner_block ++ m) ≡ SM3 (inner_block ++ m) =
      hash-bytes (inner_block ++ m) (rw (length-append inner_block m) (omega (arith, length-inner))) in
      let outer : hash_bytes (outer_block ++ SM3 (inner_block ++ m)) ≡ SM3 (outer_block ++ SM3 (inner_block ++ m)) =
      hash-bytes (outer_block ++ SM3 (inner_block ++ m))
      (rw (length-append outer_block (SM3 (inner_block ++ m))) (omega (arith, length_outer, length-SM3 (inner_block ++ m)))) in
      ap (λ (x : List ℕ). record { answer = Done; bytes = x })
      (ap (λ (x : List ℕ). hash_bytes (xor_each x opad ++ hash_bytes (xor_each x ipad ++ m))) key
      ∙ ap (λ (x : List ℕ). hash_bytes (outer_block ++ x)) inner
      ∙ outer)

  -- in two passes of blocks: the inner one over the message with its ending, the outer one over the inner digest
  pub mac-blocks : HMAC SM3 K m
      ≡ bytes_of
      (CF (CF IV outer_block)
      (bytes_of (iteration (CF IV inner_block) (m ++ ending (64 + length m) (64 + length m))) ++ ending 96 96))
  unfolding HMAC inner_block outer_block
  mac-blocks =
      SM3-block outer_block (SM3 (inner_block ++ m)) length_outer
      ∙ ap bytes_of (rw (length-SM3 (inner_block ++ m)) (iteration-one (CF IV outer_block) (SM3 (inner_block ++ m) ++ ending 96 96) (digest_block (SM3 (inner_block ++ m)) (length-SM3 (inner_block ++ m)))))
      ∙ ap (λ (x : List ℕ). bytes_of (CF (CF IV outer_block) (x ++ ending 96 96))) (SM3-block inner_block m length-inner)

-- a key of 32 bytes has 32 zeros behind it
pub key-32 : (h : List ℕ → List ℕ) (K : List ℕ) → length K ≡ 32 → K' h K ≡ K ++ replicate 32 0
unfolding K' extended
key-32 h K e = rw (le-ltb 64 (length K) (omega arith), e)
