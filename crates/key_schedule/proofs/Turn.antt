-- One call of p_sm3: what it leaves of the output, as a block and the rest behind it. Assumes nothing.
use mathlib.Core.List.{List, [], ◌++◌, append-nil}
use mathlib.Core.Path.{◌≡◌, sym, ap, ap₂, ◌∙◌}
use Prim.Native.Nat.{ℕ, ◌+◌, ◌-◌, ◌≤◌, ◌<◌}
use native.Mathlib.Nat.{lt-suc_self}
use native.Mathlib.Omega.{arith}
use lib.ListN.{length, take, drop, length-drop, drop_of_length-le}
use lib.Seq.{take_at}
use Rattle.words.proofs.Lists.{length-put, put-cut, put-fits, part_to_end}
use Rattle.words.specs.Lists.{put}
use Rattle.sm3.specs.Standard.{SM3}
use Rattle.hmac.specs.Rfc2104.{HMAC}
use Rattle.key_schedule.specs.Rest.{rest}
use Rattle.key_schedule.specs.Sizes.{Asked}
use Rattle.key_schedule.specs.Standard.{blocks}
use Rattle.key_schedule.proofs.Depth.{blocks_more}
use Rattle.key_schedule.proofs.Blocks.{rest-last, rest_more}
use Rattle.key_schedule.proofs.Lengths.{length-HMAC}

-- the part from n to the end is what is behind the first n
length_part : (n : ℕ) (l : List ℕ) → length (take (length l - n) (drop n l)) ≡ length l - n
length_part n l = ap length (part_to_end n l) ∙ length-drop n l

-- secret, seed and A(i) = a as p_sm3 has them; out as it found it, and w as the copy of the block left it
module _ (secret seed a out w : List ℕ) (laid : w ≡ put 0 (HMAC SM3 secret (a ++ seed)) out) where
  -- the length stays
  length-laid : length w ≡ length out
  length-laid = ap length laid ∙ length-put 0 (HMAC SM3 secret (a ++ seed)) out

  -- the call on what remains has a block less to write
  pub fewer_blocks : 32 < length w → blocks (length (take (length w - 32) (drop 32 w))) < blocks (length out)
  fewer_blocks h = rw (length_part 32 w, ← length-laid, blocks_more (length w) h) (lt-suc_self (blocks (length w - 32)))

  -- and is asked for a byte or more
  pub asked-rest : 32 < length w → Asked (length out) → Asked (length (take (length w - 32) (drop 32 w)))
  asked-rest h a =
      record { some = omega (arith, length_part 32 w); most = omega (arith, length_part 32 w, length-laid) }

  -- the last block
  pub written_last : length w ≤ 32 → w ≡ rest (HMAC SM3) secret seed a (length out)
  written_last h =
      let n : length out ≤ 32 = omega (arith, length-laid) in
      laid
      ∙ put-cut (HMAC SM3 secret (a ++ seed)) out (omega (arith, length-HMAC secret (a ++ seed)))
      ∙ sym (rest-last (HMAC SM3) secret seed (length-HMAC secret) a (length out) n)

  -- a block with more to come: x is what the call on the part behind it leaves
  pub written-more : (x : List ℕ) → 32 < length w
      → x ≡ rest (HMAC SM3) secret seed (HMAC SM3 secret a) (length (take (length w - 32) (drop 32 w)))
      → take 32 w ++ (x ++ drop (length w - 32) (drop 32 w)) ≡ rest (HMAC SM3) secret seed a (length out)
  written-more x h e =
      let b = HMAC SM3 secret (a ++ seed) in
      let n : 32 < length out = omega (arith, length-laid) in
      let front : w ≡ b ++ drop (0 + length b) out = laid ∙ put-fits 0 b out (omega (arith, length-HMAC secret (a ++ seed))) in
      let tail : drop (length w - 32) (drop 32 w) ≡ [] =
      drop_of_length-le (drop 32 w) {i = length w - 32} (omega (arith, length-drop 32 w)) in
      let left : length (take (length w - 32) (drop 32 w)) ≡ length out - 32 = length_part 32 w ∙ ap (λ (k : ℕ). k - 32) length-laid in
      ap₂ (λ (p q : List ℕ). p ++ q)
      (ap (take 32) front ∙ take_at b (drop (0 + length b) out) 32 (length-HMAC secret (a ++ seed)))
      (rw (tail, append-nil x) (e ∙ ap (rest (HMAC SM3) secret seed (HMAC SM3 secret a)) left))
      ∙ sym (rest_more (HMAC SM3) secret seed (length-HMAC secret) a (length out) n)
