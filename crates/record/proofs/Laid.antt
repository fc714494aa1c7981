-- What sealing leaves in its output, write by write: the IV, the body behind it, and the body enciphered where it stands.
-- Assumes nothing.
use mathlib.Core.List.{List, ◌++◌, append_assoc}
use mathlib.Core.Path.{◌≡◌, ap, ap₂, ◌∙◌}
use Prim.Native.Nat.{ℕ, suc, ◌+◌, ◌-◌, ◌%◌, ◌≤◌}
use native.Mathlib.Numerals.{add-one}
use native.Mathlib.Omega.{arith}
use lib.ListN.{length, take, drop, replicate, length-append, length-replicate}
use Rattle.words.specs.Lists.{put}
use Rattle.words.proofs.Lists.{length-put}
use Rattle.words.proofs.Puts.{put-put, put_back, put-part, part-put, put_again}
use Rattle.cbc.specs.Cbc.{cbc_enc, enciphered}
use Rattle.cbc.proofs.Turn.{enciphered_whole}
use Rattle.record.specs.Standard.{padding}
use Rattle.record.proofs.Records.{length-enciphered}

-- text, MAC and padding, each behind the one before
pub body-laid : (text mac o : List ℕ) (p : ℕ) → length mac ≡ 32 → length text + 33 + p ≤ length o
    → put (length text + 32) (replicate (p + 1) p) (put (length text) mac (put 0 text o)) ≡ put 0 (text ++ (mac ++ padding p)) o
body-laid text mac o p m h =
    let n : length (padding p) ≡ suc p = length-replicate (suc p) p in
    let both : length (text ++ mac) ≡ length text + 32 = length-append text mac ∙ omega arith in
    rw (add-one p)
    (ap (put (length text + 32) (padding p)) (put-put 0 (length text) text mac o (omega arith) (omega arith))
    ∙ put-put 0 (length text + 32) (text ++ mac) (padding p) o (omega arith) (omega arith)
    ∙ ap (λ (l : List ℕ). put 0 l o) (append_assoc text mac (padding p)))

module _ (E : List ℕ → List ℕ) (sizes : (b : List ℕ) → length (E b) ≡ 16) (iv body out : List ℕ)
    (hiv : length iv ≡ 16) (w : length body % 16 ≡ 0) (room : 16 + length body ≤ length out) where
  -- o with the IV in front, p the part from 16 on with the body, q the part up to total enciphered
  pub record_laid : (o p q : List ℕ) (total : ℕ) → total ≡ 16 + length body → o ≡ put 0 iv out
      → p ≡ put 0 body (take (length o - 16) (drop 16 o)) →
      let o2 = take 16 o ++ (p ++ drop (length o - 16) (drop 16 o)) in
      q ≡ enciphered E iv (take (total - 16) (drop 16 o2))
      → take 16 o2 ++ (q ++ drop (total - 16) (drop 16 o2)) ≡ put 0 (iv ++ cbc_enc E iv body) out
  record_laid o p q total t oe pe qe =
      let o2 = take 16 o ++ (p ++ drop (length o - 16) (drop 16 o)) in
      let c = cbc_enc E iv body in
      let first = put 0 iv out in
      let n : length o ≡ length out = ap length oe ∙ length-put 0 iv out in
      let m : length first ≡ length out = length-put 0 iv out in
      let lc : length c ≡ length body = length-enciphered E iv body sizes w in
      let k : total - 16 ≡ length body = omega arith in
      let oe2 : o2 ≡ put 16 body first =
      ap (λ (x : List ℕ). take 16 o ++ (x ++ drop (length o - 16) (drop 16 o))) pe
      ∙ put-part 16 (length o - 16) body o (omega arith) (omega arith)
      ∙ ap (put 16 body) oe in
      let lo2 : length o2 ≡ length out = ap length oe2 ∙ length-put 16 body first ∙ m in
      let part : take (total - 16) (drop 16 o2) ≡ body =
      ap₂ (λ (i : ℕ) (x : List ℕ). take i (drop 16 x)) k oe2 ∙ part-put 16 body first (omega arith) in
      let qc : q ≡ c = qe ∙ ap (enciphered E iv) part ∙ enciphered_whole E iv body w in
      put_back 16 (total - 16) q o2 (ap length qc ∙ omega arith) (omega arith)
      ∙ ap₂ (put 16) qc oe2
      ∙ put_again 16 body c first (omega arith) (omega arith)
      ∙ put-put 0 16 iv c out (omega arith) (omega arith)
