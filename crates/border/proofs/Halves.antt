-- A key block's halves at the border: what a test says and what a refusal leaves, the keys of a half, their sizes, and keys
-- laid over spans of their sizes. Assumes nothing.
use mathlib.Core.Bool.{Bool, true, false, cond}
use mathlib.Core.List.{List}
use mathlib.Core.Path.{◌≡◌, refl, sym, ap, ◌∙◌}
use Prim.Native.Nat.{ℕ, ◌+◌, ◌-◌, ◌≤◌}
use native.Mathlib.Omega.{arith}
use lib.ListN.{length, drop, length-drop}
use lib.Seq.{length-take-le}
use Rattle.std.specs.Prelude.{Result, Ok, Err, IsOk}
use Rattle.answers.specs.declared.Refusal.{Refusal}
use Rattle.answers.specs.Answers.{WrongSize, number_of}
use Rattle.answers.proofs.Numbers.{number_of-ok}
use Rattle.words.specs.Lists.{put}
use Rattle.words.proofs.Lists.{put_whole}
use Rattle.record.specs.declared.RecordKeysCbc.{RecordKeysCbc}
use Rattle.record.specs.KeyBlock.{Halved, part, client_keys, server_keys, half_by, halved_by}
use Rattle.record.specs.Limits.{mac_len, cbc_key_block_len}
use Rattle.border.specs.Border.{key_size, has, answer_for}
use Rattle.border.proofs.Sizes.{is_long}

-- what a test that failed, and one that held, say of the definition
pub failed : {t d : Bool} → t ≡ d → t ≡ false → d ≡ false
failed e n = sym e ∙ n

pub passed : {t d : Bool} → t ≡ d → t ≡ true → d ≡ true
passed e n = sym e ∙ n

-- a test that failed is answer 9
pub refused : {t : Bool} → t ≡ false → WrongSize ≡ answer_for t
unfolding answer_for
refused e = rw e

-- and what was lent stays as found
pub kept : {t : Bool} (x out : List ℕ) → t ≡ false → out ≡ cond t x out
kept x out e = rw e

-- n bytes from a on are n, where there are so many
part-long : (a n : ℕ) (b : List ℕ) → a + n ≤ length b → length (part a (a + n) b) ≡ n
part-long a n b h =
    let k : a + n - a ≤ length (drop a b) = omega (arith, length-drop a b) in
    length-take-le (a + n - a) (drop a b) k ∙ omega arith

-- keys of a record's sizes
abbrev Sized : RecordKeysCbc → Type 0
Sized k = (length k.mac_key ≡ mac_len) × (length k.enc_key ≡ key_size)

pub client-long : (b : List ℕ) → has cbc_key_block_len b ≡ true → Sized (client_keys b)
unfolding client_keys
client-long b e =
    let n = is_long cbc_key_block_len b e in
    (part-long 0 32 b (omega (arith, n)), part-long 64 16 b (omega (arith, n)))

pub server-long : (b : List ℕ) → has cbc_key_block_len b ≡ true → Sized (server_keys b)
unfolding server_keys
server-long b e =
    let n = is_long cbc_key_block_len b e in
    (part-long 32 32 b (omega (arith, n)), part-long 80 16 b (omega (arith, n)))

-- where the key block has its size, a half is not refused
pub half_ok : (r : Result RecordKeysCbc Refusal) (keys : List ℕ → RecordKeysCbc) (b : List ℕ) → has cbc_key_block_len b ≡ true
    → half_by r ≡ halved_by keys b → IsOk r
unfolding halved_by has
half_ok r keys b e q = number_of-ok r (halves r ∙ ap (λ (h : Halved). h.answer) (rw e at q))
  where
    halves : (r : Result RecordKeysCbc Refusal) → number_of r ≡ (half_by r).answer
    halves (Ok k) = refl
    halves (Err why) = refl

-- and has its keys
pub keys_of_half : {h : RecordKeysCbc} (keys : List ℕ → RecordKeysCbc) (b : List ℕ) → has cbc_key_block_len b ≡ true
    → half_by (Ok h) ≡ halved_by keys b → h ≡ keys b
unfolding halved_by has
keys_of_half keys b e q = ap (λ (h : Halved). h.keys) (rw e at q)

-- keys h that are those keys, laid over spans of their sizes, are all there is
module _ (h keys : RecordKeysCbc) (out : List ℕ) (e : h ≡ keys) (s : Sized keys) where
  pub laid-mac : length out ≡ mac_len → put 0 h.mac_key out ≡ keys.mac_key
  laid-mac n = rw e (put_whole keys.mac_key out (s.0 ∙ sym n))

  pub laid_enc : length out ≡ key_size → put 0 h.enc_key out ≡ keys.enc_key
  laid_enc n = rw e (put_whole keys.enc_key out (s.1 ∙ sym n))
