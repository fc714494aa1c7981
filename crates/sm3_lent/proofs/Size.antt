-- A digest has 32 bytes, a refused one too; and what `finish` answers and leaves, by the size of the digest that was lent.
-- Assumes nothing.
use mathlib.Core.Bool.{Bool, true, false, cond}
use mathlib.Core.List.{List}
use mathlib.Core.Path.{◌≡◌, refl}
use Prim.Native.Nat.{ℕ}
use borrow.Author.Tests.{eq-eqb, ne_eqb}
use lib.Dec.{ltb}
use lib.ListN.{length}
use Rattle.answers.specs.Answers.{WrongSize}
use Rattle.sm3.specs.declared.Sm3.{Sm3}
use Rattle.sm3.specs.State.{Digest, finalized}
use Rattle.sm3.proofs.Ending.{length-bytes_of}
use Rattle.sm3_lent.specs.Lent.{finish_answer, finish_digest}

-- 32 bytes
pub length-finalized : (h : Sm3) → length (finalized h).bytes ≡ 32
unfolding finalized
length-finalized h = either (ltb h.buffer_len 64) _ _ (length-bytes_of _) refl
  where
    either : (t : Bool) (x y : Digest) → length x.bytes ≡ 32 → length y.bytes ≡ 32 → length (cond t x y).bytes ≡ 32
    either true x y p q = p
    either false x y p q = q

-- where other than 32 bytes were lent, the answer is 9, and the digest is as found
pub wrong_size : (h : Sm3) (d : List ℕ) → (length d ≡ 32 → ⊥) → (finish_answer h d ≡ WrongSize) × (finish_digest h d ≡ d)
unfolding finish_answer finish_digest
wrong_size h d n = (simp (ne_eqb (length d) 32 n), simp (ne_eqb (length d) 32 n))

-- else the answer and the bytes are those of `finalize`
pub right-size : (h : Sm3) (d : List ℕ) → length d ≡ 32 → (finish_answer h d ≡ (finalized h).answer) × (finish_digest h d ≡ (finalized h).bytes)
unfolding finish_answer finish_digest
right-size h d e = (simp (eq-eqb (length d) 32 e), simp (eq-eqb (length d) 32 e))
