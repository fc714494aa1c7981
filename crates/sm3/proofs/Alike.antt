-- No digest depends on the buffer's bytes from the fill on: states that differ only there stay alike under updates, and
-- give one digest. Assumes nothing.
use Rattle.std.proofs.Common.{◌≡◌, ℕ, ◌+◌, ◌%◌, ◌^◌, Bool, true, false, ltb, List, [], ◌∷◌, ◌++◌, length, take, sym, refl, ap, ◌∙◌, ap₂}
use Rattle.sm3.specs.declared.Sm3.{Sm3}
use Rattle.sm3.specs.Cutting.{fed, Alike}
use Rattle.sm3.specs.Standard.{iteration}
use Rattle.sm3.specs.State.{rest, absorbed, pending, base, taken, updated, finalized}
use Rattle.sm3.proofs.Cutting.{take-over}
use Rattle.sm3.proofs.Iteration.{length_rest}

-- alike states give the same digest and the same answer
pub alike_digest : (h g : Sm3) → Alike h g → finalized h ≡ finalized g
unfolding finalized pending
alike_digest h g k = cc

module _ (h g : Sm3) (d : List ℕ) (k : Alike h g) where
  -- what is pending is the same
  same-pending : pending h d ≡ pending g d
  unfolding pending
  same-pending = ap (λ (w : List ℕ). w ++ d) k.waiting

  -- what waits after an update is the rest, whatever the buffer was
  waiting-rest : (s : Sm3) → take (taken s d).buffer_len (taken s d).buffer ≡ rest (pending s d)
  unfolding taken absorbed
  waiting-rest s = take-over (rest (pending s d)) (base s (pending s d)) (length (pending s d) % 64) (length_rest (pending s d))

  -- so what an update leaves is alike
  alike-taken : Alike (taken h d) (taken g d)
  unfolding taken absorbed
  alike-taken =
      record {
        words = ap₂ iteration k.words same-pending;
        fill = ap (λ (p : List ℕ). length p % 64) same-pending;
        waiting = waiting-rest h ∙ ap rest same-pending ∙ sym (waiting-rest g);
        total = ap (λ (t : ℕ). (t + length d) % 2 ^ 64) k.total;
      }

  -- alike states stay alike
  pub alike-update : Alike (updated h d).hasher (updated g d).hasher
  unfolding updated
  alike-update = by (ltb h.buffer_len 64) refl
    where
      by : (b : Bool) → ltb h.buffer_len 64 ≡ b → Alike (updated h d).hasher (updated g d).hasher
      by true e = let f : ltb g.buffer_len 64 ≡ true = ap (λ (n : ℕ). ltb n 64) (sym k.fill) ∙ e in rw (e, f) alike-taken
      by false e = let f : ltb g.buffer_len 64 ≡ false = ap (λ (n : ℕ). ltb n 64) (sym k.fill) ∙ e in rw (e, f) k

-- so through any further updates the digests are the same
pub alike-fed : (h g : Sm3) (ds : List (List ℕ)) → Alike h g → finalized (fed h ds) ≡ finalized (fed g ds)
unfolding fed
alike-fed h g [] k = alike_digest h g k
alike-fed h g (d ∷ ds) k = alike-fed (updated h d).hasher (updated g d).hasher ds (alike-update h g d k)
