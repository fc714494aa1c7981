-- The schedule's blocks are those of the message with its ending, so the words after the final one are the inner hash, and HMAC
-- of RFC 2104 follows; the blocks behind it are zero. Assumes nothing.
use mathlib.Core.Bool.{Bool, true, false, cond}
use mathlib.Core.List.{List}
use mathlib.Core.Path.{◌≡◌, refl, sym, ap, ap₂, ◌∙◌}
use Prim.Native.Nat.{ℕ, zero, suc, ◌/◌, ◌≤◌, ◌<◌}
use native.Mathlib.Omega.{arith}
use borrow.Author.Tests.{leb-true, leb-false, eqb-true, eqb-false, le-leb, lt-leb}
use lib.Arith.{lt_of_le-ne}
use lib.Dec.{leb, eqb}
use lib.ListN.{length, get_or, replicate, get_or-eq_default}
use Rattle.words.proofs.Lists.{table_ext, as_table, length-table, get_or-table, length-block, get_or-block, get_or-replicate_self}
use Rattle.words.specs.Lists.{block}
use Rattle.sm3_compress.specs.Standard.{CF}
use Rattle.sm3.specs.Standard.{iterated, iteration, bytes_of, SM3}
use Rattle.hmac.proofs.Mac.{inner_block, outer_block, mac-blocks}
use Rattle.hmac.specs.Rfc2104.{HMAC}
use Rattle.mac_blocks.specs.Schedule.{ended, byte_at, schedule, final, absorbed, inner_key, outer_key, outer_digest}
use Rattle.mac_blocks.proofs.Byte.{length-ended}

-- a block of the schedule, byte by byte
pub length-schedule : (m : List ℕ) (b : ℕ) → length (schedule m b) ≡ 64
unfolding schedule
length-schedule m b = length-table (byte_at m b) 64

pub get_or-schedule : (m : List ℕ) (b i : ℕ) → i < 64 → get_or (schedule m b) i 0 ≡ byte_at m b i
unfolding schedule
get_or-schedule m b i h = get_or-table (byte_at m b) 64 i 0 h

-- behind the final block all bytes are zero
pub schedule-zero : (m : List ℕ) (b : ℕ) → final m < b → schedule m b ≡ replicate 64 0
unfolding schedule byte_at
schedule-zero m b h =
    table_ext (byte_at m b) (λ i. get_or (replicate 64 0) i 0) 64
    (λ i k. get_or-eq_default (ended m) 0 (omega (arith, length-ended m)) ∙ sym (get_or-replicate_self 64 i 0))
    ∙ sym (as_table (replicate 64 0) 64 refl)

-- up to it, block b is that of the message with its ending
schedule-block : (m : List ℕ) (b : ℕ) → b ≤ final m → schedule m b ≡ block 64 b (ended m)
unfolding schedule byte_at
schedule-block m b h =
    table_ext (byte_at m b) (λ i. get_or (block 64 b (ended m)) i 0) 64 (λ i k. sym (get_or-block 64 b (ended m) i 0 k))
    ∙ sym (as_table (block 64 b (ended m)) 64 (length-block 64 b (ended m) (omega (arith, length-ended m))))

-- the words after the first j blocks
absorbed-iterated : (v m : List ℕ) (j : ℕ) → j ≤ suc (final m) → absorbed v m j ≡ iterated v (ended m) j
unfolding absorbed iterated
absorbed-iterated v m zero h = refl
absorbed-iterated v m (suc j) h = ap₂ CF (absorbed-iterated v m j (omega arith)) (schedule-block m j (omega arith))

-- after the final block they are those of the message with its ending
pub absorbed-iteration : (v m : List ℕ) → absorbed v m (suc (final m)) ≡ iteration v (ended m)
unfolding iteration
absorbed-iteration v m =
    let n : length (ended m) / 64 ≡ suc (final m) = omega (arith, length-ended m) in
    rw n (absorbed-iterated v m (suc (final m)) (omega arith))

-- HMAC of RFC 2104 over SM3, block by block
pub tag-blocks : (K m : List ℕ) → HMAC SM3 K m ≡ bytes_of (outer_digest (outer_key K) (absorbed (inner_key K) m (suc (final m))))
unfolding outer_digest outer_key inner_key ended inner_block outer_block
tag-blocks K m =
    mac-blocks K m
    ∙ ap (λ (w : List ℕ). bytes_of (outer_digest (outer_key K) w)) (sym (absorbed-iteration (inner_key K) m))

-- what is kept at step f of a run a, and was z before
pub keep_turn : (j f : ℕ) (a : ℕ → List ℕ) (z : List ℕ)
    → cond (eqb j f) (a (suc j)) (cond (leb j f) z (a (suc f))) ≡ cond (leb (suc j) f) z (a (suc f))
keep_turn j f a z = by (eqb j f) refl (leb j f) refl
  where
    by : (s : Bool) → eqb j f ≡ s → (t : Bool) → leb j f ≡ t
        → cond s (a (suc j)) (cond t z (a (suc f))) ≡ cond (leb (suc j) f) z (a (suc f))
    by true e t g = rw (lt-leb (suc j) f (omega (arith, eqb-true)), eqb-true j f e)
    by false e true g = rw (le-leb (suc j) f (lt_of_le-ne (leb-true j f g) (eqb-false j f e)))
    by false e false g = rw (lt-leb (suc j) f (omega (arith, leb-false)))
