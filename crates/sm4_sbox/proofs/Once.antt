-- The S-box holds bytes, and every byte value once: one test over the 256 entries, by the places of `places`.
-- Assumes nothing.
use mathlib.Core.Bool.{Bool, true, false, ◌&&◌}
use mathlib.Core.Path.{◌≡◌, refl, sym, ap, ◌∙◌}
use Prim.Native.Nat.{ℕ, ◌<◌}
use borrow.Author.Tests.{ltb-true, ltb-false}
use lib.Dec.{T, eqb, ltb, eqb→eq, ltb→lt, lit<}
use lib.ListN.{get_or, get_or-eq_default}
use Rattle.sm4_sbox.specs.Standard.{sbox_table, Sbox}
use Rattle.sm4_sbox.specs.Once.{Once}
use Rattle.sm4_sbox.proofs.Inverse.{places}
use Rattle.sm4_sbox.proofs.Table.{every, both, at_entry}

-- the entry x at k is a byte, k is where x stands, and k itself stands at a place of the table
right : ℕ → ℕ → Bool
right k x =
    (ltb x 256 && eqb (get_or places x 0) k) && (ltb (get_or places k 0) 256 && eqb (get_or sbox_table (get_or places k 0) 0) k)

-- the one test, over the whole table
tested : T (every right 0 sbox_table)
unfolding right sbox_table places
tested = tt

module _ (k : ℕ) (h : k < 256) where
  -- the test at place k
  checked : T (right k (get_or sbox_table k 0))
  unfolding sbox_table
  checked = at_entry right sbox_table tested k h

  -- its four parts
  entry : (T (ltb (Sbox k) 256) × T (eqb (get_or places (Sbox k) 0) k))
      × (T (ltb (get_or places k 0) 256) × T (eqb (Sbox (get_or places k 0)) k))
  unfolding right Sbox
  entry =
      let byte = ltb (Sbox k) 256 in
      let back = eqb (get_or places (Sbox k) 0) k in
      let within = ltb (get_or places k 0) 256 in
      let forth = eqb (Sbox (get_or places k 0)) k in
      let halves = both (byte && back) (within && forth) checked in
      (both byte back halves.0, both within forth halves.1)

-- every entry is a byte; past the table 0
pub Sbox-byte : (x : ℕ) → Sbox x < 256
unfolding Sbox sbox_table
Sbox-byte x = by (ltb x 256) refl
  where
    by : (b : Bool) → ltb x 256 ≡ b → Sbox x < 256
    by true e = ltb→lt (Sbox x) 256 (entry x (ltb-true x 256 e)).0.0
    by false e = rw (get_or-eq_default sbox_table 0 (ltb-false x 256 e)) (lit< tt)

-- every byte value has a place, and no second one
pub once : Once
once =
    record {
      at_least = λ y h.
          let p = (entry y h).1 in
          record {
            place = get_or places y 0;
            below = ltb→lt (get_or places y 0) 256 p.0;
            holds = eqb→eq (Sbox (get_or places y 0)) y p.1;
          };
      at_most = λ i j hi hj e.
          sym (eqb→eq (get_or places (Sbox i) 0) i (entry i hi).0.1)
          ∙ ap (λ (x : ℕ). get_or places x 0) e
          ∙ eqb→eq (get_or places (Sbox j) 0) j (entry j hj).0.1;
    }
