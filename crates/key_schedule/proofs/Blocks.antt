-- P_hash a block at a time: the first block, and then the rest by the same rule from the next A. Assumes nothing.
use mathlib.Core.List.{List, ◌++◌, append-nil, append_assoc}
use mathlib.Core.Path.{◌≡◌, refl, sym, ap, ap₂, ◌∙◌}
use Prim.Native.Nat.{ℕ, zero, suc, ◌+◌, ◌-◌, ◌≤◌, ◌<◌}
use native.Mathlib.Omega.{arith}
use lib.ListN.{length, take}
use lib.Seq.{length-take-le, take-append-add}
use Rattle.words.proofs.Lists.{join_ext, length_join}
use Rattle.words.specs.Lists.{join}
use Rattle.key_schedule.specs.Rest.{block_from, rest}
use Rattle.key_schedule.specs.Standard.{A, block, blocks, P_hash}
use Rattle.key_schedule.proofs.Depth.{blocks_more, blocks_some, blocks_enough}

module _ (M : List ℕ → List ℕ → List ℕ) (secret seed : List ℕ) where
  -- one step at the start is one step at the end
  A-next : (a : List ℕ) (i : ℕ) → A M secret (M secret a) i ≡ A M secret a (suc i)
  unfolding A
  A-next a zero = refl
  A-next a (suc i) = ap (M secret) (A-next a i)

  -- the blocks from the next A on are those behind the first
  block_from-next : (a : List ℕ) (j : ℕ) → block_from M secret seed (M secret a) j ≡ block_from M secret seed a (suc j)
  unfolding block_from
  block_from-next a j = ap (λ (x : List ℕ). M secret (x ++ seed)) (A-next a j)

  -- the first block, and then the others
  join_front : (a : List ℕ) (m : ℕ)
      → join (suc m) (block_from M secret seed a) ≡ M secret (a ++ seed) ++ join m (block_from M secret seed (M secret a))
  unfolding join block_from A
  join_front a zero = sym (append-nil (M secret (a ++ seed)))
  join_front a (suc m) =
      ap₂ (λ (x y : List ℕ). x ++ y) (join_front a m) (sym (block_from-next a m))
      ∙ append_assoc (M secret (a ++ seed)) (join m (block_from M secret seed (M secret a))) (block_from M secret seed (M secret a) m)

  -- P_hash is the rest from A(1) on
  pub P_hash-start : (n : ℕ) → P_hash M secret seed n ≡ rest M secret seed (M secret seed) n
  unfolding P_hash rest block block_from
  P_hash-start n =
      ap (take n)
      (join_ext (blocks n) (block M secret seed) (block_from M secret seed (M secret seed))
      (λ k _. sym (block_from-next seed k)))

  module _ (digest : (x : List ℕ) → length (M secret x) ≡ 32) where
    -- as many bytes as asked for
    pub length_rest : (a : List ℕ) (n : ℕ) → length (rest M secret seed a n) ≡ n
    unfolding rest block_from
    length_rest a n =
        length-take-le n (join (blocks n) (block_from M secret seed a))
        (rw (length_join 32 (block_from M secret seed a) (blocks n) (λ k _. digest (A M secret a k ++ seed))) (blocks_enough n))

    -- and so has P_hash
    pub length_P_hash : (n : ℕ) → length (P_hash M secret seed n) ≡ n
    length_P_hash n = ap length (P_hash-start n) ∙ length_rest (M secret seed) n

    -- at most a block: the first one, cut
    pub rest-last : (a : List ℕ) (n : ℕ) → n ≤ 32 → rest M secret seed a n ≡ take n (M secret (a ++ seed))
    unfolding rest join
    rest-last a zero h = refl
    rest-last a (suc n) h =
        rw (blocks_some (suc n) (omega arith) h)
        (ap (take (suc n)) (join_front a 0 ∙ append-nil (M secret (a ++ seed))))

    -- more than a block: the first one whole, and the rest from the next A on
    pub rest_more : (a : List ℕ) (n : ℕ) → 32 < n
        → rest M secret seed a n ≡ M secret (a ++ seed) ++ rest M secret seed (M secret a) (n - 32)
    unfolding rest
    rest_more a n h =
        let first = M secret (a ++ seed) in
        let others = join (blocks (n - 32)) (block_from M secret seed (M secret a)) in
        let e : n ≡ length first + (n - 32) = omega (arith, digest (a ++ seed)) in
        rw (blocks_more n h, join_front a (blocks (n - 32)))
        (ap (λ (k : ℕ). take k (first ++ others)) e ∙ take-append-add first others (n - 32))
