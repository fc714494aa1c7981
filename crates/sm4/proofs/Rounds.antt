-- What one turn of the loops over the round keys does to what is still to come. Assumes nothing.
use mathlib.Core.List.{List, [], ◌∷◌, ◌++◌, append_assoc, append-nil}
use mathlib.Core.Path.{◌≡◌, sym, ap, ◌∙◌}
use Prim.Native.Nat.{ℕ, suc, ◌+◌, ◌-◌, ◌≤◌, ◌<◌}
use native.Mathlib.Numerals.{add-one}
use native.Mathlib.Omega.{arith}
use lib.ListN.{length, get_or, set, take, drop, drop_of_length-le}
use lib.Seq.{drop-cons, take-suc-set, take_all}
use Rattle.sm4.specs.declared.Quad.{Quad}
use Rattle.words.specs.Word.{◌⊕◌}
use Rattle.sm4.specs.Standard.{tau, L, T, F, moved, round, rounds, L', T', CK, key_round, keys_from}

-- a round as the code makes it, by L: what the call of L gave comes behind three words
pub round_by : (X : Quad) (rk : ℕ) (Y : Quad)
    → ((y : ℕ) × (y ≡ L (tau (X.x1 ⊕ X.x2 ⊕ X.x3 ⊕ rk))) × (Y ≡ moved X (X.x0 ⊕ y))) → Y ≡ round X rk
unfolding round F T
round_by X rk Y (y, e, is) = is ∙ ap (λ (w : ℕ). moved X (X.x0 ⊕ w)) e

-- and by L'
pub key_round_by : (K : Quad) (ck : ℕ) (Y : Quad)
    → ((y : ℕ) × (y ≡ L' (tau (K.x1 ⊕ K.x2 ⊕ K.x3 ⊕ ck))) × (Y ≡ moved K (K.x0 ⊕ y))) → Y ≡ key_round K ck
unfolding key_round T'
key_round_by K ck Y (y, e, is) = is ∙ ap (λ (w : ℕ). moved K (K.x0 ⊕ w)) e

module _ (X : Quad) (rks : List ℕ) (i : ℕ) where
  -- the round with key i, and those behind it
  pub rounds-more : i < length rks → rounds (round X (get_or rks i 0)) (drop (i + 1) rks) ≡ rounds X (drop i rks)
  unfolding rounds
  rounds-more h = rw (add-one i) (ap (rounds X) (sym (drop-cons rks i 0 h)))

  -- past the last key
  pub rounds-done : length rks ≤ i → rounds X (drop i rks) ≡ X
  unfolding rounds
  rounds-done h = rw (drop_of_length-le rks h)

module _ (rk : List ℕ) (K : Quad) (i n : ℕ) where
  -- one round key more
  pub keys-more : i < length rk → i < n
      → take (i + 1) (set rk i (key_round K (CK i)).x3) ++ keys_from (key_round K (CK i)) (i + 1) (n - (i + 1))
      ≡ take i rk ++ keys_from K i (n - i)
  unfolding keys_from
  keys-more h b =
      let next = key_round K (CK i) in
      let e : n - i ≡ suc (n - suc i) = omega arith in
      rw (add-one i, take-suc-set rk i next.x3 h, e)
      (append_assoc (take i rk) (next.x3 ∷ []) (keys_from next (suc i) (n - suc i)))

  -- past the last one
  pub keys-done : length rk ≤ i → n ≤ i → take i rk ++ keys_from K i (n - i) ≡ rk
  unfolding keys_from
  keys-done h b =
      let e : n - i ≡ 0 = omega arith in
      rw e (append-nil (take i rk) ∙ take_all i rk h)
