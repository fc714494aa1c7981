-- `sm3_compress::one_round` meets its contract: the standard's words one after the other, each what its call
-- ensures. Assumes nothing.
use mathlib.Core.List.{[], ◌∷◌}
use mathlib.Core.Path.{◌≡◌}
use Prim.Native.Nat.{ℕ, ◌+◌, ◌%◌, ◌^◌}
use lib.Bits.{bit_xor}
use Rattle.words.specs.Word.{◌⊕◌, ◌⋘◌}
use Rattle.sm3_compress.specs.Standard.{T, FF, GG, P0, round, ABCDEFGH, SS1, SS2, TT1, TT2}
use Rattle.sm3_compress.proofs.one_round.Goals as goal

-- words found in the standard's order are the standard's
in_order : {a12 tj turned sum ss1 ff gg tt1 tt2 b9 f19 e : ℕ} (j w w' A B C D E F G H : ℕ) → a12 ≡ A ⋘ 12 → tj ≡ T j
    → turned ≡ tj ⋘ (j % 32) → sum ≡ (a12 + E + turned) % 2 ^ 32 → ss1 ≡ sum ⋘ 7 → ff ≡ FF j A B C
    → tt1 ≡ (ff + D + bit_xor ss1 a12 + w') % 2 ^ 32 → gg ≡ GG j E F G → tt2 ≡ (gg + H + ss1 + w) % 2 ^ 32 → b9 ≡ B ⋘ 9
    → f19 ≡ F ⋘ 19 → e ≡ P0 tt2 → tt1 ∷ A ∷ b9 ∷ C ∷ e ∷ E ∷ f19 ∷ G ∷ [] ≡ ABCDEFGH j w w' A B C D E F G H
unfolding ABCDEFGH SS1 SS2 TT1 TT2 ◌⊕◌
in_order j w w' A B C D E F G H of-a12 of-tj of-turned of-sum of-ss1 of-ff of-tt1 of-gg of-tt2 of-b9 of-f19 of-e =
    rw (of-e, of-f19, of-b9, of-tt2, of-gg, of-tt1, of-ff, of-ss1, of-sum, of-turned, of-tj, of-a12)

pub returns : goal.returns
unfolding round
returns c =
    in_order _ _ _ _ _ _ _ _ _ _ _ c.rotate_left-a12.ensures c.t.ensures
    c.rotate_left.ensures c.wrapping_add3.ensures c.rotate_left-ss1.ensures c.ff.ensures
    c.wrapping_add4-tt1.ensures c.gg.ensures c.wrapping_add4-tt2.ensures
    c.rotate_left-b9.ensures c.rotate_left-f19.ensures c.p0-e_next.ensures
