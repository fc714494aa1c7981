-- `sm3_lent::hash_two` meets its contract: however a message is cut into updates, its digest is that of the whole (`cut`).
-- Assumes nothing.
use mathlib.Core.List.{List, [], ◌∷◌, ◌++◌, append-nil}
use mathlib.Core.Path.{◌≡◌, refl, ap, ◌∙◌}
use Prim.Native.Nat.{ℕ, ◌<◌}
use native.Mathlib.Omega.{arith}
use Rattle.sm3.specs.Cutting.{joined, fed}
use Rattle.sm3.specs.State.{Digest, fresh, finalized, hashed}
use Rattle.sm3.proofs.Cutting.{cut, fed-fits}
use Rattle.sm3.proofs.OneOutcome.{digest-ok}
use Rattle.sm3_lent.proofs.hash_two.Goals as goal

-- two parts
cut_in_two : (a b : List ℕ) → finalized (fed fresh (a ∷ b ∷ [])) ≡ hashed (a ++ b)
unfolding joined
cut_in_two a b = cut (a ∷ b ∷ []) ∙ ap (λ (l : List ℕ). hashed (a ++ l)) (append-nil b)

-- it is not refused
in_range : (a b : List ℕ) → (fed fresh (a ∷ b ∷ [])).buffer_len < 64
unfolding fresh
in_range a b = fed-fits fresh (a ∷ b ∷ []) (omega arith)

pub unwrap-requires : goal.unwrap-requires
unwrap-requires c =
    let h = c.fed_twice.result in
    let fits : h.buffer_len < 64 = rw c.fed_twice.ensures (in_range c.args.first.now c.args.second.now) in
    rw (digest-ok h c.finalize.result fits c.finalize.ensures) refl

pub returns : goal.returns
returns c =
    ap (λ (d : Digest). d.bytes) (rw c.unwrap.ensures at c.finalize.ensures ∙ ap finalized c.fed_twice.ensures ∙ cut_in_two _ _)
