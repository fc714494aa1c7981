-- `Sm4Cipher::encrypt_block` meets its contract. The loop's invariant: the rounds still to come from x are all rounds
-- from the first words. Assumes nothing.
use mathlib.Core.List.{List}
use mathlib.Core.Path.{◌≡◌, sym, ap, ◌∙◌}
use Prim.Native.Nat.{ℕ, ◌+◌}
use native.Mathlib.Omega.{arith}
use borrow.Author.Rules.{rules}
use lib.ListN.{length, drop}
use Rattle.sm4.specs.declared.Quad.{Quad}
use Rattle.sm4.specs.Standard.{bytes_of, rounds, R, encrypt}
use Rattle.sm4.proofs.Rounds.{round_by, rounds-more, rounds-done}
use Rattle.sm4.proofs.Sm4Cipher.encrypt_block.Goals as goal

pub loop-rk-preserved : goal.loop-rk-preserved
loop-rk-preserved c =
    let l = c.loop-rk in
    let rks : List ℕ = c.args.self.round_keys in
    let len : length rks ≡ 32 = search rules in
    ap (λ (q : Quad). rounds q (drop (l.rk-index + 1) rks)) (round_by l.x _ _ c.round-x.ensures)
    ∙ rounds-more l.x rks l.rk-index (omega arith)
    ∙ l.invariant

pub returns : goal.returns
unfolding encrypt
returns c =
    let l = c.loop-rk in
    let rks : List ℕ = c.args.self.round_keys in
    let len : length rks ≡ 32 = search rules in
    c.store.ensures
    ∙ ap (λ (q : Quad). bytes_of (R q))
    (sym (rounds-done l.x rks l.rk-index (omega arith)) ∙ l.invariant ∙ ap (λ (q : Quad). rounds q rks) c.load-x.ensures)
