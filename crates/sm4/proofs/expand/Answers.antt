-- `sm4::expand` meets its contract. The loop's invariant: the first i round keys are there, those from k on are still
-- to come, and the other places hold their CK. Assumes nothing.
use mathlib.Core.Bool.{Bool}
use mathlib.Core.List.{◌++◌}
use mathlib.Core.Path.{◌≡◌, refl, sym, ap, ◌∙◌}
use Prim.Native.Nat.{ℕ, ◌+◌, ◌-◌, ◌<◌}
use native.Mathlib.Omega.{arith}
use lib.Dec.{eqb, eqb→eq}
use lib.ListN.{length, get_or, take, set, length-set}
use Rattle.std.proofs.lemmas.List.{get_or-set_other}
use Rattle.words.specs.Bytes.{number}
use Rattle.words.specs.Lists.{table}
use Rattle.sm4_sbox.proofs.Table.{at_entry}
use Rattle.sm4.specs.declared.Quad.{Quad}
use Rattle.sm4.specs.declared.TheConstants.{CK as CODE_CK}
use Rattle.sm4.specs.Standard.{ck, CK, key_round, keys_from}
use Rattle.sm4.proofs.Rounds.{key_round_by, keys-more, keys-done}
use Rattle.sm4.proofs.expand.Goals as goal

-- the test of one entry of the table
right : ℕ → ℕ → Bool
right i x = eqb x (CK i)

-- the code's table keeps the rule of CK, by one test over its 32 entries
rule : (i : ℕ) → i < 32 → get_or CODE_CK i 0 ≡ CK i
unfolding right CK ck number table
rule i h = eqb→eq (get_or CODE_CK i 0) (CK i) (at_entry right CODE_CK tt i h)

pub loop-key-init : goal.loop-key-init
loop-key-init c = record { long = refl; done = refl; left = λ j _ h. rule j h }

pub loop-key-preserved : goal.loop-key-preserved
loop-key-preserved c =
    let l = c.loop-key in
    let i = l.key-index in
    let keys = l.key-items in
    let x = c.round-k.result.x3 in
    let len : length keys ≡ 32 = l.invariant.long in
    let here = l.invariant.left i (omega arith) (omega arith) in
    let e = key_round_by l.k _ _ c.round-k.ensures ∙ ap (key_round l.k) here in
    record {
      long = length-set keys i x ∙ len;
      done = ap (λ (q : Quad). take (i + 1) (set keys i q.x3) ++ keys_from q (i + 1) (32 - (i + 1))) e
          ∙ keys-more keys l.k i 32 (omega arith) (omega arith)
          ∙ l.invariant.done;
      left = λ j b h.
          let other : ¬ (j ≡ i) = λ same. omega arith in
          get_or-set_other keys i j x 0 other ∙ l.invariant.left j (omega arith) h;
    }

pub returns : goal.returns
returns c =
    let l = c.loop-key in
    let len : length l.key-items ≡ 32 = l.invariant.long in
    sym (keys-done l.key-items l.k l.key-index 32 (omega arith) (omega arith)) ∙ l.invariant.done
