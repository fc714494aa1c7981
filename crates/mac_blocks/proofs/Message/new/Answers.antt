-- `mac_blocks::Message::new` meets its contract: the smaller of two lengths, by their comparison. Assumes nothing.
use mathlib.Core.Bool.{cond}
use mathlib.Core.List.{List, ◌++◌}
use mathlib.Core.Path.{◌≡◌, sym, ap, ◌∙◌}
use Prim.Native.Nat.{ℕ, min}
use native.Mathlib.Omega.{arith}
use borrow.Author.Tests.{ltb-true, ltb-false}
use lib.Dec.{ltb}
use lib.ListN.{length, take}
use Rattle.std.proofs.lemmas.List.{take_min}
use Rattle.words.proofs.Lists.{cond_is}
use Rattle.words.proofs.Choice.{chosen_by}
use Rattle.mac_blocks.proofs.Message.new.Goals as goal

-- the smaller of two
smaller : (a b : ℕ) → min a b ≡ cond (ltb b a) b a
smaller a b =
    cond_is (ltb b a) (λ t. omega (arith, ltb-true b a t)) (λ f. omega (arith, ltb-false b a f))

-- the length that is held
module _ (c : goal.After-select-held) where
  held : c.select-held.result ≡ min c.args.plaintext_len (length c.args.«data».now)
  held =
      c.select-held.ensures
      ∙ chosen_by (ltb (length c.args.«data».now) c.args.plaintext_len) _ _ c.ct_lt_usize-longer.ensures
      ∙ sym (smaller c.args.plaintext_len (length c.args.«data».now))

pub invariant_of-result : goal.invariant_of-result
invariant_of-result c = omega (arith, held c)

pub returns : goal.returns
returns c =
    let a = c.args in
    let d : List ℕ = a.«data».now in
    ap (λ (k : ℕ). a.header ++ take k d) (held c) ∙ ap (λ (l : List ℕ). a.header ++ l) (take_min a.plaintext_len d)
