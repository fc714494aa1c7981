-- `sm4_sbox::sbox_ct` meets its contract. The loop's invariant: r and what is still to be added are the S-box at x.
-- Assumes nothing.
use mathlib.Core.Logic.{inl, inr}
use mathlib.Core.Path.{◌≡◌}
use native.Mathlib.Omega.{arith}
use borrow.Author.Rules.{rules}
use Rattle.std.specs.Iterator.Adapters.{zip_first, zip_second}
use Rattle.std.specs.Slice.Iter.{iter_rest}
use Rattle.sm4_sbox.specs.declared.TheConstants.{S_BOX, COUNT}
use Rattle.sm4_sbox.proofs.Pass.{passing_turn, passing_fits, passing_none}
use Rattle.sm4_sbox.proofs.Start.{passing_start}
use Rattle.sm4_sbox.proofs.sbox_ct.Goals as goal

pub loop-entry-init : goal.loop-entry-init
loop-entry-init c =
    let entries : iter_rest (zip_first c.into_iter-entry-iterator.result) ≡ S_BOX = search rules in
    let places : iter_rest (zip_second c.into_iter-entry-iterator.result) ≡ COUNT = search rules in
    rw (entries, places) (passing_start c.args.x)

pub loop-entry-preserved : goal.loop-entry-preserved
loop-entry-preserved c = passing_turn c.loop-entry.invariant c.in-Some.ensures.steps c.ct_eq.ensures c.select-r.ensures

pub overflow_add-r : goal.overflow_add-r
overflow_add-r c =
    omega (arith, passing_fits c.loop-entry.invariant c.in-Some.ensures.steps c.ct_eq.ensures c.select-r.ensures)

pub returns : goal.returns
returns c = passing_none c.loop-entry.invariant (elim c.in-None.ensures.steps [ inl w ↦ inl w.1.0 | inr w ↦ inr w.1.0 ])
