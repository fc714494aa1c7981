-- `sm4::select4` meets its contract. The loop's invariant: each of the four sums and what is still to be added to it
-- are the S-box at its byte. Assumes nothing.
use mathlib.Core.Logic.{◌⊎◌, inl, inr}
use mathlib.Core.Path.{◌≡◌}
use native.Mathlib.Omega.{arith}
use borrow.Author.Rules.{rules}
use lib.ListN.{length}
use Rattle.std.specs.Iterator.Adapters.{zip_first, zip_second}
use Rattle.std.specs.Slice.Iter.{iter_rest}
use Rattle.sm4_sbox.specs.declared.TheConstants.{S_BOX, COUNT}
use Rattle.sm4_sbox.proofs.Pass.{passing_turn, passing_fits, passing_none}
use Rattle.sm4_sbox.proofs.Start.{passing_start}
use Rattle.sm4.proofs.select4.Goals as goal

pub loop-entry-init : goal.loop-entry-init
loop-entry-init c =
    let entries : iter_rest (zip_first c.into_iter-entry-iterator.result) ≡ S_BOX = search rules in
    let places : iter_rest (zip_second c.into_iter-entry-iterator.result) ≡ COUNT = search rules in
    rw (entries, places)
    (record { first = passing_start _; second = passing_start _; third = passing_start _; fourth = passing_start _ })

pub overflow_add-ra : goal.overflow_add-ra
overflow_add-ra c =
    let sum = c.loop-entry.invariant.first in
    omega (arith, passing_fits sum c.in-Some.ensures.steps c.ct_eq.ensures c.select-ra.ensures)

pub overflow_add-rb : goal.overflow_add-rb
overflow_add-rb c =
    let sum = c.loop-entry.invariant.second in
    omega (arith, passing_fits sum c.in-Some.ensures.steps c.ct_eq-in-loop-entry.ensures c.select-rb.ensures)

pub overflow_add-rc : goal.overflow_add-rc
overflow_add-rc c =
    let sum = c.loop-entry.invariant.third in
    omega (arith, passing_fits sum c.in-Some.ensures.steps c.ct_eq-in-loop-entry-2.ensures c.select-rc.ensures)

pub overflow_add-rd : goal.overflow_add-rd
overflow_add-rd c =
    let sum = c.loop-entry.invariant.fourth in
    omega (arith, passing_fits sum c.in-Some.ensures.steps c.ct_eq-in-loop-entry-3.ensures c.select-rd.ensures)

pub loop-entry-preserved : goal.loop-entry-preserved
loop-entry-preserved c =
    let sums = c.loop-entry.invariant in
    let pair = c.in-Some.ensures.steps in
    record {
      first = passing_turn sums.first pair c.ct_eq.ensures c.select-ra.ensures;
      second = passing_turn sums.second pair c.ct_eq-in-loop-entry.ensures c.select-rb.ensures;
      third = passing_turn sums.third pair c.ct_eq-in-loop-entry-2.ensures c.select-rc.ensures;
      fourth = passing_turn sums.fourth pair c.ct_eq-in-loop-entry-3.ensures c.select-rd.ensures;
    }

pub returns : goal.returns
returns c =
    let s = c.loop-entry.invariant in
    let left = c.loop-entry.entry-iterator in
    let none : (length left.a.rest.now ≡ 0) ⊎ (length left.b.rest.now ≡ 0) =
    elim c.in-None.ensures.steps [ inl w ↦ inl w.1.0 | inr w ↦ inr w.1.0 ] in
    rw (passing_none s.first none, passing_none s.second none, passing_none s.third none, passing_none s.fourth none)
