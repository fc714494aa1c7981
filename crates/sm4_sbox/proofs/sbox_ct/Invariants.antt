-- `sm4_sbox::sbox_ct` meets its contract. The loop's invariant: r and what is still to be added are the S-box at x.
-- Assumes nothing.
use Rattle.sm4_sbox.proofs.Pass.{Passing}
use Rattle.sm4_sbox.proofs.sbox_ct.Given as goal

abbrev pub invariant-loop-entry : goal.invariant-loop-entry
invariant-loop-entry l = Passing l.entry-iterator.a.rest.now l.entry-iterator.b.rest.now l.x l.r
